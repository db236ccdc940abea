use Rattle.std.proofs.Common.{◌∙◌, ap, List, ℕ, length, lit<}
use Rattle.std.proofs.lemmas.Iterator.Consumers.{count_from_yields_List}
use Rattle.std.proofs.lemmas.Iterator.Splits.{YieldsList-from_str_split}
use Rattle.rpki_cli.proofs.Anchored.{chain-files}
use Rattle.rpki_cli.proofs.anchor_words.count_of.Goals as goal

pub returns-else-is_locator : goal.returns-else-is_locator
returns-else-is_locator c =
    count_from_yields_List _ _ c.count.ensures.ran
    (YieldsList-from_str_split 58 c.path_of.result.now (lit< tt) c.split.ensures.text
    c.split.ensures.has_more c.split.ensures.pattern)
    ∙ ap (λ (files : List (List ℕ)). length files)
    (chain-files c.args.word.now c.path_of.result.now c.is_locator.result c.is_locator.ensures
    c.if-is_locator.false c.path_of.ensures)
