use Rattle.std.proofs.Common.{◌≡◌, List, ℕ, lit<, subst}
use Rattle.std.specs.Prelude.{IfOk}
use Rattle.std.proofs.lemmas.Iterator.Consumers.{map_from_collect}
use Rattle.std.proofs.lemmas.Iterator.Splits.{YieldsList-from_str_split}
use Rattle.rpki_cli.specs.Words.{texts}
use Rattle.rpki_cli.proofs.Anchored.{chain-files}
use Rattle.rpki_cli.proofs.anchor_words.files_of.Goals as goal

pub returns-else-is_locator : goal.returns-else-is_locator
returns-else-is_locator c =
    subst (λ (files : List (List ℕ)).
    IfOk c.collect.result (λ names. texts names.items ≡ files))
    (chain-files c.args.word.now c.path_of-else-is_locator.result.now c.is_locator.result
    c.is_locator.ensures c.if-is_locator.false c.path_of-else-is_locator.ensures)
    (map_from_collect _ c.collect.ensures.ran
    (YieldsList-from_str_split 58 c.path_of-else-is_locator.result.now (lit< tt)
    c.split.ensures.text c.split.ensures.has_more c.split.ensures.pattern))
