use Rattle.std.proofs.Common.{◌∙◌, ap, sym, lit<, rules, tests}
use Rattle.std.specs.List.{slice_split}
use Rattle.std.proofs.lemmas.Iterator.Search.{all_from_yields_List}
use Rattle.std.proofs.lemmas.Iterator.Splits.{YieldsList-from_str_split}
use Rattle.rpki_cli.specs.Words.{are_named, is_colon}
use Rattle.rpki_cli.proofs.Anchored.{chain-files, has_name, named-all}
use Rattle.rpki_cli.proofs.anchor_words.is_named.Goals as goal

pub returns-else-is_locator : goal.returns-else-is_locator
returns-else-is_locator c =
    all_from_yields_List has_name _ _ _ c.all.ensures.ran
    (YieldsList-from_str_split 58 c.path_of-else-is_locator.result.now (lit< tt)
    c.split.ensures.text c.split.ensures.has_more c.split.ensures.pattern)
    (λ x b q k. search (rules, tests))
    ∙ sym (named-all (slice_split is_colon c.path_of-else-is_locator.result.now))
    ∙ ap are_named (chain-files c.args.word.now c.path_of-else-is_locator.result.now
    c.is_locator.result c.is_locator.ensures c.if-is_locator.false
    c.path_of-else-is_locator.ensures)
