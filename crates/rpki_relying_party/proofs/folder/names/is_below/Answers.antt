use Rattle.std.proofs.Common.{rules}
use Rattle.std.proofs.lemmas.Iterator.Search.{all_from_yields_List}
use Rattle.std.proofs.lemmas.Iterator.Splits.{YieldsList-from_slice_split}
use Rattle.rpki_relying_party.specs.Names.{is_slash}
use Rattle.rpki_relying_party.proofs.Plain.{is_plain, below-found, same-plain}
use Rattle.rpki_relying_party.proofs.folder.names.is_below.Goals as goal

pub returns : goal.returns
returns c =
    below-found c.args.name.now c.all.result
    (all_from_yields_List is_plain _ _ _ c.all.ensures.ran
    (YieldsList-from_slice_split _ is_slash c.args.name.now c.split.ensures.rest
    c.split.ensures.done c.split.ensures.closure (λ x b q k. search rules))
    (λ x b q k. (search rules, same-plain x.now b (search rules))))
