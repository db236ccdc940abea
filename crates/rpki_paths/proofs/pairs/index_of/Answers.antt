-- The index of the identifiers is that of the others.
use Rattle.std.proofs.Common.{◌∙◌, subst}
use Rattle.std.specs.Prelude.{IfOk}
use Rattle.rpki_paths.specs.Index.{IsIndex}
use Rattle.rpki_paths.proofs.pairs.index_of.Goals as goal

pub returns : goal.returns
returns g c =
    subst (λ ids. IfOk c.of.result (IsIndex ids)) (c.deref.ensures.value ∙ c.in_ok-ids.ensures)
    c.of.ensures
