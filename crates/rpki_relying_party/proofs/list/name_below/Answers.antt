use Rattle.std.proofs.Common.{List, ℕ, ◌++◌, sym, ap, ◌∙◌}
use Rattle.std.specs.Prelude.{codes, nat_eq}
use Rattle.std.specs.List.{ends_with}
use Rattle.rpki_relying_party.proofs.Crls.{after-slash}
use Rattle.rpki_relying_party.proofs.list.name_below.Goals as goal

pub returns-else-ends_with : goal.returns-else-ends_with
returns-else-ends_with c =
    after-slash c.after-else-ends_with.result c.args.folder.now c.args.uri.now c.in_ok-rest.rest.now
    (ap (λ (t : List ℕ). ends_with nat_eq t (codes "/")) (sym c.as_slice-3.ensures.octets)
    ∙ sym c.ends_with.ensures.value ∙ c.if-ends_with.false)
    (sym c.as_slice.ensures.octets ∙ c.in_ok-rest.ensures
    ∙ ap (λ (t : List ℕ). t ++ c.in_ok-rest.rest.now) c.as_slice-2.ensures.octets)
    c.after-else-ends_with.ensures
