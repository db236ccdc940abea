use Rattle.std.proofs.Common.{inl, inr, refl, sym, ◌∙◌, true≢false, ◌≡◌}
use Rattle.rpki_relying_party.specs.declared.cause.Stop.{Stop}
use Rattle.rpki_relying_party.specs.declared.cause.Stop.TheVariants.{Memory}
use Rattle.rpki_relying_party.proofs.Outcomes.{done-as}
use Rattle.rpki_relying_party.proofs.files.refuse_cert.Goals as goal

pub returns-in-Ok-true-clause-said : goal.returns-in-Ok-true-clause-said
returns-in-Ok-true-clause-said c =
    inl (c.in-Ok-true.ensures.0 c.in-Ok-true.field-0-test, refl)

pub returns-in-Ok-false-clause-said : goal.returns-in-Ok-false-clause-said
returns-in-Ok-false-clause-said c = done-as (λ (stop : Stop). stop ≡ Memory) c.refuse.result
    (λ e. inr (λ h. true≢false (sym (c.in-Ok-false.ensures.1 h) ∙ c.in-Ok-false.field-0-test), e))
    (rw c.plain_issuer.ensures at c.refuse.ensures)
