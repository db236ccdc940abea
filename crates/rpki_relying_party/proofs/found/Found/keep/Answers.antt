-- A payload and a refusal are each kept among their own.
use Rattle.std.proofs.Common.{refl, sym, subst}
use Rattle.std.specs.Prelude.{OnOk}
use Rattle.rpki_relying_party.specs.Found.{KeepsFinding}
use Rattle.rpki_relying_party.specs.declared.found.Finding.{Finding}
use Rattle.rpki_relying_party.specs.declared.found.Finding.TheVariants as findings
use Rattle.rpki_relying_party.specs.declared.found.Found.{Found}
use Rattle.rpki_relying_party.specs.declared.found.Refusal.{Refusal}
use Rattle.rpki_relying_party.proofs.Kept.{onward, keeps-payload}
use Rattle.rpki_relying_party.proofs.found.Found.keep.Goals as goal

pub returns-in-Payload : goal.returns-in-Payload
returns-in-Payload c =
    let old = c.args.self.now in
    let new : Found = record { payloads = c.keep.new.self; refusals = old.refusals } in
    subst (λ (x : Finding). OnOk c.keep.result (KeepsFinding x old new)) (sym c.in-Payload.is)
    (onward c.keep.result
    (λ k. keeps-payload c.in-Payload.payload c.in-Payload.held old new k refl) c.keep.ensures)

pub returns-in-Refusal : goal.returns-in-Refusal
returns-in-Refusal c =
    let old = c.args.self.now in
    subst (λ (x : Finding). OnOk c.refuse.result (KeepsFinding x old c.refuse.new.self))
    (sym c.in-Refusal.is)
    (subst (λ (r : Refusal).
    OnOk c.refuse.result (KeepsFinding (findings.Refusal r) old c.refuse.new.self))
    c.into_refusal.ensures c.refuse.ensures)
