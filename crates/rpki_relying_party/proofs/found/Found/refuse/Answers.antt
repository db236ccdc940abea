-- A refusal is kept among refusals.
use Rattle.std.proofs.Common.{refl}
use Rattle.rpki_relying_party.specs.declared.found.Found.{Found}
use Rattle.rpki_relying_party.proofs.Kept.{onward, keeps-refusal}
use Rattle.rpki_relying_party.proofs.found.Found.refuse.Goals as goal

pub returns : goal.returns
returns c =
    let old = c.args.self.now in
    let new : Found = record { payloads = old.payloads; refusals = c.keep.new.self } in
    onward c.keep.result (λ k. keeps-refusal c.args.refusal old new k refl) c.keep.ensures
