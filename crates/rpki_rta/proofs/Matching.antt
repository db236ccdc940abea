-- What a signer says that was made for a key.
use Rattle.std.proofs.Common.{ℕ, List, refl, sym, subst, ◌∙◌}
use Rattle.std.specs.Prelude.{IsTrue}
use Rattle.std.proofs.lemmas.Slice.Eq.{bytes_eq-Decides}
use Rattle.rpki_attributes.specs.Attrs.Made.{message_of}
use Rattle.rpki_rta.specs.Laws.{MadeSignersMatch}

pub made_signers_match : {S : Type 0} (may : S → List ℕ → List ℕ → List ℕ → Type 0)
    → MadeSignersMatch may
made_signers_match may signer key digest time s verdict made good =
    let states = bytes_eq-Decides s.signer.attributes.message_digest digest in (
      (made.sid, refl),
      states.1 made.attributes.message_digest,
      λ c own id. (
        made.sid ∙ sym id,
        subst (λ (k : List ℕ). IsTrue (verdict k (message_of s.signer.attributes)
            s.signer.signature)) (sym own) good,
      ),
    )
