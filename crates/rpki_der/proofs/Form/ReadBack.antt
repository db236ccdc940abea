-- What is read of octets that are in a form of DER.
use Rattle.std.proofs.Common.{◌≡◌, ℕ, List, [], refl, sym}
use Rattle.std.proofs.lemmas.List.{append-nil}
use Rattle.rpki_der.specs.declared.error.DecodeError.{DecodeError}
use Rattle.rpki_der.specs.declared.error.DecodeError.TheVariants as failed
use Rattle.rpki_der.specs.Form.Decodes.{IsOnlyFront}
use Rattle.rpki_der.specs.Grammar.{HasNoFront}
use Rattle.rpki_der.specs.Read.Reads.{Refuses}

-- what is in the form is all that stands at the front
pub only-front : {X : Type 0} (G : List ℕ → X → Type 0) (octets : List ℕ) (x y : X)
    (rest : List ℕ) → IsOnlyFront G octets x rest → G octets y → x ≡ y
only-front G octets x y rest h g =
    sym (h.only y [] (octets, sym (append-nil octets), g)).0

-- what is in the form is refused for memory alone
pub refuses-memory : {X : Type 0} (G : List ℕ → X → Type 0) (octets : List ℕ) (y : X)
    (e : DecodeError) → Refuses e (HasNoFront G octets) → G octets y → e ≡ failed.Memory
refuses-memory G octets y failed.Memory h g = refl
refuses-memory G octets y failed.Malformed h g =
    absurd (h y [] (octets, sym (append-nil octets), g))
refuses-memory G octets y (failed.Content fault) h g =
    absurd (h y [] (octets, sym (append-nil octets), g))
