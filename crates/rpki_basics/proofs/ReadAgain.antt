-- What is written is read again.
use Rattle.std.proofs.Common.{◌≡◌, ℕ, List, ◌++◌, Result, Ok, Err, refl, sym}
use Rattle.std.specs.Prelude.{MatchResult}
use Rattle.rpki_der.specs.declared.error.DecodeError.{DecodeError}
use Rattle.rpki_der.specs.declared.error.DecodeError.TheVariants as failed
use Rattle.rpki_der.specs.Form.Decodes.{Decodes}
use Rattle.rpki_der.specs.Grammar.{HasNoFront}
use Rattle.rpki_der.specs.Read.Reads.{Refuses}

-- octets in the form that others follow are refused for memory alone
memory-alone : {X : Type 0} (G : List ℕ → X → Type 0) (octets rest : List ℕ) (x : X)
    (e : DecodeError) → G octets x → Refuses e (HasNoFront G (octets ++ rest)) → e ≡ failed.Memory
memory-alone G octets rest x failed.Memory g h = refl
memory-alone G octets rest x failed.Malformed g h = absurd (h x rest (octets, refl, g))
memory-alone G octets rest x (failed.Content fault) g h = absurd (h x rest (octets, refl, g))

-- what decodes the front of octets in the form, whatever follows them, answers what they mean
pub read-again : {T X : Type 0} (G : List ℕ → X → Type 0) (view : T → X) (octets rest : List ℕ)
    (x : X) (r : Result T DecodeError) → G octets x → Decodes G view (octets ++ rest) r
    → MatchResult r (λ t. view t ≡ x) (λ e. e ≡ failed.Memory)
read-again G view octets rest x (Ok t) g h = sym (h.1.only x rest (octets, refl, g)).0
read-again G view octets rest x (Err e) g h = memory-alone G octets rest x e g h
