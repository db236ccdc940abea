-- A decoder of an exact reading answers the record of the front, and only where there is none an
-- error other than for memory.
use Rattle.std.proofs.Common.{◌≡◌, ℕ, List, Option, Some, None, Result, Ok, Err, refl, get_or, ◌<◌}
use Rattle.std.specs.Prelude.{IfOk}
use Rattle.rpki_der.specs.declared.error.DecodeError.{DecodeError}
use Rattle.rpki_der.specs.declared.error.DecodeError.TheVariants.{Malformed, Content, Memory}
use Rattle.rpki_der.specs.Grammar.{Front, IsBytes}
use Rattle.rpki_der.specs.Read.Exact.{IsExact, anything}
use Rattle.rpki_der.specs.Read.Reads.{Found, OkOrMemory}
use Rattle.rpki_der.proofs.Reading.Exact.{IsBytes-of}

found-at : {T X : Type 0} (view : T → X) (p : List ℕ → Option (X × List ℕ)) (G : List ℕ → X
    → Type 0) → IsExact anything p G → (b : List ℕ) → IsBytes b → (t : T) (f : Option (X × List ℕ))
    → p b ≡ f → Found view f (Ok t) → (rest : List ℕ) × Front G b (view t) rest
found-at view p G e b bytes t None q h = absurd h
found-at view p G e b bytes t (Some x) q h = (x.1, e.sound b (view t) x.1 bytes (rw h q))

-- What is decoded stands at the front.
pub decoded-found : {T X : Type 0} (view : T → X) (p : List ℕ → Option (X × List ℕ)) (G : List ℕ → X
    → Type 0) → IsExact anything p G
    → (b : List ℕ) → ((i : ℕ) → get_or b i 0 < 256) → (result : Result T DecodeError)
    → Found view (p b) result → IfOk result (λ t. (rest : List ℕ) × Front G b (view t) rest)
decoded-found view p G e b bytes (Ok t) h =
    found-at view p G e b (IsBytes-of b bytes) t (p b) refl h
decoded-found view p G e b bytes (Err d) h = tt

only-at : {T X : Type 0} (view : T → X) (x : X) (rest : List ℕ) (result : Result T DecodeError)
    → Found view (Some (x, rest)) result → OkOrMemory result (λ t. view t ≡ x)
only-at view x rest (Ok t) h = h
only-at view x rest (Err Memory) h = refl
only-at view x rest (Err Malformed) h = absurd cc
only-at view x rest (Err (Content c)) h = absurd cc

-- What stands at the front is decoded, unless memory runs out.
pub decoded-only : {T X : Type 0} (view : T → X) (p : List ℕ → Option (X × List ℕ)) (G : List ℕ → X
    → Type 0) → IsExact anything p G
    → (b : List ℕ) (result : Result T DecodeError) → Found view (p b) result
    → (x : X) (rest : List ℕ) → Front G b x rest → OkOrMemory result (λ t. view t ≡ x)
decoded-only view p G e b result h x rest f =
    let found : p b ≡ Some (x, rest) = rw f.1 (e.complete f.0 x rest tt f.2) in
    only-at view x rest result (rw found at h)
