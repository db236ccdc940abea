-- What a reader of a slice finds is what its octets begin with.
use Rattle.std.proofs.Common.{◌≡◌, ℕ, List, Option, Some, None, Ok, Err, refl, sym, ◌∙◌}
use Rattle.std.specs.Prelude.{MatchOption}
use Rattle.rpki_der.specs.declared.mode.Mode.{Mode}
use Rattle.rpki_der.specs.declared.mode.Mode.TheVariants.{Der}
use Rattle.rpki_der.specs.Grammar.{Front, IsBytes, HasNoFront}
use Rattle.rpki_der.specs.declared.error.DecodeError.TheVariants.{Malformed}
use Rattle.rpki_der.specs.Read.Parse.{Parser}
use Rattle.rpki_der.specs.Read.State.{fresh}
use Rattle.rpki_der.specs.Read.Exact.{IsReading}
use Rattle.rpki_der.specs.Form.Decodes.{IsOnlyFront}
use Rattle.rpki_der.specs.Form.Law.{IsPart, is, nothing}
use Rattle.rpki_der.proofs.Form.Decoders.{decodes-if-next}
use Rattle.rpki_lists.specs.Slice.{FindsFront, IsTakenBy, IsTakenIfNextBy}

module _ {X : Type 0} {p : Parser X} {G : Mode → List ℕ → X → Type 0} (r : IsReading p G)
    (octets : List ℕ) where
  front-found : (x : X) (rest : List ℕ) → Front (G Der) octets x rest
      → p Der octets ≡ Some (x, rest)
  front-found x rest f = rw f.1 ((r.exact Der).complete f.0 x rest tt f.2)

  pub fronts : {U : Type 0} (view : U → X) (result : Option U) (rest : List ℕ) → IsBytes octets
      → FindsFront view p octets result rest
      → MatchOption result (HasNoFront (G Der) octets)
      (λ found. IsOnlyFront (G Der) octets (view found) rest)
  fronts view None rest bytes h = λ x other f.
      absurd (let both : (let n : Option (X × List ℕ) = None in n) ≡ Some (x, other) =
      sym h ∙ front-found x other f in cc)
  fronts view (Some found) rest bytes h =
      let f = (r.exact Der).sound octets (view found) rest bytes h in
      record {
        found = f;
        only = λ y other g.
            let same = r.unique Der g.0 f.0 y (view found) other rest g.2 f.2 (sym g.1 ∙ f.1) in
            (same.1, same.2);
      }

-- what is read exactly is taken by its form
pub taken-by : {T X : Type 0} {p : Parser X} {G : Mode → List ℕ → X → Type 0} → IsReading p G
    → IsTakenBy T p (G Der)
taken-by r view octets None rest bytes h = fronts r octets view None rest bytes h
taken-by r view octets (Some t) rest bytes h = fronts r octets view (Some t) rest bytes h

-- and where it may be next
pub taken-if-next-by : {T X : Type 0} {p : Parser X} {G : Mode → List ℕ → X → Type 0} (tag : ℕ)
    → IsPart (is tag) nothing p G → IsTakenIfNextBy T tag p (G Der)
taken-if-next-by {T} tag part view octets None rest bytes h =
    (decodes-if-next {T = T} tag part view (fresh Der octets) (Err Malformed) (fresh Der rest) bytes
    (refl, h)).1
taken-if-next-by {T} tag part view octets (Some t) rest bytes h =
    (decodes-if-next {T = T} tag part view (fresh Der octets) (Ok t) (fresh Der rest) bytes
    (refl, (h, refl))).1.0
