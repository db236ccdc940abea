-- What may be there is read exactly.
use Rattle.std.proofs.Common.{◌≡◌, ℕ, Bool, true, false, cond, List, ◌++◌, Option, Some, None, refl}
use Rattle.std.proofs.Common.{sym, ap, subst, eq-eqb}
use Rattle.rpki_der.specs.declared.mode.Mode.{Mode}
use Rattle.rpki_der.specs.declared.mode.Mode.TheVariants.{Der, Ber}
use Rattle.rpki_der.specs.Read.Parse.{Parser, optional, some_of, is_next}
use Rattle.rpki_der.specs.Grammar.{Value, IsBytes}
use Rattle.rpki_der.specs.Read.Exact.{IsReading, IsOptionalReading}
use Rattle.rpki_der.proofs.Reading.Lengths.{some_is}
use Rattle.rpki_der.proofs.Reading.Scan.{shape}
use Rattle.rpki_der.proofs.Reading.Many.{optional-some}
use Rattle.rpki_der.proofs.Reading.Lists.{Begins}

pub begins-value : (tag : ℕ) (mode : Mode) → Begins tag (λ o c. Value mode o tag c)
begins-value tag mode = record {
  at = λ o c v. let s = shape mode o tag c v in
      (s.0 ++ (c ++ s.1), s.2);
}

-- nothing is read
absent-to : {X : Type 0} (t : Bool) (o : Option (X × List ℕ)) (b r : List ℕ)
    → cond t (some_of o) (Some (None, b)) ≡ Some (None, r) → (r ≡ b) × (t ≡ false)
absent-to true None b r e = absurd cc
absent-to {X} true (Some (y, s)) b r e =
    let q : (let t : Option X × List ℕ = (Some y, s) in t) ≡ (None, r) = some_is _ _ e in
    absurd (let no : Some y ≡ None = ap (λ (t : Option X × List ℕ). t.0) q in cc)
absent-to {X} false o b r e =
    let q : (let t : Option X × List ℕ = (None, b) in t) ≡ (None, r) = some_is _ _ e in
    (sym (ap (λ (t : Option X × List ℕ). t.1) q), refl)

-- what is read in DER is read in BER, where p does so
relaxed-at : {X : Type 0} (t : Bool) (der ber : Option (X × List ℕ)) (b : List ℕ) (x : Option X)
    (r : List ℕ)
    → ((y : X) → der ≡ Some (y, r) → ber ≡ Some (y, r))
    → cond t (some_of der) (Some (None, b)) ≡ Some (x, r)
    → cond t (some_of ber) (Some (None, b)) ≡ Some (x, r)
relaxed-at true None ber b x r f e = absurd cc
relaxed-at {X} true (Some (y, s)) ber b x r f e =
    let q : (let t : Option X × List ℕ = (Some y, s) in t) ≡ (x, r) = some_is _ _ e in
    let same : s ≡ r = ap (λ (t : Option X × List ℕ). t.1) q in
    let is : Some y ≡ x = ap (λ (t : Option X × List ℕ). t.0) q in
    let found : ber ≡ Some (y, r) =
    f y (ap (λ (t : List ℕ). (let o : Option (X × List ℕ) = Some (y, t) in o)) same) in
    rw found (ap (λ (t : Option X). (let o : Option (Option X × List ℕ) = Some (t, r) in o)) is)
relaxed-at false der ber b x r f e = e

module _ {X : Type 0} (tag : ℕ) (p : Parser X) (G : Mode → List ℕ → X → Type 0)
    (reading : IsReading p G) (begins : (mode : Mode) → Begins tag (G mode)) where
  there : (mode : Mode) (front : List ℕ) (x : X) (rest : List ℕ) → G mode front x
      → optional tag p mode (front ++ rest) ≡ Some (Some x, rest)
  there mode front x rest g =
      let t = (begins mode).at front x g in
      let next : is_next tag (front ++ rest) ≡ true = rw t.1 (eq-eqb tag tag refl) in
      let read : p mode (front ++ rest) ≡ Some (x, rest) =
      (reading.exact mode).complete front x rest tt g in
      rw (next, read) refl

  in-ber : (b : List ℕ) (y : X) (r : List ℕ) → IsBytes b → p Der b ≡ Some (y, r)
      → p Ber b ≡ Some (y, r)
  in-ber b y r bytes e =
      let f = (reading.exact Der).sound b y r bytes e in
      let g : G Ber f.0 y = reading.relaxed f.0 y f.2 in
      let read : p Ber (f.0 ++ r) ≡ Some (y, r) = (reading.exact Ber).complete f.0 y r tt g in
      subst (λ (o : List ℕ). p Ber o ≡ Some (y, r)) (sym f.1) read

  pub optional-reading : IsOptionalReading tag p G
  optional-reading = record {
    found = λ mode b x r bytes e. (reading.exact mode).sound b x r bytes
        (optional-some tag p mode b x r e);
    read = λ mode front x rest g. there mode front x rest g;
    absent = λ mode b r. (absent-to (is_next tag b) (p mode b) b r, λ h. rw (h.0, h.1) refl);
    relaxed = λ b x r bytes e. relaxed-at (is_next tag b) (p Der b) (p Ber b) b x r
        (λ y d. in-ber b y r bytes d) e;
  }
