-- What a decoder answers follows from what its parser finds, where that is a part of a form.
use Rattle.std.proofs.Common.{◌≡◌, ℕ, Bool, true, false, cond, List, [], Option, Some, None}
use Rattle.std.proofs.Common.{Result, Ok, Err, refl, sym, ap, ◌∙◌, eq-eqb}
use Rattle.std.specs.Prelude.{MatchOption}
use Rattle.rpki_der.specs.declared.mode.Mode.{Mode}
use Rattle.rpki_der.specs.declared.error.DecodeError.{DecodeError}
use Rattle.rpki_der.specs.declared.error.DecodeError.TheVariants.{Malformed, Content, Memory}
use Rattle.rpki_der.specs.Read.State.{State}
use Rattle.rpki_der.specs.Read.Parse.{Parser, ◌>>=◌, optional, some_of, is_next}
use Rattle.rpki_der.specs.Read.Reads.{Reads, Answers, Refuses, Found, RepeatsError}
use Rattle.rpki_der.specs.Grammar.{Front, IsBytes, HasNoFront}
use Rattle.rpki_der.proofs.Reading.Lengths.{some_is}
use Rattle.rpki_der.proofs.Reading.Many.{optional-some}
use Rattle.rpki_der.specs.Form.Law.{TagSet, nothing, is, IsPart}
use Rattle.rpki_der.specs.Form.Decodes.{IsOnlyFront, Decodes, TakesFront, DecodesNext}
use Rattle.rpki_der.specs.Form.Decodes.{IsNextOrAbsent, TakesIfNext, DecodesIfNext, DecodesAll}
use Rattle.rpki_der.specs.Form.Made.{to_end, all_read}
use Rattle.rpki_der.proofs.Form.Apart.{starts-is}
use Rattle.rpki_der.proofs.Form.Nested.{all-sound, all-complete}
use Rattle.rpki_der.proofs.Form.Words.{part-unique, optional-none}

-- an error other than for memory tells that nothing was found
pub refuses : {Y : Type 0} {P : Type 0} (e : DecodeError) (found : Option Y) → (found ≡ None → P)
    → Refuses e (found ≡ None) → Refuses e P
refuses Memory found f h = tt
refuses Malformed found f h = f h
refuses (Content c) found f h = f h

module _ {X : Type 0} {first : TagSet} {p : Parser X} {form : Mode → List ℕ → X → Type 0}
    (part : IsPart first nothing p form) (mode : Mode) (octets : List ℕ) where
  only-front : (x : X) (rest : List ℕ) → Front (form mode) octets x rest
      → IsOnlyFront (form mode) octets x rest
  only-front x rest f = record {
    found = f;
    only = λ y other g. let same =
        part-unique part mode g.0 f.0 y x other rest g.2 f.2 (sym g.1 ∙ f.1) in (same.1, same.2);
  }

  front-found : (x : X) (rest : List ℕ) → Front (form mode) octets x rest
      → p mode octets ≡ Some (x, rest)
  front-found x rest f = rw f.1 ((part.exact mode).complete f.0 x rest tt f.2)

  without-front : p mode octets ≡ None → HasNoFront (form mode) octets
  without-front none x rest f = let both : (let n : Option (X × List ℕ) = None in
      n) ≡ Some (x, rest) = sym none ∙ front-found x rest f in absurd (some-none both)
    where
      some-none : {A : Type 0} {a : A} → (let n : Option A = None in n) ≡ Some a → ⊥
      some-none e = cc

  -- what a decoder of the front answers
  pub decodes : {T : Type 0} (view : T → X) (result : Result T DecodeError) → IsBytes octets
      → Found view (p mode octets) result → Decodes (form mode) view octets result
  decodes {T} view (Ok t) bytes h = at (p mode octets) refl h
    where
      at : (f : Option (X × List ℕ)) → p mode octets ≡ f → Found view f (Ok t)
          → (rest : List ℕ) × IsOnlyFront (form mode) octets (view t) rest
      at None e g = absurd g
      at (Some x) e g = (
        x.1,
        only-front (view t) x.1 ((part.exact mode).sound octets (view t) x.1 bytes (rw g e)),
      )
  decodes {T} view (Err e) bytes h =
      refuses e (p mode octets) without-front (fails (p mode octets) h)
    where
      fails : (f : Option (X × List ℕ)) → Found {T = T} view f (Err e) → Refuses e (f ≡ None)
      fails None g = g
      fails (Some x) g = g

  takes : {T : Type 0} (view : T → X) (result : Result T DecodeError) (new : State) → IsBytes octets
      → Answers view (p mode octets) result new → TakesFront (form mode) view octets result new
  takes view (Ok t) new bytes h = (
    only-front (view t) new.rest ((part.exact mode).sound octets (view t) new.rest bytes h.0),
    h.1,
  )
  takes view (Err e) new bytes h = refuses e (p mode octets) without-front h

-- what a decoder of all of the octets answers
module _ {X : Type 0} {first apart : TagSet} {p : Parser X} {form : Mode → List ℕ → X → Type 0}
    (part : IsPart first apart p form) (mode : Mode) (octets : List ℕ) where
  nothing-whole : to_end p mode octets ≡ None → (x : X) → form mode octets x → ⊥
  nothing-whole none x g =
      let all = all-complete part mode octets x g in
      absurd (let both : (let n : Option (X × List ℕ) = None in
      n) ≡ Some (x, []) = sym none ∙ rw all refl in cc)

  pub decodes-all : {T : Type 0} (view : T → X) (result : Result T DecodeError) → IsBytes octets
      → Found view (to_end p mode octets) result → DecodesAll (form mode) view octets result
  decodes-all {T} view (Ok t) bytes h = at (all_read p mode octets) refl h
    where
      at : (f : Option X) → all_read p mode octets ≡ f
          → Found view (f >>= λ x. Some (x, [])) (Ok t)
          → form mode octets (view t) × ((x : X) → form mode octets x → x ≡ view t)
      at None e g = absurd g
      at (Some y) e g = (
        all-sound part mode octets (view t) bytes (rw g e),
        λ x k. some_is x (view t) (sym (all-complete part mode octets x k) ∙ (rw g e)),
      )
  decodes-all {T} view (Err e) bytes h =
      refuses e (to_end p mode octets) nothing-whole (fails (to_end p mode octets) h)
    where
      fails : (f : Option (X × List ℕ)) → Found {T = T} view f (Err e) → Refuses e (f ≡ None)
      fails None g = g
      fails (Some x) g = g

not-failed : (P Q : Type 0) (E : DecodeError → Type 0) (f : Option DecodeError) → (P → Q)
    → MatchOption f P E → MatchOption f Q E
not-failed P Q E None f h = f h
not-failed P Q E (Some e) f h = h

-- what a call of a reader answers
pub decodes-next : {T X : Type 0} {first : TagSet} {p : Parser X} {form : Mode → List ℕ → X
    → Type 0} (part : IsPart first nothing p form) (view : T → X) (old : State)
    (result : Result T DecodeError) (new : State)
    → IsBytes old.rest → Reads view p old result new → DecodesNext form view old result new
decodes-next {T} {X} {first} {p} {form} part view old result new bytes h = (
  h.0,
  not-failed (Answers view (p old.mode old.rest) result new)
      (TakesFront (form old.mode) view old.rest result new)
      (λ e. RepeatsError e result) old.failed
      (takes part old.mode old.rest view result new bytes) h.1,
)

module _ {X : Type 0} {p : Parser X} {form : Mode → List ℕ → X → Type 0} (tag : ℕ)
    (part : IsPart (is tag) nothing p form) (mode : Mode) (octets : List ℕ) where
  -- what is in the form begins with its tag
  not-begun : is_next tag octets ≡ false → HasNoFront (form mode) octets
  not-begun other x rest f =
      let begun = starts-is tag f.0 (part.starts mode f.0 x f.2) in
      let next : is_next tag octets ≡ true = rw (f.1, begun.1) (eq-eqb tag tag refl) in
      absurd (let both : false ≡ true = sym other ∙ next in cc)

  next-or-absent : (x : Option X) (rest : List ℕ) → IsBytes octets
      → optional tag p mode octets ≡ Some (x, rest) → IsNextOrAbsent tag (form mode) octets x rest
  next-or-absent None rest bytes h = let n = optional-none tag p mode octets rest h in
      (n.0, not-begun n.0, sym n.1)
  next-or-absent (Some x) rest bytes h = (
    of (is_next tag octets) refl h,
    only-front part mode octets x rest
        ((part.exact mode).sound octets x rest bytes
        (optional-some tag p mode octets x rest h)),
  )
    where
      of : (t : Bool) → is_next tag octets ≡ t
          → cond t (some_of (p mode octets)) (Some (None, octets)) ≡ Some (Some x, rest)
          → is_next tag octets ≡ true
      of true e g = e
      of false e g = let q : (let t : Option X × List ℕ = (None, octets) in
          t) ≡ (Some x, rest) = some_is _ _ g in
          absurd (let never : (let t : Option X = None in
          t) ≡ Some x = ap (λ (t : Option X × List ℕ). t.0) q in cc)

  not-there : optional tag p mode octets ≡ None
      → (is_next tag octets ≡ true) × HasNoFront (form mode) octets
  not-there h = of (is_next tag octets) refl (p mode octets) refl h
    where
      of : (t : Bool) → is_next tag octets ≡ t → (f : Option (X × List ℕ)) → p mode octets ≡ f
          → cond t (some_of f) (Some (None, octets)) ≡ None
          → (is_next tag octets ≡ true) × HasNoFront (form mode) octets
      of true e None f g = (e, without-front part mode octets f)
      of true e (Some x) f g = absurd cc
      of false e f q g = absurd cc

  takes-if-next : {T : Type 0} (view : T → Option X) (result : Result T DecodeError) (new : State)
      → IsBytes octets → Answers view (optional tag p mode octets) result new
      → TakesIfNext tag (form mode) view octets result new
  takes-if-next view (Ok t) new bytes h = (next-or-absent (view t) new.rest bytes h.0, h.1)
  takes-if-next view (Err e) new bytes h = refuses e (optional tag p mode octets) not-there h

-- what a call of a reader answers where a value may be next
pub decodes-if-next : {T X : Type 0} {p : Parser X} {form : Mode → List ℕ → X → Type 0} (tag : ℕ)
    (part : IsPart (is tag) nothing p form) (view : T → Option X) (old : State)
    (result : Result T DecodeError) (new : State)
    → IsBytes old.rest → Reads view (optional tag p) old result new
    → DecodesIfNext tag form view old result new
decodes-if-next {T} {X} {p} {form} tag part view old result new bytes h = (
  h.0,
  not-failed (Answers view (optional tag p old.mode old.rest) result new)
      (TakesIfNext tag (form old.mode) view old.rest result new)
      (λ e. RepeatsError e result) old.failed
      (takes-if-next tag part old.mode old.rest view result new bytes) h.1,
)
