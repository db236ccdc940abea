-- Objects at the front of octets, whose contents are at the front of other octets.
use Rattle.std.proofs.Common.{◌≡◌, ℕ, List, refl, subst, sym}
use Rattle.rpki_der.specs.declared.mode.Mode.{Mode}
use Rattle.rpki_der.specs.declared.error.DecodeError.{DecodeError}
use Rattle.rpki_der.specs.declared.error.DecodeError.TheVariants.{Malformed, Content, Memory}
use Rattle.rpki_der.specs.Form.Decodes.{IsOnlyFront}
use Rattle.rpki_der.specs.Grammar.{Front, HasNoFront}
use Rattle.rpki_der.specs.Read.Reads.{Refuses}
use Rattle.rpki_sigobj.specs.Object.{SignedObject, KeptObject, SignedFormOf}
use Rattle.rpki_sigobj.specs.Signed.{Whole, ObjectForm, IsKeptWhole}

pub same-whole : {X : Type 0} (y : Whole X) (s : SignedObject) (x : X) → y.object ≡ s
    → y.content ≡ x → y ≡ record { object = s; content = x }
same-whole y s x e f = rw (← e, ← f) refl

module _ {X : Type 0} (type : List ℕ) (form : List ℕ → X → Type 0) (mode : Mode)
    (octets : List ℕ) where
  -- octets that begin with no object of the type begin with none with a content
  pub object-refused : (e : DecodeError) → Refuses e (HasNoFront (SignedFormOf type mode) octets)
      → Refuses e (HasNoFront (ObjectForm type form mode) octets)
  object-refused Memory h = tt
  object-refused Malformed h = λ y other f. h y.object other (f.0, f.1, f.2.0)
  object-refused (Content fault) h = λ y other f. h y.object other (f.0, f.1, f.2.0)

  module _ (s : SignedObject) (rest : List ℕ)
      (only : IsOnlyFront (SignedFormOf type mode) octets s rest) where
    -- what the content of an object at the front begins with
    content-of : (y : Whole X) (other : List ℕ)
        (f : Front (ObjectForm type form mode) octets y other)
        → Front form s.signed.content y.content f.2.1.0
    content-of y other f =
        let same = only.only y.object other (f.0, f.1, f.2.0) in
        subst (λ (o : SignedObject). Front form o.signed.content y.content f.2.1.0) same.0 f.2.1.1

    -- the object with what its content begins with
    pub whole-found : (x : X) (after : List ℕ) → IsOnlyFront form s.signed.content x after
        → IsOnlyFront (ObjectForm type form mode) octets (record { object = s; content = x }) rest
    whole-found x after c = record {
      found = (only.found.0, only.found.1, (only.found.2, (after, c.found)));
      only = λ y other f.
          let same = only.only y.object other (f.0, f.1, f.2.0) in
          let content = c.only y.content f.2.1.0 (content-of y other f) in
          (same-whole y s x same.0 content.0, same.1);
    }

    -- where its content begins with nothing of the form, there is none
    none : HasNoFront form s.signed.content → HasNoFront (ObjectForm type form mode) octets
    none h = λ y other f. h y.content f.2.1.0 (content-of y other f)

    pub content-refused : (e : DecodeError) → Refuses e (HasNoFront form s.signed.content)
        → Refuses e (HasNoFront (ObjectForm type form mode) octets)
    content-refused Memory h = tt
    content-refused Malformed h = none h
    content-refused (Content fault) h = none h

-- what is kept of an object at the front, and of what its content begins with
pub kept-whole : {R X : Type 0} (type : List ℕ) (form : R → List ℕ → X → Type 0) (rule : R)
    (k : KeptObject) (mode : Mode) (octets rest : List ℕ) → k.mode ≡ mode
    → IsOnlyFront (SignedFormOf type mode) octets k.object rest
    → (x : X) (after : List ℕ) → IsOnlyFront (form rule) k.object.signed.content x after
    → IsKeptWhole type form (record { object = k; content = x })
kept-whole type form rule k mode octets rest e front x after content =
    let o = front.found in (
      rule,
      (
        subst (λ (m : Mode). SignedFormOf type m k.object.octets k.object) (sym e)
            (subst (λ (l : List ℕ). SignedFormOf type mode l k.object) (sym o.2.0.0) o.2),
        (after, content.found),
      ),
    )
