-- What is said of octets that were read.
use Rattle.std.proofs.Common.{◌≡◌, ℕ, List, refl, ap, ◌∙◌, inl, inr}
use Rattle.std.specs.Prelude.{◌⊎◌}
use Rattle.rpki_der.specs.declared.error.DecodeError.{DecodeError}
use Rattle.rpki_der.specs.declared.error.DecodeError.TheVariants.{Malformed, Content, Memory}
use Rattle.rpki_der.specs.Grammar.{HasNoFront}
use Rattle.rpki_der.specs.Form.Decodes.{IsOnlyFront}
use Rattle.rpki_der.specs.Read.Reads.{Refuses}
use Rattle.rpki_sigobj.specs.Signed.{ObjectForm}
use Rattle.rpki_cli.specs.Answer.{Output, out_of_memory}
use Rattle.rpki_cli.specs.Shown.{IsLinesOf, IsShown}
use Rattle.rpki_cli.specs.Refusal.{IsMalformed, IsRefusal}
use Rattle.rpki_cli.specs.declared.causes.Causes.{Causes}
use Rattle.rpki_cli.specs.declared.causes.Causes.TheVariants.{Omitted, Included}
use Rattle.rpki_cli.specs.declared.words.Kind.{Kind}
use Rattle.rpki_cli.specs.declared.words.Kind.TheVariants.{Aspa}
use Rattle.rpki_cli.specs.declared.words.Options.{Options}
use Rattle.rpki_show.specs.Contents.{HasLines, LinesOf}
use Rattle.rpki_show.specs.Kinds.{OfKind, OfKindIn}
use Rattle.rpki_show.specs.Objects.{ObjectLinesOf, WholeObjectLinesOf}
use Rattle.rpki_show.specs.Options.{read_mode}
use Rattle.rpki_show.specs.Texts.Object.{object_text, whole_text}
use Rattle.rpki_show.specs.declared.texts.serial.Hexadecimal.TheVariants.{Plain, Octets}

-- what may be said of octets that are refused
pub refusal-said : (causes : Causes) (e : DecodeError) (s : Output) (P : Type 0)
    → IsRefusal causes e s → Refuses e P → (s ≡ out_of_memory) ⊎ (IsMalformed causes s × P)
refusal-said Omitted Memory s P is none = inl is
refusal-said Included Memory s P is none = inl is
refusal-said Omitted Malformed s P is none = inr (is, none)
refusal-said Included Malformed s P is none = inr (inl is, none)
refusal-said Omitted (Content fault) s P is none = inr (is, none)
refusal-said Included (Content fault) s P (inl e) none = inl e
refusal-said Included (Content fault) s P (inr e) none = inr (inr (fault, e), none)

module _ {X : Type 0} (causes : Causes) (form : List ℕ → X → Type 0) (text : X → List ℕ)
    (octets : List ℕ) (s : Output) where
  pub shown-refusal : (e : DecodeError) → IsRefusal causes e s
      → Refuses e (HasNoFront form octets) → IsShown causes (HasLines form text) octets s
  shown-refusal e is none = elim (refusal-said causes e s (HasNoFront form octets) is none) [
    | inl m ↦ record { said = inl m }
    | inr p ↦ record { said = inr (inl (p.0, λ lines h. p.1 h.0 h.1 h.2)) }
  ]

  pub shown-lines : (x : X) (rest : List ℕ) → IsOnlyFront form octets x rest
      → IsLinesOf (text x) s → IsShown causes (HasLines form text) octets s
  shown-lines x rest front (inl e) = record { said = inl e }
  shown-lines x rest front (inr e) = record {
    said = inr (inr (
      text x,
      record {
        these = (x, rest, front.found, refl);
        only = λ others h. h.3 ∙ ap text (front.only h.0 h.1 h.2).0;
      },
      e,
    ));
  }

-- What is shown for each kind is shown of this one: in each case by the same words.
pub of_kind : (causes : Causes) (options : Options) (kind : Kind) (octets : List ℕ) (s : Output)
    → OfKind options kind (λ X asked form text. IsShown causes (HasLines form text) octets s)
    → IsShown causes (LinesOf options kind) octets s
of_kind causes options Aspa octets s h = h
of_kind causes options other octets s h = h

pub object_of_kind : (causes : Causes) (options : Options) (kind : Kind) (octets : List ℕ)
    (s : Output)
    → OfKind options kind (λ X asked form text. IsShown causes (HasLines (ObjectForm asked.type form
    (read_mode options)) (object_text Plain text)) octets s)
    → IsShown causes (ObjectLinesOf options kind) octets s
object_of_kind causes options Aspa octets s h = h
object_of_kind causes options other octets s h = h

pub whole_of_kind : (causes : Causes) (options : Options) (kind : Kind) (octets : List ℕ)
    (s : Output)
    → OfKindIn Octets options kind (λ X asked form text. IsShown causes (HasLines
    (ObjectForm asked.type form (read_mode options)) (whole_text text)) octets s)
    → IsShown causes (WholeObjectLinesOf options kind) octets s
whole_of_kind causes options Aspa octets s h = h
whole_of_kind causes options other octets s h = h
