-- Identifiers of algorithms are read exactly.
use Rattle.std.proofs.Common.{◌≡◌, ℕ, Bool, true, false, cond, List, Option, Some, None, refl}
use Rattle.std.proofs.Common.{subst, ap, ◌++◌, inl, inr}
use Rattle.std.specs.Prelude.{bytes_eq, ◌||◌, ◌⊎◌}
use Rattle.std.proofs.lemmas.Slice.Eq.{bytes_eq-Decides}
use Rattle.std.proofs.lemmas.Bool.{or_cases, or_left, or_right}
use Rattle.rpki_der.specs.declared.mode.Mode.{Mode}
use Rattle.rpki_der.specs.declared.mode.Mode.TheVariants.{Der, Ber}
use Rattle.rpki_der.specs.Read.Parse.{Parser}
use Rattle.rpki_der.specs.Read.Exact.{IsExact, anything}
use Rattle.rpki_der.proofs.Reading.Unique.{IsOneValue}
use Rattle.rpki_der.specs.Tags.{SEQUENCE, NULL}
use Rattle.rpki_der.specs.Form.Law.{nothing, is, IsPart}
use Rattle.rpki_der.specs.Form.Made.{Partly, partly}
use Rattle.rpki_der.proofs.Form.Fields.{field, skipped, done, within}
use Rattle.rpki_der.proofs.Form.Words.{part-as, make-some, option}
use Rattle.rpki_der.proofs.Form.Kinds.{oid-part, null-part}
use Rattle.rpki_basics.specs.Algorithm.{AlgorithmForm, DigestAlgorithmForm, CmsAlgorithmForm}
use Rattle.rpki_basics.specs.Algorithm.{CertAlgorithmForm, algorithm_fields_at, algorithm_at, named}
use Rattle.rpki_basics.specs.Algorithm.{either_named, digest_algorithm_at, cms_algorithm_at}
use Rattle.rpki_basics.specs.Algorithm.{cert_algorithm_at, sha_256, rsa_encryption, sha256_with_rsa}

pub algorithm-part : IsPart (is SEQUENCE) nothing algorithm_at AlgorithmForm
unfolding algorithm_fields_at
algorithm-part = within SEQUENCE (
    field (λ oid. oid) oid-part (λ oid.
    skipped (option NULL null-part) (done oid (tt, refl) (λ z k. k.1)) refl) refl)

-- ---- which algorithm it is

abbrev pub found : Bool → Option (Unit {0})
found t = cond t (Some tt) None

pub found-true : (t : Bool) → found t ≡ Some tt → t ≡ true
found-true true e = refl
found-true false e = absurd cc

pub named-is : (oid read : List ℕ) → named oid read ≡ Some tt → read ≡ oid
named-is oid read e = (bytes_eq-Decides read oid).0 (found-true (bytes_eq read oid) e)

pub named-self : (oid : List ℕ) → named oid oid ≡ Some tt
named-self oid = ap found ((bytes_eq-Decides oid oid).1 refl)

either-is : (a b read : List ℕ) → either_named a b read ≡ Some tt → (read ≡ a) ⊎ (read ≡ b)
either-is a b read e =
    let or : (bytes_eq read a || bytes_eq read b) ≡ true =
    found-true (bytes_eq read a || bytes_eq read b) e in
    elim (or_cases (bytes_eq read a) (bytes_eq read b) or) [
      | inl t ↦ inl ((bytes_eq-Decides read a).0 t)
      | inr t ↦ inr ((bytes_eq-Decides read b).0 t)
    ]

either-first : (a b : List ℕ) → either_named a b a ≡ Some tt
either-first a b =
    ap found (or_left (bytes_eq a a) (bytes_eq a b) ((bytes_eq-Decides a a).1 refl))

either-second : (a b : List ℕ) → either_named a b b ≡ Some tt
either-second a b =
    ap found (or_right (bytes_eq b a) (bytes_eq b b) ((bytes_eq-Decides b b).1 refl))

pub named-part : (oid : List ℕ)
    → IsPart (is SEQUENCE) nothing (partly (named oid) algorithm_at)
    (λ mode o (_ : Unit {0}). AlgorithmForm mode o oid)
named-part oid = part-as (make-some (named oid) algorithm-part)
    (λ mode o _ h. subst (λ (r : List ℕ). AlgorithmForm mode o r) (named-is oid h.0 h.2) h.1)
    (λ mode o _ h. (oid, h, named-self oid))

pub digest-part : IsPart (is SEQUENCE) nothing digest_algorithm_at DigestAlgorithmForm
digest-part = named-part sha_256

pub cert-part : IsPart (is SEQUENCE) nothing cert_algorithm_at CertAlgorithmForm
cert-part = named-part sha256_with_rsa

pub cms-part : IsPart (is SEQUENCE) nothing cms_algorithm_at CmsAlgorithmForm
cms-part = part-as (make-some (either_named rsa_encryption sha256_with_rsa) algorithm-part) to from
  where
    to : (mode : Mode) (o : List ℕ) (u : Unit {0})
        → Partly (either_named rsa_encryption sha256_with_rsa) (AlgorithmForm mode) o u
        → CmsAlgorithmForm mode o u
    to mode o u h = elim (either-is rsa_encryption sha256_with_rsa h.0 h.2) [
      | inl e ↦ inl (subst (λ (r : List ℕ). AlgorithmForm mode o r) e h.1)
      | inr e ↦ inr (subst (λ (r : List ℕ). AlgorithmForm mode o r) e h.1)
    ]

    from : (mode : Mode) (o : List ℕ) (u : Unit {0}) → CmsAlgorithmForm mode o u
        → Partly (either_named rsa_encryption sha256_with_rsa) (AlgorithmForm mode) o u
    from mode o u (inl h) = (rsa_encryption, h, either-first rsa_encryption sha256_with_rsa)
    from mode o u (inr h) = (sha256_with_rsa, h, either-second rsa_encryption sha256_with_rsa)

-- ---- as readings

pub exact-of : {X : Type 0} {p : Parser X} {G : Mode → List ℕ → X → Type 0}
    → IsPart (is SEQUENCE) nothing p G → (mode : Mode) → IsExact anything (p mode) (G mode)
exact-of {X} {p} {G} part mode = record {
  sound = (part.exact mode).sound;
  complete = λ o x r er h. (part.exact mode).complete o x r tt h;
}

pub one-algorithm : IsOneValue AlgorithmForm
one-algorithm mode o oid h = (SEQUENCE, h.0, h.1)

pub one-cms : IsOneValue CmsAlgorithmForm
one-cms mode o u (inl h) = (SEQUENCE, h.0, h.1)
one-cms mode o u (inr h) = (SEQUENCE, h.0, h.1)

-- what is in the form in DER is read in both modes
pub read-back : {X : Type 0} {p : Parser X} {G : Mode → List ℕ → X → Type 0}
    → IsPart (is SEQUENCE) nothing p G → (mode : Mode) (o : List ℕ) (x : X) (rest : List ℕ)
    → G Der o x → p mode (o ++ rest) ≡ Some (x, rest)
read-back part Der o x rest h = (part.exact Der).complete o x rest tt h
read-back part Ber o x rest h = (part.exact Ber).complete o x rest tt (part.relaxed o x h)
