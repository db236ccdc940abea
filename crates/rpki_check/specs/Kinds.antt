-- What a number asks for.
use Rattle.std.specs.Prelude.{◌≡◌, ◌⊎◌, ℕ, List, Result, Ok, Err}
use Rattle.rpki_der.specs.declared.mode.Mode.{Mode}
use Rattle.rpki_der.specs.declared.mode.Mode.TheVariants.{Der}
use Rattle.rpki_multi.specs.Multi.{MultiForm}
use Rattle.rpki_signed.specs.Check.{BeginsWith}
use Rattle.rpki_sigobj.specs.Signed.Kind.{ObjectKind}
use Rattle.rpki_validation.specs.Kinds.{Names, OfKind}
use Rattle.rpki_validation.specs.declared.kinds.Kind.{Kind}
use Rattle.rpki_validation.specs.declared.kinds.Kind.TheVariants.{Aspa, Checklist, Manifest, Roa}
use Rattle.rpki_validation.specs.declared.question.Manner.{Manner}
use Rattle.rpki_check.specs.Numbers.{no_kind, no_memory}
use Rattle.rpki_check.specs.declared.kinds.Asked.{Asked}
use Rattle.rpki_check.specs.declared.kinds.Asked.TheVariants.{Attestation, Object}

-- the number of a kind
abbrev pub kind_code : Kind → ℕ
kind_code Roa = 1
kind_code Aspa = 2
kind_code Manifest = 3
kind_code Checklist = 4

-- The octets begin with a multi-signed object, in DER, whose content is to be an attestation
-- (draft-michaelson-rpki-rta, section 3).
abbrev pub NamesAttestation : List ℕ → Type 0
NamesAttestation octets = BeginsWith (MultiForm Der) octets (λ m. Unit {0})

-- the number of attestations
abbrev pub attestation_code : ℕ
attestation_code = 5

-- the number of what is asked for
abbrev pub asked_code : Asked → ℕ
asked_code (Object k) = kind_code k
asked_code Attestation = attestation_code

-- The object at the front of the octets names what is asked for: an attestation only where it names
-- no kind of one signer.
abbrev pub IsNamedBy : Mode → List ℕ → Asked → Type 0
IsNamedBy mode octets (Object k) = Names mode octets k
IsNamedBy mode octets Attestation =
    NamesAttestation octets × ((k : Kind) → Names mode octets k → ⊥)

-- A number asks for this: it is its number; or it is 0, and the object at the front of the octets
-- names it.
abbrev pub AsksFor : Mode → ℕ → List ℕ → Asked → Type 0
AsksFor mode number octets a =
    (number ≡ asked_code a) ⊎ ((number ≡ 0) × IsNamedBy mode octets a)

-- what is answered where P says what is asked for: that, or that there is no kind where P holds of
-- nothing, unless memory ran out
abbrev pub IsAskedOr : (Asked → Type 0) → Result Asked ℕ → Type 0
IsAskedOr P (Ok a) = P a
IsAskedOr P (Err status) = (status ≡ no_memory) ⊎ ((status ≡ no_kind) × ((a : Asked) → P a → ⊥))

-- What P says of the kind that is asked for, and A of attestations.
abbrev pub OfAsked : Manner → Asked
    → ((X : Type 0) → ObjectKind X → (List ℕ → X → Type 0) → (X → List ℕ) → Type 0) → Type 0
    → Type 0
OfAsked m (Object k) P A = OfKind m k P
OfAsked m Attestation P A = A
