-- The kinds of signed objects, a row for each.
use Rattle.std.specs.Prelude.{◌≡◌, ℕ, List, Option, None, Some, Result, Ok, Err}
use Rattle.std.specs.declared.alloc.AllocError.{AllocError}
use Rattle.rpki_der.specs.declared.mode.Mode.{Mode}
use Rattle.rpki_der.specs.declared.mode.Mode.TheVariants.{Der}
use Rattle.rpki_files.specs.Checklist.{ChecklistForm}
use Rattle.rpki_files.specs.Checklist.Checks.{checklist_kind}
use Rattle.rpki_files.specs.Manifest.{ManifestForm}
use Rattle.rpki_files.specs.Manifest.Checks.{manifest_kind}
use Rattle.rpki_routes.specs.Aspa.Checks.{aspa_kind}
use Rattle.rpki_routes.specs.Aspa.Form.{AspaForm}
use Rattle.rpki_routes.specs.Roa.Checks.{roa_kind}
use Rattle.rpki_routes.specs.Roa.Form.{RoaForm}
use Rattle.rpki_show.specs.Texts.Aspa.{aspa_text}
use Rattle.rpki_show.specs.Texts.Manifest.{manifest_text}
use Rattle.rpki_show.specs.Texts.Roa.{roa_text}
use Rattle.rpki_show.specs.Texts.Rsc.{rsc_text}
use Rattle.rpki_show.specs.declared.texts.serial.Hexadecimal.TheVariants.{Plain}
use Rattle.rpki_signed.specs.Check.{BeginsWith}
use Rattle.rpki_sigobj.specs.Object.{SignedForm}
use Rattle.rpki_sigobj.specs.Signed.Kind.{ObjectKind}
use Rattle.rpki_validation.specs.declared.kinds.Kind.{Kind}
use Rattle.rpki_validation.specs.declared.kinds.Kind.TheVariants.{Aspa, Checklist, Manifest, Roa}
use Rattle.rpki_validation.specs.declared.question.Manner.{Manner}

-- the type of the contents of a kind
abbrev pub type_of : Kind → List ℕ
type_of Roa = roa_kind.type
type_of Aspa = aspa_kind.type
type_of Manifest = manifest_kind.type
type_of Checklist = checklist_kind.type

-- The octets begin with a signed object whose content has the type of this kind.
abbrev pub Names : Mode → List ℕ → Kind → Type 0
Names mode octets k = BeginsWith (SignedForm mode) octets (λ o. o.signed.content_type ≡ type_of k)

-- what is answered of the kind that an object names, unless memory runs out
abbrev pub IsNamed : Mode → List ℕ → Result (Option Kind) AllocError → Type 0
IsNamed mode octets (Ok (Some k)) = Names mode octets k
IsNamed mode octets (Ok None) = (k : Kind) → Names mode octets k → ⊥
IsNamed mode octets (Err e) = Unit {0}

-- What P says of a kind, in this manner: of what is asked of its objects, the form of its contents,
-- and their lines. A content is in DER (RFC 6488, section 2), whatever the manner.
abbrev pub OfKind : Manner → Kind
    → ((X : Type 0) → ObjectKind X → (List ℕ → X → Type 0) → (X → List ℕ) → Type 0) → Type 0
OfKind m Roa P = P _ roa_kind RoaForm roa_text
OfKind m Aspa P = P _ aspa_kind (AspaForm m.limit) aspa_text
OfKind m Manifest P = P _ manifest_kind (ManifestForm m.names Der) (manifest_text Plain)
OfKind m Checklist P = P _ checklist_kind (ChecklistForm Der) rsc_text
