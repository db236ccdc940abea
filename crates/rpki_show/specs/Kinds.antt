-- The table of the kinds.
use Rattle.std.specs.Prelude.{ℕ, List}
use Rattle.rpki_der.specs.declared.mode.Mode.TheVariants.{Der}
use Rattle.rpki_files.specs.Checklist.{ChecklistForm}
use Rattle.rpki_files.specs.Manifest.{ManifestForm}
use Rattle.rpki_files.specs.Checklist.Checks.{checklist_kind}
use Rattle.rpki_files.specs.Manifest.Checks.{manifest_kind}
use Rattle.rpki_routes.specs.Aspa.Form.{AspaForm}
use Rattle.rpki_routes.specs.Roa.Form.{RoaForm}
use Rattle.rpki_routes.specs.Aspa.Checks.{aspa_kind}
use Rattle.rpki_routes.specs.Roa.Checks.{roa_kind}
use Rattle.rpki_sigobj.specs.Signed.Kind as signed
use Rattle.rpki_cli.specs.Options.{provider_limit, manifest_rule}
use Rattle.rpki_cli.specs.declared.words.Kind.{Kind}
use Rattle.rpki_cli.specs.declared.words.Kind.TheVariants.{Aspa, Manifest, Roa, Rsc}
use Rattle.rpki_cli.specs.declared.words.Options.{Options}
use Rattle.rpki_show.specs.Texts.Aspa.{aspa_text}
use Rattle.rpki_show.specs.Texts.Manifest.{manifest_text}
use Rattle.rpki_show.specs.Texts.Roa.{roa_text}
use Rattle.rpki_show.specs.Texts.Rsc.{rsc_text}
use Rattle.rpki_show.specs.declared.texts.serial.Hexadecimal.{Hexadecimal}
use Rattle.rpki_show.specs.declared.texts.serial.Hexadecimal.TheVariants.{Plain}

-- What P says of a kind, with these options: of what is asked of its objects, the form of its
-- contents, and the lines of these, with numbers in hexadecimal written so. A row for each kind. A
-- content is in DER (RFC 6488, section 2), with `--relaxed` too.
abbrev pub OfKindIn : {R : Type 1} → Hexadecimal → Options → Kind
    → ((X : Type 0) → signed.ObjectKind X → (List ℕ → X → Type 0) → (X → List ℕ) → R) → R
OfKindIn way options Aspa P = P _ aspa_kind (AspaForm (provider_limit options)) aspa_text
OfKindIn way options Manifest P =
    P _ manifest_kind (ManifestForm (manifest_rule options) Der) (manifest_text way)
OfKindIn way options Roa P = P _ roa_kind RoaForm roa_text
OfKindIn way options Rsc P = P _ checklist_kind (ChecklistForm Der) rsc_text

-- the row of a kind, with numbers in lower hexadecimal (`Plain`)
abbrev pub OfKind : {R : Type 1} → Options → Kind
    → ((X : Type 0) → signed.ObjectKind X → (List ℕ → X → Type 0) → (X → List ℕ) → R) → R
OfKind options kind P = OfKindIn Plain options kind P
