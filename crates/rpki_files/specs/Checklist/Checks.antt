-- Signed checklists as signed objects. The sections are those of RFC 9323.
use Rattle.std.specs.Prelude.{ℕ, List, [], ◌∷◌, false}
use Rattle.rpki_resources.specs.Blocks.{IsCanonical}
use Rattle.rpki_resources.specs.Claim.{IsCoveredBy}
use Rattle.rpki_faults.specs.Checks.{Check, ◌unless◌, ◌as_faults_of◌}
use Rattle.rpki_faults.specs.declared.family.Family.TheVariants.{As, V4, V6}
use Rattle.rpki_faults.specs.declared.inspection.InspectionError.{InspectionError}
use Rattle.rpki_faults.specs.declared.inspection.InspectionError.TheVariants.{NotCovered}
use Rattle.rpki_faults.specs.declared.validation.ValidationError.TheVariants.{Inspection}
use Rattle.rpki_faults.specs.declared.validation.ValidationError.TheVariants.{Verification}
use Rattle.rpki_faults.specs.declared.verification.VerificationError.{VerificationError}
use Rattle.rpki_faults.specs.declared.verification.VerificationError.TheVariants as faults
use Rattle.rpki_extensions.specs.declared.claims.Claims.{Claims}
use Rattle.rpki_certs.specs.Validate.{Sets, AreHeld}
use Rattle.rpki_files.specs.Checklist.{Checklist}
use Rattle.rpki_sigobj.specs.Signed.Kind.{ObjectKind}

-- id-ct-signedChecklist, 1.2.840.113549.1.9.16.1.48 (3)
abbrev pub ct_checklist : List ℕ
ct_checklist = 0x2A ∷ 0x86 ∷ 0x48 ∷ 0x86 ∷ 0xF7 ∷ 0x0D ∷ 0x01 ∷ 0x09 ∷ 0x10 ∷ 0x01 ∷ 0x30 ∷ []

-- the sets of a checklist
abbrev pub checklist_sets : Checklist → Sets
checklist_sets l = record { as_numbers = l.as_resources; v4 = l.v4_resources; v6 = l.v6_resources }

-- The certificate claims the numbers of the checklist, family by family (5). Where it inherits a
-- family, any numbers of it pass here: which of them it has is checked once it was validated. That
-- it may inherit, against section 5, is this project's own rule.
abbrev pub checklist_claimed : Checklist → Claims → List (Check InspectionError)
checklist_claimed l x =
    (NotCovered As unless IsCoveredBy (λ n. n) x.as_numbers l.as_resources)
    ∷ (NotCovered V4 unless IsCoveredBy (λ n. n) x.addresses.v4 l.v4_resources)
    ∷ (NotCovered V6 unless IsCoveredBy (λ n. n) x.addresses.v6 l.v6_resources)
    ∷ []

-- The validated certificate has them (5).
abbrev pub checklist_held : Checklist → Sets → List (Check VerificationError)
checklist_held l sets = (faults.ChecklistNotHeld unless AreHeld sets (checklist_sets l)) ∷ []

-- The sets of a checklist, as they are read, are canonical.
pub record AreCanonical (l : Checklist) : Type 0 where
  pub as_numbers : IsCanonical (λ n. n) l.as_resources
  pub v4 : IsCanonical (λ n. n) l.v4_resources
  pub v6 : IsCanonical (λ n. n) l.v6_resources

-- A checklist is not published (2), so its certificate need not say where it is.
abbrev pub checklist_kind : ObjectKind Checklist
checklist_kind = record {
  type = ct_checklist;
  is_published = false;
  claimed = λ l x. Inspection as_faults_of checklist_claimed l x;
  held = λ l sets. Verification as_faults_of checklist_held l sets;
  covers = λ l x sets. AreHeld sets (checklist_sets l);
}
