-- The checks of a certificate of a few facts, in their order.
use Rattle.std.specs.Prelude.{◌≡◌, ◌≤◌, ◌≢◌, ℕ, None, Some, true, false, IfSome}
use Rattle.std.specs.Prelude.{List, [], ◌∷◌, ◌++◌}
use Rattle.rpki_faults.specs.Checks.{Check, ◌unless◌, ◌as_faults_of◌}
use Rattle.rpki_faults.specs.declared.inspection.InspectionError.{InspectionError}
use Rattle.rpki_faults.specs.declared.inspection.InspectionError.TheVariants as inspections
use Rattle.rpki_faults.specs.declared.usage.KeyUsage.TheVariants.{Ca}
use Rattle.rpki_faults.specs.declared.validation.ValidationError.{ValidationError}
use Rattle.rpki_faults.specs.declared.validation.ValidationError.TheVariants.{Inspection}
use Rattle.rpki_faults.specs.declared.validation.ValidationError.TheVariants.{Verification}
use Rattle.rpki_faults.specs.declared.verification.VerificationError.{VerificationError}
use Rattle.rpki_faults.specs.declared.verification.VerificationError.TheVariants as verifications
use Rattle.rpki_examples.specs.declared.inspected.Facts.{Facts}

-- The certificate of a CA fits the profile, as far as those of trust anchors do as well (RFC 6487,
-- section 4.8).
abbrev pub authority_checks : Facts → List (Check InspectionError)
authority_checks c =
    (inspections.KeyIdentifier unless (c.subject_key_id ≡ c.key_id))
    ∷ (inspections.NoResources unless (c.names_numbers ≡ true))
    ∷ (inspections.BasicCa unless (c.basic_ca ≡ Some true))
    ∷ (inspections.KeyUsage unless (c.key_usage ≡ Ca))
    ∷ (inspections.Eku unless (c.has_extended_key_usage ≡ false))
    ∷ (inspections.MissingRepository unless (c.ca_repository ≢ None))
    ∷ (inspections.MissingManifest unless (c.rpki_manifest ≢ None))
    ∷ (inspections.SignedObject unless (c.signed_object ≡ None))
    ∷ []

-- The certificate of a trust anchor fits the profile (RFC 6487, section 4.8; RFC 8630, section
-- 2.3).
abbrev pub anchor_checks : Facts → List (Check InspectionError)
anchor_checks c =
    authority_checks c
    ++ ((inspections.TaAki unless IfSome c.authority_key_id (λ aki. aki ≡ c.subject_key_id))
    ∷ (inspections.TaCrlUri unless (c.crl_uri ≡ None))
    ∷ (inspections.TaCaIssuer unless (c.ca_issuer ≡ None))
    ∷ (inspections.TaInherit unless (c.inherits ≡ false))
    ∷ [])

-- The moment is not before the validity begins and not after it ends: both ends belong to it (RFC
-- 5280, section 4.1.2.5).
abbrev pub validity_checks : Facts → ℕ → List (Check VerificationError)
validity_checks c now =
    (verifications.NotYetValid unless (c.not_before ≤ now))
    ∷ (verifications.Expired unless (now ≤ c.not_after))
    ∷ []

-- The certificate has to be signed (RFC 5280, section 6.1.3).
abbrev pub signature_checks : Facts → List (Check VerificationError)
signature_checks c = (verifications.BadSignature unless (c.is_signed ≡ true)) ∷ []

-- The certificate of a trust anchor is valid: it fits, then the moment, then the signature.
abbrev pub anchor_validation : Facts → ℕ → List (Check ValidationError)
anchor_validation c now =
    (Inspection as_faults_of anchor_checks c)
    ++ ((Verification as_faults_of validity_checks c now)
    ++ (Verification as_faults_of signature_checks c))
