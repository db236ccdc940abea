-- What is said of what is refused.
use Rattle.std.specs.Prelude.{ℕ, List, ◌++◌, ◌==◌, codes, decimal, if◌then◌else◌}
use Rattle.std.specs.List.{after_last}
use Rattle.rpki_basics.specs.Time.Form.{iso_text}
use Rattle.rpki_certs.specs.declared.issuer.IssuerError.{IssuerError}
use Rattle.rpki_certs.specs.declared.issuer.IssuerError.TheVariants as issuers
use Rattle.rpki_faults.specs.Text.Validation.{validation_text}
use Rattle.rpki_faults.specs.declared.validation.ValidationError.{ValidationError}
use Rattle.rpki_faults.specs.declared.validation.ValidationError.TheVariants as validations
use Rattle.rpki_faults.specs.declared.verification.VerificationError.TheVariants as verifications
use Rattle.rpki_signed.specs.declared.check.CheckError.{CheckError}
use Rattle.rpki_signed.specs.declared.check.CheckError.TheVariants as checks
use Rattle.rpki_relying_party.specs.declared.cause.Cause.{Cause}
use Rattle.rpki_relying_party.specs.declared.cause.Cause.TheVariants as causes
use Rattle.rpki_relying_party.specs.declared.cause.FileFault.{FileFault}
use Rattle.rpki_relying_party.specs.declared.cause.FileFault.TheVariants as files
use Rattle.rpki_relying_party.specs.declared.cause.ListFault.{ListFault}
use Rattle.rpki_relying_party.specs.declared.cause.ListFault.TheVariants as lists
use Rattle.rpki_relying_party.specs.declared.cause.ManifestFault.{ManifestFault}
use Rattle.rpki_relying_party.specs.declared.cause.ManifestFault.TheVariants as manifests
use Rattle.rpki_relying_party.specs.declared.copy.NoFile.{NoFile}
use Rattle.rpki_relying_party.specs.declared.copy.NoFile.TheVariants.{Missing, NotRegular, TooLarge}
use Rattle.rpki_relying_party.specs.declared.copy.NoFile.TheVariants.{Unreadable}
use Rattle.rpki_relying_party.specs.declared.found.Refusal.{Refusal}

-- the name of a file: what stands after the last slash of its URI
abbrev pub name_of : List ℕ → List ℕ
name_of uri = after_last (λ o. o == 0x2f) uri

-- why a copy gives no file
abbrev pub no_file_text : NoFile → List ℕ
no_file_text Missing = codes "is not in the copy"
no_file_text NotRegular = codes "is no regular file"
no_file_text TooLarge = codes "is too large"
no_file_text Unreadable = codes "can't be read"

-- why a listed file is not there
abbrev pub file_fault_text : FileFault → List ℕ
file_fault_text (files.NoFile why) = no_file_text why
file_fault_text files.OtherHash = codes "has another hash"

-- Why a certificate is not valid. What its caller refuses is what the revocation list revokes
-- (`SaysOf`).
abbrev pub validity_text : ValidationError → List ℕ
validity_text (validations.Verification verifications.Caller) =
    codes "certificate has been revoked"
validity_text fault = validation_text fault

-- why an object is refused; which fault a decoder meets first is left open
abbrev pub object_fault_text : CheckError → List ℕ
object_fault_text (checks.Decode error) = codes "malformed"
object_fault_text (checks.Validation fault) = validity_text fault

-- why a certificate is refused
abbrev pub certificate_fault_text : IssuerError → List ℕ
certificate_fault_text (issuers.Decode error) = codes "malformed"
certificate_fault_text (issuers.Validation fault) = validity_text fault

-- why there is no manifest
abbrev pub manifest_fault_text : ManifestFault → List ℕ
manifest_fault_text (manifests.NoFile why) = codes "manifest " ++ no_file_text why
manifest_fault_text (manifests.Refused error) = codes "manifest: " ++ object_fault_text error
manifest_fault_text (manifests.NotYet time) =
    codes "manifest is not yet current: thisUpdate " ++ iso_text time
manifest_fault_text (manifests.Stale time) =
    codes "manifest is stale: nextUpdate " ++ iso_text time
manifest_fault_text (manifests.Twice uri) = name_of uri ++ codes " is listed twice"

-- why there is no revocation list
abbrev pub list_fault_text : ListFault → List ℕ
list_fault_text lists.Unlisted = codes "revocation list is not listed"
list_fault_text lists.Malformed = codes "revocation list: malformed"
list_fault_text lists.OtherKey = codes "revocation list: names another key"
list_fault_text lists.BadSignature = codes "revocation list: signature is not valid"
list_fault_text (lists.NotYet time) =
    codes "revocation list is not yet current: thisUpdate " ++ iso_text time
list_fault_text (lists.Stale time) =
    codes "revocation list is stale: nextUpdate " ++ iso_text time
list_fault_text lists.RevokesManifest = codes "manifest: certificate has been revoked"

-- the word after a number of CAs
abbrev pub word_of : ℕ → List ℕ
word_of count = if count == 1 then codes "CA" else codes "CAs"

-- why something is refused
abbrev pub cause_text : Cause → List ℕ
cause_text (causes.Manifest fault) = manifest_fault_text fault
cause_text (causes.List fault) = list_fault_text fault
cause_text (causes.File uri fault) = name_of uri ++ (codes " " ++ file_fault_text fault)
cause_text (causes.Object error) = object_fault_text error
cause_text causes.RoaCertificate =
    codes "certificate of a ROA names AS numbers or inherits"
cause_text (causes.Certificate error) = certificate_fault_text error
cause_text (causes.Limit count) =
    codes "not read: "
    ++ (decimal count ++ (codes " " ++ (word_of count ++ codes ", limit reached")))
cause_text (causes.Memory count) =
    codes "not read: "
    ++ (decimal count ++ (codes " " ++ (word_of count ++ codes ", out of memory")))

-- the line of a refusal: URI: CAUSE (under CA)
abbrev pub refusal_line : Refusal → List ℕ
refusal_line r =
    r.uri ++ (codes ": " ++ (cause_text r.cause
    ++ (codes " (under " ++ (r.under ++ codes ")"))))
