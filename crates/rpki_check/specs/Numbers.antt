-- The number of each refusal, which stays the same.
use Rattle.std.specs.Prelude.{◌≡◌, ◌⊎◌, ℕ, ◌+◌, List, true, false, Result, Ok, Err}
use Rattle.rpki_der.specs.declared.error.DecodeError.TheVariants as decoding
use Rattle.rpki_resources.specs.declared.family.AddressFamily.TheVariants.{Ipv4, Ipv6}
use Rattle.rpki_faults.specs.declared.family.Family.TheVariants.{As, V4, V6}
use Rattle.rpki_faults.specs.declared.inspection.InspectionError.{InspectionError}
use Rattle.rpki_faults.specs.declared.inspection.InspectionError.TheVariants as profile
use Rattle.rpki_faults.specs.declared.validation.ValidationError.TheVariants as validation
use Rattle.rpki_faults.specs.declared.verification.VerificationError.{VerificationError}
use Rattle.rpki_faults.specs.declared.verification.VerificationError.TheVariants as faults
use Rattle.rpki_certs.specs.declared.issuer.IssuerError.{IssuerError}
use Rattle.rpki_certs.specs.declared.issuer.IssuerError.TheVariants as issuing
use Rattle.rpki_rsa.specs.Signature.{is_rsa_signature}
use Rattle.rpki_signed.specs.declared.check.CheckError.{CheckError}
use Rattle.rpki_signed.specs.declared.check.CheckError.TheVariants as checking
use Rattle.rpki_check.specs.declared.refusal.Refusal.{Refusal}
use Rattle.rpki_check.specs.declared.refusal.Refusal.TheVariants.{Check, Issuer, Memory}
use Rattle.rpki_check.specs.declared.refusal.Refusal.TheVariants.{NoList, NoMoment}

-- the version of the calls, 1.0
abbrev pub version : ℕ
version = 0x10000

-- memory ran out
abbrev pub no_memory : ℕ
no_memory = 1

-- the date is none
abbrev pub no_moment : ℕ
no_moment = 2

-- no kind has this number, or the object names none
abbrev pub no_kind : ℕ
no_kind = 3

-- one of the revocation lists is none
abbrev pub no_list : ℕ
no_list = 4

-- the octets begin with no object of the kind
abbrev pub malformed : ℕ
malformed = 100

-- how much more the number of a fault is where it is one of the certificates of a question
abbrev pub of_issuer : ℕ
of_issuer = 1000

-- of what does not fit the profile
abbrev pub inspection_number : InspectionError → ℕ
inspection_number profile.SidMismatch = 201
inspection_number profile.KeyIdentifier = 202
inspection_number profile.NoResources = 203
inspection_number profile.MissingAki = 204
inspection_number profile.MissingCrlUri = 205
inspection_number profile.MissingCaIssuer = 206
inspection_number profile.BasicCa = 207
inspection_number profile.KeyUsage = 208
inspection_number profile.Eku = 209
inspection_number profile.MissingRepository = 210
inspection_number profile.MissingManifest = 211
inspection_number profile.SignedObject = 212
inspection_number profile.MissingSignedObject = 213
inspection_number profile.CaAccess = 214
inspection_number profile.TaAki = 215
inspection_number profile.TaCrlUri = 216
inspection_number profile.TaCaIssuer = 217
inspection_number profile.TaInherit = 218
inspection_number (profile.NotCovered As) = 219
inspection_number (profile.NotCovered V4) = 220
inspection_number (profile.NotCovered V6) = 221

-- of what fits it, and is not good
abbrev pub verification_number : VerificationError → ℕ
verification_number faults.DigestMismatch = 301
verification_number faults.SigningTime = 302
verification_number faults.BadSignature = 303
verification_number faults.IssuerClaim = 304
verification_number faults.NotYetValid = 305
verification_number faults.Expired = 306
verification_number (faults.Overclaimed As) = 307
verification_number (faults.Overclaimed V4) = 308
verification_number (faults.Overclaimed V6) = 309
verification_number faults.NoAsResources = 310
verification_number faults.InheritedAsResources = 311
verification_number faults.EmptyAsResources = 312
verification_number faults.SeveralAsBlocks = 313
verification_number faults.AsRange = 314
verification_number faults.OtherCustomer = 315
verification_number faults.IpResources = 316
verification_number faults.CustomerNotHeld = 317
verification_number (faults.NoPrefixCovered Ipv4) = 318
verification_number (faults.NoPrefixCovered Ipv6) = 319
verification_number (faults.UncoveredPrefix uncovered) = 320
verification_number faults.ChecklistNotHeld = 321
verification_number faults.ManifestHash = 322
verification_number faults.UnknownKey = 323
verification_number faults.SignerDigest = 324
verification_number faults.MissingCertificate = 325
verification_number faults.MissingCrl = 326
verification_number faults.UnusedSubjectKeys = 327
verification_number faults.UnusedCrls = 328
verification_number faults.UnusedEeCertificates = 329
verification_number faults.InvalidCaCertificates = 330
verification_number faults.PathReturns = 331
verification_number faults.Revoked = 332
verification_number faults.UnusedCaCertificates = 333
verification_number faults.NotAnchored = 334
verification_number faults.AsNotFullyCovered = 335
verification_number faults.IpNotFullyCovered = 336
verification_number faults.Caller = 337

-- of why an object is not good
abbrev pub check_number : CheckError → ℕ
check_number (checking.Decode decoding.Memory) = no_memory
check_number (checking.Decode decoding.Malformed) = malformed
check_number (checking.Decode (decoding.Content fault)) = malformed
check_number (checking.Validation validation.Memory) = no_memory
check_number (checking.Validation (validation.Inspection fault)) = inspection_number fault
check_number (checking.Validation (validation.Verification fault)) = verification_number fault

-- of why certificates make no issuer: a thousand more than of an object
abbrev pub issuer_number : IssuerError → ℕ
issuer_number (issuing.Decode decoding.Memory) = no_memory
issuer_number (issuing.Decode decoding.Malformed) = of_issuer + malformed
issuer_number (issuing.Decode (decoding.Content fault)) = of_issuer + malformed
issuer_number (issuing.Validation validation.Memory) = no_memory
issuer_number (issuing.Validation (validation.Inspection fault)) =
    of_issuer + inspection_number fault
issuer_number (issuing.Validation (validation.Verification fault)) =
    of_issuer + verification_number fault

-- of a refusal
abbrev pub refusal_number : Refusal → ℕ
refusal_number Memory = no_memory
refusal_number NoMoment = no_moment
refusal_number NoList = no_list
refusal_number (Check fault) = check_number fault
refusal_number (Issuer fault) = issuer_number fault

-- the status of what is found: 0 for a good object, and else the number of the refusal
abbrev pub status_of : {X : Type 0} → Result X Refusal → ℕ
status_of (Ok x) = 0
status_of (Err refusal) = refusal_number refusal

-- what a call answers of a signature: 0 exactly if it is one, and else that of a bad signature, unless
-- memory ran out
abbrev pub IsVerdict : List ℕ → List ℕ → List ℕ → ℕ → Type 0
IsVerdict key message signature status =
    (status ≡ no_memory)
    ⊎ (((status ≡ 0) × (is_rsa_signature key message signature ≡ true))
    ⊎ ((status ≡ verification_number faults.BadSignature)
    × (is_rsa_signature key message signature ≡ false)))
