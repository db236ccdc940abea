-- The texts of verifications.
use Rattle.std.specs.Prelude.{ℕ, List, ◌++◌, codes}
use Rattle.rpki_resources.specs.declared.family.AddressFamily.TheVariants.{Ipv4, Ipv6}
use Rattle.rpki_resources.specs.Text.{max_len_text}
use Rattle.rpki_faults.specs.declared.family.Family.TheVariants.{As, V4, V6}
use Rattle.rpki_faults.specs.declared.uncovered.UncoveredPrefix.{UncoveredPrefix}
use Rattle.rpki_faults.specs.declared.verification.VerificationError.{VerificationError}
use Rattle.rpki_faults.specs.declared.verification.VerificationError.TheVariants as faults

-- A prefix that a certificate does not have, with its maximum length where there is one.
abbrev pub uncovered_text : UncoveredPrefix → List ℕ
uncovered_text uncovered =
    codes "ROA prefix " ++ (max_len_text uncovered.prefix ++ codes " not covered by certificate")

-- Why a certificate or an object is not good. The texts of a signature, of the claim of an issuer,
-- of moments, of claims of too much, of a customer or numbers of a checklist that the certificate
-- has not, of a path that returns and of the caller are this project's own.
abbrev pub verification_text : VerificationError → List ℕ
verification_text faults.DigestMismatch = codes "message digest mismatch in signed object"
verification_text faults.SigningTime = codes "signing time is after not_after validity time"
verification_text faults.BadSignature = codes "signature is not valid"
verification_text faults.IssuerClaim = codes "not issued by this CA"
verification_text faults.NotYetValid = codes "certificate is not yet valid"
verification_text faults.Expired = codes "certificate has expired"
verification_text (faults.Overclaimed As) = codes "overclaimed AS resources"
verification_text (faults.Overclaimed V4) = codes "overclaimed IPv4 resources"
verification_text (faults.Overclaimed V6) = codes "overclaimed IPv6 resources"
verification_text faults.NoAsResources = codes "EE certificate is missing AS resources"
verification_text faults.InheritedAsResources =
    codes "EE certificate contains inherited AS resources"
verification_text faults.EmptyAsResources = codes "EE certificate contains empty AS resources"
verification_text faults.SeveralAsBlocks =
    codes "EE certificate contains multiple AS resource blocks"
verification_text faults.AsRange = codes "EE certificate contains AS resource with range"
verification_text faults.OtherCustomer =
    codes "EE certificate does not contain customer AS in AS resources"
verification_text faults.IpResources = codes "EE certificate is contains IP resources"
verification_text faults.CustomerNotHeld = codes "customer AS not held"
verification_text (faults.NoPrefixCovered Ipv4) = codes "no IPv4 ROA prefix covered by certificate"
verification_text (faults.NoPrefixCovered Ipv6) = codes "no IPv6 ROA prefix covered by certificate"
verification_text (faults.UncoveredPrefix uncovered) = uncovered_text uncovered
verification_text faults.ChecklistNotHeld = codes "checklist resources not held"
verification_text faults.ManifestHash = codes "manifest hash mismatch"
verification_text faults.UnknownKey = codes "public key not found in chain"
verification_text faults.SignerDigest = codes "message digest mismatch"
verification_text faults.MissingCertificate = codes "missing certificate"
verification_text faults.MissingCrl = codes "missing CRL"
verification_text faults.UnusedSubjectKeys = codes "unused subject keys"
verification_text faults.UnusedCrls = codes "unused CRLs"
verification_text faults.UnusedEeCertificates = codes "unused EE certificates"
verification_text faults.InvalidCaCertificates = codes "only invalid CA certificates found"
verification_text faults.PathReturns = codes "path returns"
verification_text faults.Revoked = codes "CA certificate has been revoked"
verification_text faults.UnusedCaCertificates = codes "unused CA certificates"
verification_text faults.NotAnchored = codes "RTA could not be validated"
verification_text faults.AsNotFullyCovered = codes "AS resources not fully covered"
verification_text faults.IpNotFullyCovered = codes "IP resources not fully covered"
verification_text faults.Caller = codes "refused by the caller"
