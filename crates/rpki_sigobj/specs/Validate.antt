-- The validation of signed objects: what is checked, and in which order.
use Rattle.std.specs.Prelude.{List, ◌++◌}
use Rattle.rpki_basics.specs.Moment.{Moment}
use Rattle.rpki_faults.specs.Checks.{Check}
use Rattle.rpki_faults.specs.declared.validation.ValidationError.{ValidationError}
use Rattle.rpki_certs.specs.Validate.{Validated, IsValidatedUnder, ee_validation}
use Rattle.rpki_certs.specs.Validate.{detached_ee_validation}
use Rattle.rpki_certs.specs.Verify.{Verdict}
use Rattle.rpki_sigobj.specs.Object.{SignedData, KeptObject, cert_of}
use Rattle.rpki_sigobj.specs.Verify.{Digester, object_checks}

-- A published object is valid under this issuer: it is well signed, and its certificate is valid
-- as that of an end entity that signed a published object (RFC 6488, section 3).
unfoldable pub object_validation : Digester → Verdict → SignedData → Validated → Moment
    → List (Check ValidationError)
object_validation digest verdict s issuer now =
    object_checks digest verdict s ++ ee_validation verdict s.cert issuer now

-- An object that need not be published is valid under this issuer: it is well signed, and its
-- certificate is valid as that of an end entity that signed such an object (RFC 9323, section 2).
unfoldable pub detached_validation : Digester → Verdict → SignedData → Validated → Moment
    → List (Check ValidationError)
detached_validation digest verdict s issuer now =
    object_checks digest verdict s ++ detached_ee_validation verdict s.cert issuer now

-- the certificate of the object, with its validated sets under this issuer
abbrev pub IsCertUnder : KeptObject → Validated → Validated → Type 0
IsCertUnder o issuer v = IsValidatedUnder (cert_of o) issuer v
