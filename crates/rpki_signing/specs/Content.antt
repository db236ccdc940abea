-- Signed objects that are built of contents.
use Rattle.std.specs.Prelude.{◌⊎◌, List}
use Rattle.rpki_der.specs.declared.mode.Mode.{Mode}
use Rattle.rpki_basics.specs.Moment.{Moment}
use Rattle.rpki_basics.specs.declared.build.BuildError.{BuildError}
use Rattle.rpki_basics.specs.declared.build.BuildError.TheVariants as unbuilt
use Rattle.rpki_basics.specs.declared.build.BuildFault.{BuildFault}
use Rattle.rpki_basics.specs.declared.signing.SigningError.{SigningError}
use Rattle.rpki_basics.specs.declared.signing.SigningError.TheVariants as error
use Rattle.rpki_faults.specs.Checks.{Check, AllHold, IsFirstFault}
use Rattle.rpki_certs.specs.Validate.{Validated, IsValidatedUnder}
use Rattle.rpki_certs.specs.Verify.{Verdict}
use Rattle.rpki_sigobj.specs.Verify.{Digester}
use Rattle.rpki_sigobj.specs.Signed.Kind.{ObjectKind}
use Rattle.rpki_sigobj.specs.Signed.Process.{before_revocation}
use Rattle.rpki_sigobj.specs.Signed.{Whole, cert_in}

-- the error for a content that is not built
abbrev pub signing_error : {E : Type 0} → BuildError → SigningError E
signing_error (unbuilt.Fault fault) = error.Content fault
signing_error unbuilt.TooLong = error.TooLong
signing_error unbuilt.Memory = error.Memory

-- Why a content is not built and signed: the first check of the content that does not hold; or all
-- hold, and something in it is too long, or it is not signed for this later reason; or memory ran
-- out.
abbrev pub IsNotSigned : {E : Type 0} → List (Check BuildFault) → Type 0
    → (SigningError E → Type 0) → SigningError E → Type 0
IsNotSigned checks long Later error.KeyNotFound = AllHold checks × Later error.KeyNotFound
IsNotSigned checks long Later error.IncompatibleKey = AllHold checks × Later error.IncompatibleKey
IsNotSigned checks long Later (error.Signer e) = AllHold checks × Later (error.Signer e)
IsNotSigned checks long Later error.AttrsTooLong = AllHold checks × Later error.AttrsTooLong
IsNotSigned checks long Later error.TooLong = AllHold checks × (long ⊎ Later error.TooLong)
IsNotSigned checks long Later (error.Content fault) = IsFirstFault checks fault
IsNotSigned checks long Later error.NotDer = AllHold checks × Later error.NotDer
IsNotSigned checks long Later error.Memory = Unit {0}

-- An object passes the whole validation of its kind under this issuer, at this moment: each check
-- before it is asked whether its certificate was revoked, and each check after it of the sets that
-- its certificate has when it is validated.
pub record Passes {X : Type 0} (kind : ObjectKind X) (mode : Mode) (digest : Digester)
    (verdict : Verdict) (issuer : Validated) (now : Moment) (o : Whole X) : Type 0 where
  pub before : AllHold (before_revocation kind digest verdict o issuer now)
  pub held : (v : Validated) → IsValidatedUnder (cert_in mode o) issuer v
      → AllHold (kind.held o.content v.sets)
