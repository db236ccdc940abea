-- Why something is not built and signed.
use Rattle.std.specs.Prelude.{◌≡◌, ◌<◌, ℕ, List, Option, Some, Result, Ok, Err, codes}
use Rattle.rpki_basics.specs.declared.signer.SignerFault.{SignerFault}
use Rattle.rpki_basics.specs.declared.signer.SignerFault.TheVariants as fault
use Rattle.rpki_basics.specs.Build.{fault_text}
use Rattle.rpki_basics.specs.declared.signing.SigningError.{SigningError}
use Rattle.rpki_basics.specs.declared.signing.SigningError.TheVariants as error

-- The error for a fault of a signer.
abbrev pub signing_error : {E : Type 0} → SignerFault E → SigningError E
signing_error fault.KeyNotFound = error.KeyNotFound
signing_error fault.IncompatibleKey = error.IncompatibleKey
signing_error (fault.Signer e) = error.Signer e
signing_error fault.Memory = error.Memory

-- The text of an error, where own are the texts of a signer's own faults.
abbrev pub signing_text : {E : Type 0} → (E → Option (List ℕ)) → SigningError E → Option (List ℕ)
signing_text own error.KeyNotFound = Some (codes "key not found")
signing_text own error.IncompatibleKey = Some (codes "incompatible key")
signing_text own (error.Signer e) = own e
signing_text own error.AttrsTooLong = Some (codes "signed attributes too long")
signing_text own error.TooLong = Some (codes "too long")
signing_text own (error.Content fault) = Some (fault_text fault)
signing_text own error.NotDer = Some (codes "not DER")
signing_text own error.Memory = Some (codes "out of memory")

-- Each fault that a signer can answer (no such key, an incompatible key, one of its own) raises the
-- count of its failed calls, and nothing else does.
abbrev pub CountsError : {T E : Type 0} → ℕ → ℕ → Result T (SigningError E) → Type 0
CountsError old new (Ok t) = new ≡ old
CountsError old new (Err error.KeyNotFound) = old < new
CountsError old new (Err error.IncompatibleKey) = old < new
CountsError old new (Err (error.Signer e)) = old < new
CountsError old new (Err error.AttrsTooLong) = new ≡ old
CountsError old new (Err error.TooLong) = new ≡ old
CountsError old new (Err (error.Content fault)) = new ≡ old
CountsError old new (Err error.NotDer) = new ≡ old
CountsError old new (Err error.Memory) = new ≡ old
