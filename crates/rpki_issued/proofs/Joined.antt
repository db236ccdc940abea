-- What signing octets, and joining the signature to them, answers.
use Rattle.std.proofs.Common.{◌≡◌, ℕ, ◌<◌, ◌^◌, List, length, Err, arith}
use Rattle.rpki_der.specs.declared.encode.EncodeError.{EncodeError}
use Rattle.rpki_der.specs.declared.encode.EncodeError.TheVariants.{NotDer, TooLong, Io, Memory}
use Rattle.rpki_der.specs.Tags.{SEQUENCE}
use Rattle.rpki_der.specs.Write.Encode.{IsBytesOf}
use Rattle.rpki_der.specs.Write.Written.{value_octets, length_value_octets_le}
use Rattle.rpki_basics.specs.declared.signer.SignerFault.{SignerFault}
use Rattle.rpki_basics.specs.declared.signer.SignerFault.TheVariants as fault
use Rattle.rpki_basics.specs.Signer.{CountsFault}
use Rattle.rpki_basics.specs.Signing.{signing_error}
use Rattle.rpki_basics.specs.Signing.{CountsError}
use Rattle.rpki_issued.specs.Signing.{signed_contents, IsNotJoined, encode_fault}

-- ---- refusals

pub not-signed : {E : Type 0} (may : List ℕ → Type 0) (signed : List ℕ) (f : SignerFault E)
    → IsNotJoined may signed (signing_error f)
not-signed may signed fault.KeyNotFound = tt
not-signed may signed fault.IncompatibleKey = tt
not-signed may signed (fault.Signer e) = tt
not-signed may signed fault.Memory = tt

-- contents of fewer than 2^32 octets have a header that fits
pub whole : (c : List ℕ) → length c < 2 ^ 32 → length (value_octets SEQUENCE c) < 2 ^ 64
whole c short = omega (arith, short, length_value_octets_le SEQUENCE c)

pub not-joined : (E : Type 0) (may : List ℕ → Type 0) (signed s : List ℕ) → may s
    → (e : EncodeError)
    → IsBytesOf (Unit {0}) (length (signed_contents signed s) < 2 ^ 32)
    (value_octets SEQUENCE (signed_contents signed s)) (Err e)
    → IsNotJoined {E = E} may signed (encode_fault {E = E} e)
not-joined E may signed s m NotDer h = absurd (h tt)
not-joined E may signed s m TooLong h =
    (s, m, λ k. h (k, whole (signed_contents signed s) k))
not-joined E may signed s m Io h = absurd h
not-joined E may signed s m Memory h = tt

-- ---- counts

pub counts-fault : (T U : Type 0) {E : Type 0} (old new : ℕ) (f : SignerFault E)
    → CountsFault {T = T} old new (Err f) → CountsError {T = U} old new (Err (signing_error f))
counts-fault T U old new fault.KeyNotFound h = h
counts-fault T U old new fault.IncompatibleKey h = h
counts-fault T U old new (fault.Signer e) h = h
counts-fault T U old new fault.Memory h = h

pub counts-unwritten : (T E : Type 0) (old new : ℕ) (e : EncodeError) → new ≡ old
    → CountsError {T = T} {E = E} old new (Err (encode_fault e))
counts-unwritten T E old new NotDer h = h
counts-unwritten T E old new TooLong h = h
counts-unwritten T E old new Io h = h
counts-unwritten T E old new Memory h = h
