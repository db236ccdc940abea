-- What is signed, with its signature, and why it is not signed.
use Rattle.std.specs.Prelude.{◌≡◌, ℕ, ◌<◌, ◌^◌, List, ◌++◌, length}
use Rattle.rpki_der.specs.declared.encode.EncodeError.{EncodeError}
use Rattle.rpki_der.specs.declared.encode.EncodeError.TheVariants as unwritten
use Rattle.rpki_der.specs.Tags.{BIT_STRING, SEQUENCE}
use Rattle.rpki_der.specs.Write.Written.{value_octets, bit_string_contents}
use Rattle.rpki_basics.specs.Algorithm.{cert_algorithm_octets}
use Rattle.rpki_basics.specs.declared.signing.SigningError.{SigningError}
use Rattle.rpki_basics.specs.declared.signing.SigningError.TheVariants as error

-- the octets that are signed, the algorithm and the signature, as they stand in the SEQUENCE of a
-- certificate (RFC 5280, section 4.1) and of a revocation list (RFC 5280, section 5.1)
abbrev pub signed_contents : List ℕ → List ℕ → List ℕ
signed_contents signed signature =
    signed ++ (cert_algorithm_octets ++ value_octets BIT_STRING (bit_string_contents signature 0))

-- The last octets are a SEQUENCE of those that are signed and one of the signatures that may be
-- answered.
abbrev pub IsJoined : (List ℕ → Type 0) → List ℕ → List ℕ → Type 0
IsJoined may signed octets =
    (s : List ℕ) × may s × (octets ≡ value_octets SEQUENCE (signed_contents signed s))
    × (length (signed_contents signed s) < 2 ^ 32)

-- Why octets are not signed: a fault of the signer, or contents of 2^32 octets or more with a
-- signature that may be answered; or memory ran out.
abbrev pub IsNotJoined : {E : Type 0} → (List ℕ → Type 0) → List ℕ → SigningError E → Type 0
IsNotJoined may signed error.KeyNotFound = Unit {0}
IsNotJoined may signed error.IncompatibleKey = Unit {0}
IsNotJoined may signed (error.Signer e) = Unit {0}
IsNotJoined may signed error.AttrsTooLong = ⊥
IsNotJoined may signed error.TooLong =
    (s : List ℕ) × may s × ¬ (length (signed_contents signed s) < 2 ^ 32)
IsNotJoined may signed (error.Content fault) = ⊥
IsNotJoined may signed error.NotDer = ⊥
IsNotJoined may signed error.Memory = Unit {0}

-- the error for what is not written
abbrev pub encode_fault : {E : Type 0} → EncodeError → SigningError E
encode_fault unwritten.NotDer = error.NotDer
encode_fault unwritten.TooLong = error.TooLong
encode_fault unwritten.Io = error.Memory
encode_fault unwritten.Memory = error.Memory
