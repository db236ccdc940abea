-- The signatures of the stand-in.
use Rattle.std.specs.Prelude.{◌≡◌, ℕ, ◌+◌, ◌-◌, ◌%◌, ◌^◌, List, ◌++◌, Bool, true, false, bytes_eq}
use Rattle.std.specs.Prelude.{◌==◌, if◌then◌else◌, length, Result, Ok, Err}
use Rattle.rpki_basics.specs.declared.signer.SignerFault.{SignerFault}
use Rattle.rpki_basics.specs.declared.signer.SignerFault.TheVariants.{KeyNotFound, IncompatibleKey}
use Rattle.rpki_basics.specs.declared.signer.SignerFault.TheVariants.{Signer, Memory}
use Rattle.sha2.specs.Sha256.{sha256}

-- The bits of a key that a signer of the stand-in has: eight octets, which are its number.
abbrev pub IsStandInKey : List ℕ → Type 0
IsStandInKey key = length key ≡ 8

-- The digest of the key's bits and the message, which is the only signature.
abbrev pub IsStandInSignature : List ℕ → List ℕ → List ℕ → Type 0
IsStandInSignature key message signature = signature ≡ sha256 (key ++ message)

-- Whether the signature is the digest of the key's bits and the message: a test.
abbrev pub is_stand_in_signature : List ℕ → List ℕ → List ℕ → Bool
is_stand_in_signature key message signature = bytes_eq signature (sha256 (key ++ message))

-- What is seen of the stand-in's signer: the number of the next key that signs once, the number of
-- the call that is told to fail, counted from the next one as 1, or 0 where none is, and how many
-- calls have failed.
pub record Turns : Type 0 where
  pub next : ℕ
  pub fails_in : ℕ
  pub failures : ℕ

-- Whether the next call is told to fail.
abbrev pub is_told : Turns → Bool
is_told turns = turns.fails_in == 1

-- What is seen of the stand-in's signer after a call, where next is the number of the next key that
-- signs once: the call that is told to fail is nearer by one, or none where it was this one or none
-- was, and one call more has failed where this one was told to.
abbrev pub after_call : Turns → ℕ → Turns
after_call turns next = record {
  next = next;
  fails_in = turns.fails_in - 1;
  failures = if is_told turns then turns.failures + 1 else turns.failures;
}

-- What is seen of the stand-in's signer after a call that signs once (`after_call`): the number of
-- the next key is one more, modulo 2^64, also where memory ran out. Where the call was told to
-- fail, no number is used.
abbrev pub after_one_off : Turns → Turns
after_one_off turns =
    after_call turns (if is_told turns then turns.next else (turns.next + 1) % 2 ^ 64)

-- A call fails by the signer's own fault where it was told to, and else for want of memory alone.
abbrev pub FailsAsTold : {T E : Type 0} → Turns → Result T (SignerFault E) → Type 0
FailsAsTold turns (Ok t) = is_told turns ≡ false
FailsAsTold turns (Err KeyNotFound) = ⊥
FailsAsTold turns (Err IncompatibleKey) = ⊥
FailsAsTold turns (Err (Signer e)) = is_told turns ≡ true
FailsAsTold turns (Err Memory) = is_told turns ≡ false
