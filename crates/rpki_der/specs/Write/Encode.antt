-- What writing a value answers.
use Rattle.std.specs.Prelude.{◌≡◌, ℕ, ◌+◌, ◌<◌, ◌^◌, List, length, Option, Result, Ok, Err, Vec}
use Rattle.std.specs.declared.alloc.Global.{Global}
use Rattle.std.specs.Io.KnownBytes.{Appends, Keeps}
use Rattle.rpki_der.specs.Write.Sink.{AppendsFront}
use Rattle.rpki_der.specs.declared.encode.EncodeError.{EncodeError}
use Rattle.rpki_der.specs.declared.encode.EncodeError.TheVariants.{NotDer, TooLong, Io, Memory}

-- Each contents has fewer than 2^32 octets, and the whole can be counted in 64 bits.
abbrev pub Fits : Type 0 → List ℕ → Type 0
Fits short octets = short × (length octets < 2 ^ 64)

-- What `encoded_len` answers: how many octets there are, only where der and short are so; `NotDer`,
-- only where der is not so; or `TooLong`, only where Fits is not so.
abbrev pub IsLenOf : Type 0 → Type 0 → List ℕ → Result ℕ EncodeError → Type 0
IsLenOf der short octets (Ok n) = (n ≡ length octets) × der × short
IsLenOf der short octets (Err NotDer) = ¬ der
IsLenOf der short octets (Err TooLong) = ¬ (Fits short octets)
IsLenOf der short octets (Err Io) = ⊥
IsLenOf der short octets (Err Memory) = ⊥

-- a sink: what it has taken, and how many calls of it have failed
abbrev pub Sunk : Type 0
Sunk = Option (List ℕ) × ℕ

-- A sink before a call that writes and after it. Where the value may be written (der, and Fits),
-- all octets are, and no call of the sink fails; or one call fails (`Io`), and a beginning of them
-- is written. Nothing is written and no call fails where the answer is `NotDer`, only where der is
-- not so, or `TooLong`, only where Fits is not so.
abbrev pub IsWritten : Type 0 → Type 0 → List ℕ → Sunk → Sunk → Result (Unit {0}) EncodeError
    → Type 0
IsWritten der short octets old new (Ok u) = Appends old.0 new.0 octets × (new.1 ≡ old.1) × der
    × Fits short octets
IsWritten der short octets old new (Err NotDer) = Keeps old.0 new.0 × (new.1 ≡ old.1) × ¬ der
IsWritten der short octets old new (Err TooLong) = Keeps old.0 new.0 × (new.1 ≡ old.1)
    × ¬ (Fits short octets)
IsWritten der short octets old new (Err Io) = AppendsFront old.0 new.0 octets × (new.1 ≡ old.1 + 1)
    × der × Fits short octets
IsWritten der short octets old new (Err Memory) = ⊥

-- What `to_bytes` answers: these octets, where the value may be written (der, and Fits); `NotDer`
-- or `TooLong` where one of the two is not so; or that memory ran out.
abbrev pub IsBytesOf : Type 0 → Type 0 → List ℕ → Result (Vec ℕ Global) EncodeError → Type 0
IsBytesOf der short octets (Ok v) = (v.items ≡ octets) × der × Fits short octets
IsBytesOf der short octets (Err NotDer) = ¬ der
IsBytesOf der short octets (Err TooLong) = ¬ (Fits short octets)
IsBytesOf der short octets (Err Io) = ⊥
IsBytesOf der short octets (Err Memory) = Unit {0}
