-- Streams for tests: they move one octet a call, and fail at one call.
use Rattle.std.specs.Prelude.{◌≡◌, ℕ, ◌+◌, ◌-◌, ◌^◌, min, List, length, Bool, true, false, ◌==◌}
use Rattle.std.specs.Prelude.{if◌then◌else◌, Result, Ok, Err, ◌⊎◌, ◌<◌, ◌≤◌}

-- What is seen of the calls of such a stream: how many there were, up to 2^64 - 1, the number of
-- the one that is told to fail, counted from 1, or 0 where none is, and how many have failed.
pub record Calls : Type 0 where
  pub made : ℕ
  pub fails_at : ℕ
  pub failures : ℕ

-- how many calls there are after the next one
abbrev pub after_next : ℕ → ℕ
after_next made = min (made + 1) (2 ^ 64 - 1)

-- whether the next call is told to fail
abbrev pub is_told : Calls → Bool
is_told calls = after_next calls.made == calls.fails_at

-- The calls with one more, which failed or did not.
abbrev pub with_call : Calls → Bool → Calls
with_call calls has_failed = record {
  made = after_next calls.made;
  fails_at = calls.fails_at;
  failures = if has_failed then calls.failures + 1 else calls.failures;
}

-- What is seen of a source: the octets that it has left to give, and its calls.
pub record Gives : Type 0 where
  pub left : List ℕ
  pub calls : Calls

-- A call fails where it was told to, and else gives one octet, where there is one and room for it.
abbrev pub GivesOne : {E : Type 0} → Gives → ℕ → Result ℕ E → Type 0
GivesOne source room (Ok n) =
    (is_told source.calls ≡ false) × (n ≡ min 1 (min room (length source.left)))
GivesOne source room (Err e) = is_told source.calls ≡ true

-- What is seen of a sink: the octets that it has taken, how many more it has room for, and its
-- calls.
pub record Takes : Type 0 where
  pub taken : List ℕ
  pub room : ℕ
  pub calls : Calls

-- A call fails where it was told to or has no room for an octet, and else takes one, where there is
-- one.
abbrev pub TakesOne : {E : Type 0} → Takes → List ℕ → Result ℕ E → Type 0
TakesOne sink octets (Ok n) =
    (is_told sink.calls ≡ false) × (n ≡ min 1 (length octets)) × (n ≤ sink.room)
TakesOne sink octets (Err e) =
    (is_told sink.calls ≡ true) ⊎ ((sink.room ≡ 0) × (0 < length octets))

-- What was taken has used up its room.
abbrev pub UsesRoom : {E : Type 0} → Takes → Takes → Result ℕ E → Type 0
UsesRoom old new (Ok n) = new.room ≡ old.room - n
UsesRoom old new (Err e) = new.room ≡ old.room
