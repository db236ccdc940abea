-- Texts that grow.
use Rattle.std.specs.Prelude.{◌≡◌, ℕ, List, ◌++◌, Result, OnOk, String, string_bytes}
use Rattle.std.specs.declared.alloc.AllocError.{AllocError}
use Rattle.std.specs.declared.alloc.Global.{Global}

-- a text grows by these octets, unless memory runs out
abbrev pub Grows : Result (Unit {0}) AllocError → String Global → String Global → List ℕ → Type 0
Grows result old new octets = OnOk result (string_bytes new ≡ string_bytes old ++ octets)
