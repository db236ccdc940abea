-- Texts that grow.
use Rattle.std.specs.Prelude.{◌≡◌, ℕ, List, ◌++◌, Result, OnOk, String, string_bytes}
use Rattle.std.specs.Borrow.{MutBor}
use Rattle.std.specs.declared.alloc.AllocError.{AllocError}
use Rattle.std.specs.declared.alloc.Global.{Global}

-- a text grows by these octets, unless memory runs out
abbrev pub Grows : Result (Unit {0}) AllocError → String Global → String Global → List ℕ → Type 0
Grows result old new octets = OnOk result (string_bytes new ≡ string_bytes old ++ octets)

-- A call that is handed a text and an item, and of which this is known, appends what is written of
-- what the item shows, unless memory runs out.
abbrev pub AppendsItem : {Item Shown : Type 0}
    → (MutBor (String Global) → Item → Result (Unit {0}) AllocError → MutBor (String Global)
    → Type 0)
    → (Item → Shown) → (Shown → List ℕ) → Type 0
AppendsItem {Item} called shown written = (item : Item) (text : MutBor (String Global))
    (result : Result (Unit {0}) AllocError) (after : MutBor (String Global))
    → called text item result after → Grows result text.now after.now (written (shown item))
