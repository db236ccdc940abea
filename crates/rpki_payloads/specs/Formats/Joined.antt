-- Rows that several say, joined: one of each payload.
use Rattle.std.specs.Prelude.{◌≡◌, List, ◌∷◌, ◌++◌, All, Bool, true, false, Option, None, Some}
use Rattle.std.specs.Prelude.{Contains, fold, map, nat_lt, if◌then◌else◌}
use Rattle.std.specs.BTreeMap.{BTreeMap, get}
use Rattle.std.specs.List.Sorted.{IsStrictlySortedBy}
use Rattle.std.specs.Ordering.{is_eq}
use Rattle.std.specs.declared.cmp.Ordering.{Ordering}
use Rattle.rpki_basics.specs.Moment.{Moment, stamp}

-- whether what holds until one end outlasts what holds until another; without an end it holds
-- forever
abbrev pub outlasts : Option Moment → Option Moment → Bool
outlasts None None = false
outlasts None (Some n) = true
outlasts (Some m) None = false
outlasts (Some m) (Some n) = nat_lt (stamp n) (stamp m)

-- No row of the same payload holds longer than this one, and of those that hold as long it is the
-- first.
pub record IsLongest {K R : Type 0} (key : R → K) (until : R → Option Moment) (said : List R)
    (r : R) : Type 0 where
  pub before : List R
  pub after : List R
  pub cut : said ≡ before ++ r ∷ after
  pub first : All (λ q. key q ≡ key r → outlasts (until r) (until q) ≡ true) before
  pub longest : All (λ q. key q ≡ key r → outlasts (until q) (until r) ≡ false) after

-- The rows are in the strict order of their payloads, and each is said (`Says`). Each payload that is
-- said has a row, and no row of it that is said holds longer; of those that hold as long, it is the
-- first in the list of all that is said.
pub record AreJoined {K R : Type 0} (cmp : K → K → Ordering) (key : R → K)
    (until : R → Option Moment) (Says : R → Type 0) (said rows : List R) : Type 0 where
  pub ascending : IsStrictlySortedBy cmp (map key rows)
  pub only : (r : R) → Contains rows r → Says r
  pub each : (r : R) → Says r
      → (q : R) × Contains rows q × (key q ≡ key r) × (outlasts (until r) (until q) ≡ false)
  pub first : (r : R) → Contains rows r → IsLongest key until said r

-- ---- in a map

module _ {K R : Type 0} (cmp : K → K → Ordering) (key : R → K) (until : R → Option Moment) where
  -- the one that holds longer of the row that is kept, if there is one, and this row; of equals the
  -- one that is kept
  abbrev pub longer : Option R → R → R
  longer None r = r
  longer (Some q) r = if outlasts (until r) (until q) then r else q

  -- at the payload of this row the map keeps the row that holds longer, and nothing else has changed
  pub record KeepsLongest (r : R) (old new : BTreeMap K R) : Type 0 where
    pub here : get cmp new (key r) ≡ Some (longer (get cmp old (key r)) r)
    pub others : (k : K) → is_eq (cmp (key r) k) ≡ false → get cmp new k ≡ get cmp old k

  -- what is kept at a payload after a row, and after rows
  abbrev pub kept_after : K → Option R → R → Option R
  kept_after k kept r = if is_eq (cmp (key r) k) then Some (longer kept r) else kept

  abbrev pub kept_of : K → List R → Option R
  kept_of k rows = fold (kept_after k) None rows

  -- at each payload the map keeps the row that holds longest
  abbrev pub IsJoin : List R → BTreeMap K R → Type 0
  IsJoin rows m = (k : K) → get cmp m k ≡ kept_of k rows
