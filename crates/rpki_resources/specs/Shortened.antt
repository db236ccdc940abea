-- Which groups of an IPv6 address are left out of its text.
use Rattle.std.specs.Prelude.{ℕ, ◌≤◌, List, drop}
use Rattle.std.specs.Net.Text.{zero_run}

-- From start on, len groups are shortened (RFC 5952, 4.2): they are zero, two of them at least;
-- nowhere more groups are zero one after another, and nowhere before as many.
pub record IsShortened (groups : List ℕ) (start len : ℕ) : Type 0 where
  pub zeros : len ≤ zero_run (drop start groups)
  pub several : 2 ≤ len
  pub longest : (other : ℕ) → zero_run (drop other groups) ≤ len
  pub first : (other : ℕ) → len ≤ zero_run (drop other groups) → start ≤ other
