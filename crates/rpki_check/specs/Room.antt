-- What a call leaves in the room that its caller lends.
use Rattle.std.specs.Prelude.{◌≡◌, ℕ, ◌≤◌, ◌<◌, List, ◌++◌, length, drop}

-- The length is that of what is written, all of which stands at the front of the room, if it fits;
-- else the room is as it was. What is behind it is as it was.
pub record IsInRoom {X : Type 0} (items old new : List X) (len : ℕ) : Type 0 where
  pub len_is : len ≡ length items
  pub fits : length items ≤ length old → new ≡ items ++ drop (length items) old
  pub lacks : length old < length items → new ≡ old
