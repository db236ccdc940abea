use Rattle.std.proofs.Common.{◌≡◌, ◌≤◌, ◌++◌, take, drop}
use Rattle.rpki_payloads.specs.Formats.Groups.{groups, groups_after}
use Rattle.rpki_payloads.proofs.formats.groups.groups_of.Given as goal

-- the groups, and those of the rows from the first one that is in none
abbrev pub invariant-loop-i : goal.invariant-loop-i
invariant-loop-i l = record {
  begun : l.start ≤ l.i;
  cut : l.found.items ++ groups_after (drop l.start (take l.i l.rows)) (drop l.i l.rows)
      ≡ groups l.rows;
}
