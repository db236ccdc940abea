-- The IPv4 addresses of the paths so far are kept.
use Rattle.std.proofs.Common.{◌≡◌, ℕ, take}
use Rattle.rpki_faults.specs.declared.family.Family.TheVariants.{V4}
use Rattle.rpki_paths.specs.Final.{some_has, union_has}
use Rattle.rpki_paths.proofs.decision.v4_addresses.Given as goal

abbrev pub invariant-loop-i : goal.invariant-loop-i
invariant-loop-i g l =
    (n : ℕ) → union_has (λ k. k) l.kept n ≡ some_has (take l.i l.paths) V4 n
