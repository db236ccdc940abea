use Rattle.std.proofs.Common.{◌≡◌, ◌++◌}
use Rattle.rpki_check.specs.Rows.{numbers}
use Rattle.rpki_check.proofs.rows.numbers_of.Given as goal

-- the numbers so far, and those that are still to come
abbrev pub invariant-loop-provider : goal.invariant-loop-provider
invariant-loop-provider l = l.rows.items ++ l.provider-iterator ≡ numbers l.aspa
