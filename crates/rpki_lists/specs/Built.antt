-- Contents that are built.
use Rattle.std.specs.Prelude.{List}
use Rattle.rpki_basics.specs.declared.build.BuildError.{BuildError}
use Rattle.rpki_basics.specs.declared.build.BuildError.TheVariants as error
use Rattle.rpki_basics.specs.declared.build.BuildFault.{BuildFault}
use Rattle.rpki_faults.specs.Checks.{Check, AllHold, IsFirstFault}

-- Why a content is not built: the first check that does not hold; or all hold, and something in it
-- is too long; or memory ran out.
abbrev pub IsNotBuilt : List (Check BuildFault) → Type 0 → BuildError → Type 0
IsNotBuilt checks long (error.Fault fault) = IsFirstFault checks fault
IsNotBuilt checks long error.TooLong = AllHold checks × long
IsNotBuilt checks long error.Memory = Unit {0}
