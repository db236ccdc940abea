-- Why something is not built, in words.
use Rattle.std.specs.Prelude.{ℕ, List, codes}
use Rattle.rpki_basics.specs.declared.build.BuildFault.{BuildFault}
use Rattle.rpki_basics.specs.declared.build.BuildFault.TheVariants.{UpdateOrder, BadName}
use Rattle.rpki_basics.specs.declared.build.BuildFault.TheVariants.{PrefixTooLong, BadMaxLength}
use Rattle.rpki_basics.specs.declared.build.BuildFault.TheVariants.{EmptyRoa, CustomerAs0, Empty}
use Rattle.rpki_basics.specs.declared.build.BuildFault.TheVariants.{TooMany, CustomerInSet}
use Rattle.rpki_basics.specs.declared.build.BuildFault.TheVariants.{As0NotAlone, NoResources}
use Rattle.rpki_basics.specs.declared.build.BuildFault.TheVariants.{BadExtension, RepeatedName}
use Rattle.rpki_basics.specs.declared.build.BuildError.{BuildError}
use Rattle.rpki_basics.specs.declared.build.BuildError.TheVariants.{Fault, TooLong, Memory}

-- The text of a fault.
abbrev pub fault_text : BuildFault → List ℕ
fault_text UpdateOrder = codes "thisUpdate is after nextUpdate"
fault_text BadName = codes "bad file name"
fault_text PrefixTooLong = codes "prefix too long"
fault_text BadMaxLength = codes "bad maximum length"
fault_text EmptyRoa = codes "ROA without addresses"
fault_text CustomerAs0 = codes "customer is AS0"
fault_text Empty = codes "no provider"
fault_text TooMany = codes "too many providers"
fault_text CustomerInSet = codes "customer is its own provider"
fault_text As0NotAlone = codes "AS0 beside another provider"
fault_text NoResources = codes "no resources"
fault_text BadExtension = codes "file type not registered"
fault_text RepeatedName = codes "repeated file name"

-- The text of an error.
abbrev pub error_text : BuildError → List ℕ
error_text (Fault fault) = fault_text fault
error_text TooLong = codes "too long"
error_text Memory = codes "out of memory"
