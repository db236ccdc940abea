-- What is asked of contents beyond their grammar.
use Rattle.std.specs.Prelude.{ℕ}
use Rattle.rpki_basics.specs.declared.limits.ProviderLimit.{ProviderLimit}
use Rattle.rpki_basics.specs.declared.limits.ProviderLimit.TheVariants.{Narrow, Wide}

-- The greatest number of providers of an ASPA, which is the caller's choice and no standard's.
abbrev pub most_providers : ProviderLimit → ℕ
most_providers Narrow = 10000
most_providers Wide = 16380
