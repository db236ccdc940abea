-- What the options ask of objects and contents.
use Rattle.std.specs.Prelude.{if◌then◌else◌}
use Rattle.rpki_basics.specs.declared.limits.ManifestRule.{ManifestRule}
use Rattle.rpki_basics.specs.declared.limits.ManifestRule.TheVariants.{Any, Registered}
use Rattle.rpki_basics.specs.declared.limits.ProviderLimit.{ProviderLimit}
use Rattle.rpki_basics.specs.declared.limits.ProviderLimit.TheVariants.{Narrow, Wide}
use Rattle.rpki_cli.specs.declared.words.Options.{Options}

-- The limit of providers of a customer: the wide one with `--wide`, else the narrow one.
abbrev pub provider_limit : Options → ProviderLimit
provider_limit o = if o.wide then Wide else Narrow

-- which names a manifest may have: registered extensions, and none twice, with `--registered`
abbrev pub manifest_rule : Options → ManifestRule
manifest_rule o = if o.registered then Registered else Any
