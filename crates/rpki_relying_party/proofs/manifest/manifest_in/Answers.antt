use Rattle.std.proofs.Common.{rules}
use Rattle.rpki_relying_party.proofs.manifest.manifest_in.Goals as goal

pub returns-clause-first : goal.returns-clause-first
returns-clause-first g c = c.manifest_asking.ensures.first (λ k said h. search rules)

pub returns-clause-exact : goal.returns-clause-exact
returns-clause-exact g c = c.manifest_asking.ensures.exact (λ k said h. search rules)
