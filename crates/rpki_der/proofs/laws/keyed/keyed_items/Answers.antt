use Rattle.std.proofs.Common.{subst}
use Rattle.rpki_der.specs.Form.Keyed.{First}
use Rattle.rpki_der.proofs.Form.Keyed.{said-sound, said-complete, once-sound, once-complete}
use Rattle.rpki_der.proofs.Form.Keyed.{first-sound, first-complete}
use Rattle.rpki_der.proofs.laws.keyed.keyed_items.Goals as goal

pub returns-clause-keyed : goal.returns-clause-keyed
returns-clause-keyed g c = λ is oid items good distinct o. (
  said-sound g.I.Saying.key is oid items good o,
  said-complete g.I.Saying.key is oid items distinct o,
)

pub returns-clause-once : goal.returns-clause-once
returns-clause-once g c = λ is oid items good x. (
  once-sound g.I.Saying.key is oid items good x,
  once-complete g.I.Saying.key is oid items x,
)

pub returns-clause-first : goal.returns-clause-first
returns-clause-first g c = λ is items good o. (
  λ e. subst (First g.I.Saying.says items) e (first-sound is items good),
  first-complete is items o good,
)
