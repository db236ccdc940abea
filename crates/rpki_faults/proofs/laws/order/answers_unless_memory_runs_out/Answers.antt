use Rattle.std.proofs.Common.{inl, inr}
use Rattle.rpki_faults.proofs.Order.{first-contained, first-fails}
use Rattle.rpki_faults.proofs.laws.order.answers_unless_memory_runs_out.Goals as goal

pub returns-clause-contained : goal.returns-clause-contained
returns-clause-contained g c = λ memory fault h. elim h [
  | inl is ↦ inl is
  | inr first ↦ inr (first-contained g.F.Checks.checks fault first)
]

pub returns-clause-fails : goal.returns-clause-fails
returns-clause-fails g c = λ memory fault h. elim h [
  | inl is ↦ inl is
  | inr first ↦ inr (first-fails g.F.Checks.checks fault first)
]
