use Rattle.std.proofs.Common.{take}
use Rattle.std.specs.List.{AllZip}
use Rattle.serde_json.specs.View.{view}
use Rattle.serde_json.specs.declared.value.Value.{Value}
use Rattle.rpki_payloads.proofs.slurm.said.are_said.Given as goal

-- the items so far say this
abbrev pub invariant-loop-i : goal.invariant-loop-i
invariant-loop-i g l =
    AllZip (λ (v : Value) x. g.T.Said.says (view v) x) (take l.i l.items) (take l.i l.found)
