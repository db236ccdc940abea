use Rattle.std.proofs.Common.{ℕ, ◌-◌, sym, ◌∙◌, rules, arith}
use Rattle.std.specs.Int.Count.{count_leading_zeros}
use Rattle.rpki_resources.specs.Prefix.{IsPrefix}
use Rattle.rpki_resources.proofs.Prefixes.Lengths.{prefix-leading, prefix_len-some, prefix_len-none}
use Rattle.rpki_resources.proofs.Prefixes.Lengths.{prefix-order}
use Rattle.rpki_resources.proofs.prefix.len_of.Goals as goal
use Rattle.rpki_resources.proofs.prefix.len_of.Goals.{
  else-host-host_mask-via-then-host-host_mask+else-host_part-eq0,
}
use Rattle.rpki_resources.proofs.prefix.len_of.Goals.{else-host-host_mask-via-else-host-host_mask}

pub returns-then-host_part-eq0-clause-value : goal.returns-then-host_part-eq0-clause-value
returns-then-host_part-eq0-clause-value c =
    let p : IsPrefix c.args.min c.args.max (count_leading_zeros 128 (c.args.max - c.args.min)) =
    search rules in sym (prefix_len-some _ _ _ p)

-- no prefix has these addresses
none : (c : goal.Joined-else-host-host_mask) (len : ℕ) → IsPrefix c.args.min c.args.max len → ⊥
none c len p = elim c.else-host-host_mask.branch [
  | else-host-host_mask-via-then-host-host_mask+else-host_part-eq0 w ↦
      let e = prefix-leading _ _ len p in
      let aligned = rw e at p.aligned in
      w.if-host_part-eq0.false (w.host_part.ensures ∙ aligned)
  | else-host-host_mask-via-else-host-host_mask w ↦
      let e = prefix-leading _ _ len p in
      let size = rw e at p.size in
      w.if-host-host_mask.false (omega arith)
]

pub returns-else-host-host_mask-clause-none : goal.returns-else-host-host_mask-clause-none
returns-else-host-host_mask-clause-none c = none c

pub returns-else-host-host_mask-clause-value : goal.returns-else-host-host_mask-clause-value
returns-else-host-host_mask-clause-value c = sym (prefix_len-none _ _ (none c))

pub returns-then-max-min-clause-none : goal.returns-then-max-min-clause-none
returns-then-max-min-clause-none c = λ len p. let l = prefix-order _ _ len p in absurd (omega arith)

pub returns-then-max-min-clause-value : goal.returns-then-max-min-clause-value
returns-then-max-min-clause-value c =
    sym (prefix_len-none _ _ (λ len p. let l = prefix-order _ _ len p in absurd (omega arith)))
