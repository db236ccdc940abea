use Rattle.std.proofs.Common.{◌≡◌, length, None, rules, arith, sym, ap, ◌∙◌}
use Rattle.rpki_resources.specs.Families.Read.{gathered, no_values}
use Rattle.rpki_resources.proofs.Families.Gathered.{gathered-more, gathered-none, gathered-end}
use Rattle.rpki_resources.proofs.by_family.gather.Goals as goal

pub returns-in_err-values : goal.returns-in_err-values
returns-in_err-values g c =
    let none : gathered no_values c.args.entries.items ≡ None =
    sym c.loop-entry.invariant.gathered
    ∙ ap (gathered c.loop-entry.values) c.in-Some.ensures.steps.0
    ∙ gathered-none c.loop-entry.values c.in-Some.entry.family c.in-Some.entry.value _
    (sym c.in_err-values.ensures) in
    search rules

pub loop-entry-preserved : goal.loop-entry-preserved
loop-entry-preserved g c = record {
  gathered = sym (ap (gathered c.loop-entry.values) c.in-Some.ensures.steps.0
      ∙ gathered-more c.loop-entry.values c.in_ok-values.values c.in-Some.entry.family
      c.in-Some.entry.value _ (sym c.in_ok-values.ensures))
      ∙ c.loop-entry.invariant.gathered;
  len = let e = ap length c.in-Some.ensures.steps.0 in
      omega (arith, e, c.in-Some.ensures.steps.1, c.loop-entry.invariant.len);
}

pub returns : goal.returns
returns g c =
    sym (gathered-end c.loop-entry.values _
    (sym c.loop-entry.invariant.len ∙ c.in-None.ensures.steps.0))
    ∙ c.loop-entry.invariant.gathered
