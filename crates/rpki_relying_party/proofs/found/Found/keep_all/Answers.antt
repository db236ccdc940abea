-- One more is kept, and in the end all are.
use Rattle.std.proofs.Common.{List, [], ◌∷◌, ◌++◌, length, ap, sym, subst, ◌∙◌, arith, append_assoc}
use Rattle.std.proofs.lemmas.List.{nil_from_length, append-nil}
use Rattle.std.specs.Vec.Iter.{into_iter_items}
use Rattle.rpki_relying_party.specs.Found.{KeepsFindings}
use Rattle.rpki_relying_party.specs.declared.found.Finding.{Finding}
use Rattle.rpki_relying_party.proofs.Kept.{keeps-none, keeps-more}
use Rattle.rpki_relying_party.proofs.found.Found.keep_all.Goals as goal

pub loop-finding-init : goal.loop-finding-init
loop-finding-init c =
    let gives = c.into_iter-finding-iterator.ensures.into_iter_gives in
    let same = ap (λ (l : List Finding). length l) (gives.0) in (
      [],
      sym (gives.0),
      omega (arith, gives.1, c.args.said.ok.0, same),
      keeps-none c.args.self.now,
    )

pub loop-finding-preserved : goal.loop-finding-preserved
loop-finding-preserved c =
    let i = c.loop-finding.invariant in
    let steps = c.in-Some.ensures.steps in
    let short = ap (λ (l : List Finding). length l) (steps.0) in
    let rest = into_iter_items c.next.new.self in (
      i.0 ++ c.in-Some.finding ∷ [],
      i.1 ∙ ap (λ (l : List Finding). i.0 ++ l) (steps.0)
          ∙ sym (append_assoc (i.0) (c.in-Some.finding ∷ []) rest),
      omega (arith, steps.1, short, i.2),
      keeps-more c.in-Some.finding (i.0) c.args.self.now c.loop-finding.self c.keep.new.self (i.3)
          c.in_ok-keep.ensures,
    )

pub returns : goal.returns
returns c =
    let i = c.loop-finding.invariant in
    let none = nil_from_length (into_iter_items c.loop-finding.finding-iterator)
    (sym (i.2) ∙ c.in-None.ensures.steps.0) in
    subst (λ (xs : List Finding). KeepsFindings xs c.args.self.now c.loop-finding.self)
    (sym (i.1 ∙ ap (λ (l : List Finding). i.0 ++ l) none ∙ append-nil (i.0))) (i.3)
