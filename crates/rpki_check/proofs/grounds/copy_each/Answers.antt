use Rattle.std.proofs.Common.{◌∙◌, ◌++◌, ◌∷◌, [], ℕ, List, ap, sym, take}
use Rattle.std.proofs.lemmas.List.{take_all}
use Rattle.rpki_check.specs.Grounds.{lent}
use Rattle.rpki_check.specs.declared.question.Octets.{Octets}
use Rattle.rpki_check.proofs.Steps.{map-more}
use Rattle.rpki_check.proofs.grounds.copy_each.Goals as goal

pub loop-one-preserved : goal.loop-one-preserved
loop-one-preserved c =
    let l = c.loop-one in
    c.in_ok-push.ensures.items
    ∙ (ap (λ (cs : List (List ℕ)). cs ++ c.in_ok-copy.copy ∷ []) l.invariant
    ∙ (ap (λ (o : List ℕ). lent (take l.one-index c.args.octets.now) ++ o ∷ []) c.in_ok-copy.ensures
    ∙ sym (map-more (λ (o : Octets). o.octets.now) c.args.octets.now l.one-index _
    c.loop-one-test.true)))

pub returns : goal.returns
returns c =
    let l = c.loop-one in
    l.invariant ∙ ap lent (take_all l.one-index c.args.octets.now c.loop-one-test.false)
