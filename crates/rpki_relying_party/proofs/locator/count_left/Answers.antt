use Rattle.std.proofs.Common.{inl, inr, sym, ap, ◌∙◌}
use Rattle.rpki_relying_party.specs.Runs.{count_for, is_same, lister_of}
use Rattle.rpki_relying_party.specs.Walk.{Left}
use Rattle.rpki_relying_party.specs.declared.place.Place.{Place}
use Rattle.rpki_relying_party.proofs.Kept.{onward}
use Rattle.rpki_relying_party.proofs.Leaving.{more-counted, same-counted}
use Rattle.rpki_relying_party.proofs.locator.count_left.Goals as goal

pub returns-then-not-is_same : goal.returns-then-not-is_same
returns-then-not-is_same c =
    same-counted c.args.left.now c.args.why (count_for c.args.counts.now)
    (inl (ap (λ (u : Left Place). is_same u.why c.args.why) (sym c.left.view_is)
    ∙ sym c.is_same.ensures ∙ c.if-not-is_same.true))

pub returns-in-None : goal.returns-in-None
returns-in-None c =
    same-counted c.args.left.now c.args.why (count_for c.args.counts.now)
    (inr (ap (λ (u : Left Place). lister_of u.place) (sym c.left.view_is) ∙ sym c.in-None.ensures))

pub returns-in-Some : goal.returns-in-Some
returns-in-Some c =
    onward c.count_one.result
    (more-counted c.args.left.now c.args.why (count_for c.args.counts.now)
    (count_for c.count_one.new.counts) c.in-Some.uri.now
    (ap (λ (u : Left Place). is_same u.why c.args.why) (sym c.left.view_is)
    ∙ sym c.is_same.ensures ∙ c.if-not-is_same.false)
    (ap (λ (u : Left Place). lister_of u.place) (sym c.left.view_is) ∙ sym c.in-Some.ensures))
    c.count_one.ensures
