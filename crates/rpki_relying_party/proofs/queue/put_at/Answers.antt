-- The place is put, and the one that waited there is put below.
use Rattle.std.proofs.Common.{ap, sym, arith, ◌∙◌, ◌∷◌, Some}
use Rattle.std.specs.Option.{option_map}
use Rattle.std.proofs.lemmas.List.Sorted.{IsPermutation-trans}
use Rattle.rpki_relying_party.specs.Queue.{place_on, waiting_in}
use Rattle.rpki_relying_party.proofs.Waiting.{on-ok-then, put-free, put-over}
use Rattle.rpki_relying_party.proofs.queue.put_at.Goals as goal

pub returns-in-None : goal.returns-in-None
returns-in-None g c = put-free c.args.branches.now.items c.args.at _ c.index_mut.result.now
    c.args.place (omega (arith, c.if-at-len.false, c.len.ensures))
    (ap place_on (sym c.index_mut.ensures.value)
    ∙ ap (option_map (λ b. b.value)) (sym c.replace.ensures.value ∙ c.in-None.is))
    (ap (option_map (λ b. b.value)) c.replace.ensures.after ∙ ap Some c.in_ok-place.ensures.ok)

pub returns-in-Some : goal.returns-in-Some
returns-in-Some g c = on-ok-then c.put_below-in-Some.result c.put_below-in-Some.ensures (λ h.
    IsPermutation-trans (c.args.place ∷ waiting_in c.args.branches.now.items) _ _
    (put-over c.args.branches.now.items c.args.at _ c.index_mut.result.now c.args.place
    c.into_inner.result (omega (arith, c.if-at-len.false, c.len.ensures))
    (ap place_on (sym c.index_mut.ensures.value)
    ∙ ap (option_map (λ b. b.value)) (sym c.replace.ensures.value ∙ c.in-Some.is)
    ∙ ap Some (sym c.into_inner.ensures))
    (ap (option_map (λ b. b.value)) c.replace.ensures.after
    ∙ ap Some c.in_ok-place.ensures.ok)) h)
