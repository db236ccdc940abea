-- The place that waited is taken.
use Rattle.std.proofs.Common.{ap, sym, arith, ◌∙◌, Some}
use Rattle.std.specs.Option.{option_map}
use Rattle.rpki_relying_party.specs.Queue.{place_on}
use Rattle.rpki_relying_party.proofs.Waiting.{taken}
use Rattle.rpki_relying_party.proofs.queue.take_at.Goals as goal

pub returns-in-Some : goal.returns-in-Some
returns-in-Some g c = taken c.args.branches.now.items c.args.at _ c.index_mut.result.now
    c.into_inner.result (omega (arith, c.if-at-len.false, c.len.ensures))
    (ap place_on (sym c.index_mut.ensures.value)
    ∙ ap (option_map (λ b. b.value)) (sym c.take.ensures.value ∙ c.in-Some.is)
    ∙ ap Some (sym c.into_inner.ensures))
    (ap (option_map (λ b. b.value)) c.take.ensures.after)
