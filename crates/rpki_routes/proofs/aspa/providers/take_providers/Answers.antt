use Rattle.std.proofs.Common.{ℕ, List}
use Rattle.rpki_routes.proofs.Attestations.Exact.{providers-part}
use Rattle.rpki_routes.proofs.Attestations.Written.{set-wide}
use Rattle.rpki_routes.proofs.Fronts.{front}
use Rattle.rpki_routes.proofs.aspa.providers.take_providers.Goals as goal

pub invariant_of-result : goal.invariant_of-result
invariant_of-result c =
    let f = front (providers-part c.args.limit c.args.customer) (λ (l : List ℕ). l)
    c.args.cons.now c.in_ok-numbers.numbers c.take_some.new.cons c.holds_octets.ensures
    c.in_ok-numbers.ensures in
    set-wide c.args.limit c.in_ok-numbers.numbers f.2.1.set

pub returns-clause-providers : goal.returns-clause-providers
returns-clause-providers c =
    let f = front (providers-part c.args.limit c.args.customer) (λ (l : List ℕ). l)
    c.args.cons.now c.in_ok-numbers.numbers c.take_some.new.cons c.holds_octets.ensures
    c.in_ok-numbers.ensures in f.2.1
