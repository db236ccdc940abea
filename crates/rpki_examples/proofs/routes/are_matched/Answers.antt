use Rattle.rpki_lists.proofs.Lists.{said-no, said-yes}
use Rattle.rpki_routes.specs.Roa.{Address}
use Rattle.rpki_examples.specs.Routes.{IsMatched}
use Rattle.rpki_examples.proofs.Search.{found, left-more, say-yes}
use Rattle.rpki_examples.proofs.routes.are_matched.Goals as goal

pub returns-then-is_matched : goal.returns-then-is_matched
returns-then-is_matched c =
    say-yes (found (λ (a : Address). IsMatched a c.args.route) c.args.addresses.now
    c.loop-address.left c.next.new.self c.in-Some.address c.loop-address.invariant
    c.in-Some.ensures.steps
    (said-yes c.is_matched.result c.is_matched.ensures c.if-is_matched.true))

pub loop-address-preserved : goal.loop-address-preserved
loop-address-preserved c =
    left-more (λ (a : Address). IsMatched a c.args.route) c.args.addresses.now
    c.loop-address.left c.next.new.self c.in-Some.address c.loop-address.invariant
    c.in-Some.ensures.steps
    (said-no c.is_matched.result c.is_matched.ensures c.if-is_matched.false)
