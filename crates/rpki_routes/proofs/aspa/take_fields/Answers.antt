use Rattle.std.proofs.Common.{arith}
use Rattle.rpki_routes.specs.Aspa.{AreProviders}
use Rattle.rpki_routes.proofs.Attestations.Written.{set-wide}
use Rattle.rpki_routes.proofs.aspa.take_fields.Goals as goal

pub invariant_of-result : goal.invariant_of-result
invariant_of-result c =
    let providers : AreProviders c.args.limit c.in_ok-customer.customer
    c.in_ok-providers.providers = c.in_ok-providers.ensures.providers in
    record {
      not_zero = λ e. c.if-customer-eq0.false (rw c.from_u32.ensures at e);
      number = rw c.from_u32.ensures (omega arith);
      providers = set-wide c.args.limit c.in_ok-providers.providers providers.set;
      others = rw c.from_u32.ensures providers.others;
    }
