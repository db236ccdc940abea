use Rattle.std.proofs.lemmas.Result.{on_ok_weaker}
use Rattle.rpki_routes.proofs.Origins.Written.{roa-written}
use Rattle.rpki_routes.proofs.roa.builder.RoaBuilder.to_attestation.Goals as goal

pub returns-clause-written : goal.returns-clause-written
returns-clause-written c =
    on_ok_weaker c.content.result (roa-written c.args.self.now c.in_ok-check.ensures.roa)
    c.content.ensures.short
