use Rattle.std.proofs.lemmas.Result.{err_from_is_err_and}
use Rattle.rpki_routes.proofs.Origins.Built.{answers-later, first-front}
use Rattle.rpki_routes.proofs.roa.builder.RoaBuilder.check.Goals as goal

pub returns-in_err-check-clause-faults : goal.returns-in_err-check-clause-faults
returns-in_err-check-clause-faults c =
    let p = err_from_is_err_and c.from_residual.result c.from_residual.ensures.1 in
    rw (p.1, p.2) (first-front (record {
      as_id = c.self.inside.as_id;
      v4 = c.self.inside.v4;
      v6 = c.self.inside.v6;
    }) c.args.self.now _ c.self.view_is c.in_err-check.ensures.faults)

pub returns-clause-faults : goal.returns-clause-faults
returns-clause-faults c =
    answers-later (record {
      as_id = c.self.inside.as_id;
      v4 = c.self.inside.v4;
      v6 = c.self.inside.v6;
    }) c.args.self.now c.check-2.result c.self.view_is c.in_ok-check.ensures.faults
    c.check-2.ensures.faults
