use Rattle.std.proofs.lemmas.Result.{err_from_is_err_and}
use Rattle.rpki_der.proofs.Writing.Taken.{AppendsFront-more, AppendsFront-after}
use Rattle.rpki_cli.proofs.Saying.{begun-third}
use Rattle.rpki_cli.proofs.answer.write_parts.Goals as goal

pub returns-in_err-take_all-clause-begun : goal.returns-in_err-take_all-clause-begun
returns-in_err-take_all-clause-begun g c =
    let p = err_from_is_err_and c.from_residual.result c.from_residual.ensures.1 in
    rw p.1 (AppendsFront-more _ _ _ _ c.in_err-take_all.ensures.begun)

pub returns-in_err-take_all-2-clause-begun : goal.returns-in_err-take_all-2-clause-begun
returns-in_err-take_all-2-clause-begun g c =
    let p = err_from_is_err_and c.from_residual-in_err-take_all-2.result
    c.from_residual-in_err-take_all-2.ensures.1 in
    rw p.1 (AppendsFront-after _ _ _ _ _ c.in_ok-take_all.ensures.ok
    (AppendsFront-more _ _ _ _ c.in_err-take_all-2.ensures.begun))

pub returns-clause-begun : goal.returns-clause-begun
returns-clause-begun g c =
    begun-third c.take_all-3.result _ _ _ _ _ _ _ c.in_ok-take_all.ensures.ok
    c.in_ok-take_all-2.ensures.ok c.take_all-3.ensures.begun
