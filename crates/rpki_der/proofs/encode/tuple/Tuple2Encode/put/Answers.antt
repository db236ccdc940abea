use Rattle.std.proofs.lemmas.Result.{err_from_is_err_and, on_err_weaker}
use Rattle.rpki_der.proofs.Writing.Taken.{AppendsFront-more, AppendsFront-after}
use Rattle.rpki_der.proofs.encode.tuple.Tuple2Encode.put.Goals as goal

pub returns-in_err-put-clause-begun : goal.returns-in_err-put-clause-begun
returns-in_err-put-clause-begun g c = let p =
    err_from_is_err_and c.from_residual.result c.from_residual.ensures.1 in
    rw p.1 (AppendsFront-more _ _ _ _ c.in_err-put.ensures.begun)

pub returns-clause-begun : goal.returns-clause-begun
returns-clause-begun g c =
    on_err_weaker c.put-2.result
    (λ h. AppendsFront-after _ _ _ _ _ c.in_ok-put.ensures.ok h) c.put-2.ensures.begun
