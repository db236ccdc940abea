use Rattle.std.proofs.Common.{inr}
use Rattle.std.proofs.lemmas.Result.{err_from_is_err_and}
use Rattle.rpki_tal.proofs.Refusing.{refuses-more}
use Rattle.rpki_tal.proofs.text.read_list.Goals as goal

pub returns-in_err-key-clause-err : goal.returns-in_err-key-clause-err
returns-in_err-key-clause-err c =
    let p = err_from_is_err_and c.from_residual-in_err-key.result
    c.from_residual-in_err-key.ensures.1 in
    rw (p.1, p.2)
    (refuses-more c.in_err-key.field-0.0 (λ fault.
    inr (c.in_ok-uris.uris.items, c.in_ok-uris.rest.now, c.in_ok-uris.ensures.ok, fault))
    c.in_err-key.ensures.err)

pub returns-clause-ok : goal.returns-clause-ok
returns-clause-ok c = (c.in_ok-uris.rest.now, c.in_ok-uris.ensures.ok, c.in_ok-key.ensures.ok)
