use Rattle.std.proofs.Common.{◌≡◌, rules}
use Rattle.std.proofs.lemmas.Result.{err_from_is_err_and}
use Rattle.rpki_tal.proofs.Refusing.{key-refused}
use Rattle.rpki_tal.proofs.key_text.read_key.Goals as goal

pub returns-in_err-key-clause-err : goal.returns-in_err-key-clause-err
returns-in_err-key-clause-err c =
    let p = err_from_is_err_and c.from_residual-in_err-key.result
    c.from_residual-in_err-key.ensures.1 in
    let same : c.in_ok-source.source ≡ c.in_ok-octets.octets.items = search rules in
    rw (p.1, p.2)
    (key-refused c.args.text.now c.in_ok-octets.octets.items c.in_ok-source.source
    c.in_err-key.field-0.0 c.in_ok-octets.ensures.ok same c.in_err-key.ensures)
