use Rattle.std.proofs.lemmas.Result.{err_from_is_err_and}
use Rattle.rpki_tal.proofs.Refusing.{text-refused}
use Rattle.rpki_tal.proofs.tal.Tal.read_named.Goals as goal

pub returns-in_err-uris-clause-read : goal.returns-in_err-uris-clause-read
returns-in_err-uris-clause-read g c =
    let p = err_from_is_err_and c.from_residual.result c.from_residual.ensures.1 in
    rw (p.1, p.2)
    (text-refused (g.S.Source.left c.args.source.now) (g.S.Source.left c.read_all.new.self)
    c.as_slice.result.now c.in-Ok.text.items c.in_err-uris.field-0.0 c.in-Ok.ensures.given
    c.in-Ok.ensures.end c.as_slice.ensures.value c.in_err-uris.ensures.err)
