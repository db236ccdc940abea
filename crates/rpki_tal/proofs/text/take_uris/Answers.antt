use Rattle.std.proofs.Common.{◌≢◌, ◌∙◌, [], length, sym, ap}
use Rattle.std.proofs.lemmas.Bool.{eqb-false}
use Rattle.std.proofs.lemmas.Result.{err_from_is_err_and}
use Rattle.rpki_tal.specs.Form.{IsUriLine}
use Rattle.rpki_tal.proofs.LineFacts.{lines-push}
use Rattle.rpki_tal.proofs.Refusing.{uri-refused}
use Rattle.rpki_tal.proofs.text.take_uris.Goals as goal

pub returns-in_err-uri-clause-err : goal.returns-in_err-uri-clause-err
returns-in_err-uri-clause-err c =
    let p = err_from_is_err_and c.from_residual.result c.from_residual.ensures.1 in
    let some : c.in-Some.line.now ≢ [] = λ none.
    eqb-false _ _ (sym c.is_empty.ensures ∙ c.if-is_empty.false) (ap length none) in
    rw (p.1, p.2)
    (uri-refused c.args.list.now c.lines.uris.items c.lines.rest.now c.in-Some.line.now
    c.in-Some.more.now c.in_err-uri.field-0.0 c.lines.invariant c.in-Some.ensures.line some
    c.in_err-uri.ensures)

pub lines-preserved : goal.lines-preserved
lines-preserved c =
    let f = c.in-Some.ensures.line in
    rw c.in_ok-push.ensures.items
    (lines-push IsUriLine c.args.list.now c.lines.uris.items c.in_ok-uri.uri c.lines.rest.now
    c.in-Some.more.now c.lines.invariant (f.0, f.1, (c.in-Some.line.now, f.2, c.in_ok-uri.ensures)))
