use Rattle.std.proofs.Common.{◌+◌, ℕ, List, Result, Ok, Err, arith, refl, subst}
use Rattle.rpki_certs.specs.Validate.{Validated}
use Rattle.rpki_certs.specs.Issuer.{IsIssued}
use Rattle.rpki_certs.specs.declared.issuer.IssuerError.{IssuerError}
use Rattle.rpki_certs.proofs.Following.{one-more, last-one}
use Rattle.rpki_certs.proofs.issuer.follow.Goals as goal

pub returns-in-Err : goal.returns-in-Err
returns-in-Err g c =
    let l = c.loop-octets in
    let verdict = g.C.Crypto.is_signed c.args.crypto.now in
    let next : Result Validated IssuerError = Err c.in-Err.error in
    l.invariant next
    (one-more verdict c.args.now l.issuer next next c.args.chain.now l.octets-index
    (l.octets-index + 1) _ refl c.loop-octets-test.true
    (subst (λ (o : List ℕ). IsIssued verdict c.args.now l.issuer o next) c.octets-item.is
    c.in-Err.ensures) refl)

pub loop-octets-preserved : goal.loop-octets-preserved
loop-octets-preserved g c = λ result after.
    let l = c.loop-octets in
    let verdict = g.C.Crypto.is_signed c.args.crypto.now in
    let next : Result Validated IssuerError = Ok c.in-Ok.next in
    l.invariant result
    (one-more verdict c.args.now l.issuer next result c.args.chain.now l.octets-index
    (l.octets-index + 1) _ refl c.loop-octets-test.true
    (subst (λ (o : List ℕ). IsIssued verdict c.args.now l.issuer o next) c.octets-item.is
    c.in-Ok.ensures) after)

pub returns : goal.returns
returns g c =
    let l = c.loop-octets in
    l.invariant (Ok l.issuer)
    (last-one (g.C.Crypto.is_signed c.args.crypto.now) c.args.now l.issuer c.args.chain.now
    l.octets-index (λ t. omega (arith, t, c.loop-octets-test.false)))
