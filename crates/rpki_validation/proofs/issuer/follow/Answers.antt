use Rattle.std.proofs.Common.{Result, Ok, Err, arith, refl}
use Rattle.rpki_certs.specs.Validate.{Validated}
use Rattle.rpki_validation.specs.declared.refusal.CaFault.{CaFault}
use Rattle.rpki_validation.specs.declared.refusal.IssuerFault.{IssuerFault}
use Rattle.rpki_validation.specs.declared.refusal.IssuerFault.TheVariants.{Chain}
use Rattle.rpki_validation.proofs.Steps.{last-one, one-more}
use Rattle.rpki_validation.proofs.issuer.follow.Goals as goal

pub returns-in-Err : goal.returns-in-Err
returns-in-Err c =
    let l = c.loop-i in
    let next : Result Validated CaFault = Err c.in-Err.fault in
    let result : Result Validated IssuerFault = Err (Chain l.i c.in-Err.fault) in
    l.invariant result
    (one-more c.args.lists.now c.args.now l.i l.issuer next result c.args.chain.now l.i
    c.index-chain-i.result c.loop-i-test.true c.index-chain-i.is c.in-Err.ensures refl)

pub loop-i-preserved : goal.loop-i-preserved
loop-i-preserved c = λ result after.
    let l = c.loop-i in
    let next : Result Validated CaFault = Ok c.in-Ok.next in
    l.invariant result
    (one-more c.args.lists.now c.args.now l.i l.issuer next result c.args.chain.now l.i
    c.index-chain-i.result c.loop-i-test.true c.index-chain-i.is c.in-Ok.ensures after)

pub returns : goal.returns
returns c =
    let l = c.loop-i in
    l.invariant (Ok l.issuer)
    (last-one c.args.lists.now c.args.now l.i l.issuer c.args.chain.now l.i
    (λ t. omega (arith, t, c.loop-i-test.false)))
