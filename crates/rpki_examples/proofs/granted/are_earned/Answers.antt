use Rattle.std.proofs.Common.{map, sym, subst}
use Rattle.std.proofs.lemmas.Result.{IfOk-weaker}
use Rattle.rpki_paths.specs.Kept.{AreWalked}
use Rattle.rpki_paths.specs.Walk.{placed}
use Rattle.rpki_examples.proofs.granted.are_earned.Goals as goal

pub returns-in-Ok : goal.returns-in-Ok
returns-in-Ok g c =
    let cert = g.C.Certificate.cert in
    let cas = placed cert 1 c.args.cas.now in
    let ees = map cert c.args.ees.now in
    let walked : AreWalked cert cas ees c.as_mut_slice.result.now =
    subst (λ l. AreWalked cert cas ees l) (sym c.as_mut_slice.ensures.value)
    c.in-Ok.ensures.paths in
    IfOk-weaker c.earn-are_earned.result _ _ (λ answer earns yes. earns yes cas ees walked)
    c.earn-are_earned.ensures
