-- What is kept of the paths under the supplies decides what is granted.
use Rattle.std.proofs.lemmas.Result.{err_from_is_err_and, on_ok_weaker, IfErr-weaker}
use Rattle.rpki_rta.proofs.Refusing.{why-not-granted}
use Rattle.rpki_rta.proofs.Running.{begins-not, supplies-not, ends-so, ends-not}
use Rattle.rpki_rta.proofs.whole.run.Goals as goal

pub returns-in_err-validation-clause-why : goal.returns-in_err-validation-clause-why
returns-in_err-validation-clause-why g c =
    let p = err_from_is_err_and c.from_residual.result c.from_residual.ensures.1 in
    rw (p.1, p.2) (begins-not g.C.Crypto.digest_of g.C.Crypto.is_signed c.args.crypto.now
    c.args.now c.args.rta.now c.args.supplies.now _ c.in_err-validation.ensures.why)

pub returns-in_err-supply_in_order-clause-no : goal.returns-in_err-supply_in_order-clause-no
returns-in_err-supply_in_order-clause-no g c =
    let digests = g.C.Crypto.digest_of in
    let says = g.C.Crypto.is_signed in
    let r = c.from_residual-in_err-supply_in_order in
    let p = err_from_is_err_and r.result r.ensures.1 in
    rw (p.1, p.2) (why-not-granted digests says c.args.crypto.now c.args.now c.args.rta.now
    c.args.supplies.now _ (supplies-not digests says c.args.crypto.now c.args.now c.args.rta.now
    c.args.supplies.now c.in_ok-validation.validation c.supply_in_order.new.validation
    c.in_ok-validation.ensures.begun _ c.in_err-supply_in_order.ensures))

pub returns-in_err-supply_in_order-clause-why : goal.returns-in_err-supply_in_order-clause-why
returns-in_err-supply_in_order-clause-why g c =
    let r = c.from_residual-in_err-supply_in_order in
    let p = err_from_is_err_and r.result r.ensures.1 in
    rw (p.1, p.2) (supplies-not g.C.Crypto.digest_of g.C.Crypto.is_signed c.args.crypto.now
    c.args.now c.args.rta.now c.args.supplies.now c.in_ok-validation.validation
    c.supply_in_order.new.validation c.in_ok-validation.ensures.begun _
    c.in_err-supply_in_order.ensures)

pub returns-clause-yes : goal.returns-clause-yes
returns-clause-yes g c =
    on_ok_weaker c.finalize.result (ends-so g.C.Crypto.digest_of g.C.Crypto.is_signed
    c.args.crypto.now c.args.now c.args.rta.now c.args.supplies.now
    c.in_ok-validation.validation c.supply_in_order.new.validation
    c.in_ok-validation.ensures.begun c.in_ok-supply_in_order.ensures) c.finalize.ensures.yes

pub returns-clause-no : goal.returns-clause-no
returns-clause-no g c =
    let digests = g.C.Crypto.digest_of in
    let says = g.C.Crypto.is_signed in
    IfErr-weaker c.finalize.result _ _ (λ fault h. why-not-granted digests says
    c.args.crypto.now c.args.now c.args.rta.now c.args.supplies.now fault
    (ends-not digests says c.args.crypto.now c.args.now c.args.rta.now c.args.supplies.now
    c.in_ok-validation.validation c.supply_in_order.new.validation
    c.in_ok-validation.ensures.begun c.in_ok-supply_in_order.ensures fault h))
    c.finalize.ensures.no

pub returns-clause-why : goal.returns-clause-why
returns-clause-why g c =
    IfErr-weaker c.finalize.result _ _ (λ fault h. ends-not g.C.Crypto.digest_of
    g.C.Crypto.is_signed c.args.crypto.now c.args.now c.args.rta.now c.args.supplies.now
    c.in_ok-validation.validation c.supply_in_order.new.validation
    c.in_ok-validation.ensures.begun c.in_ok-supply_in_order.ensures fault h)
    c.finalize.ensures.no
