use Rattle.std.proofs.Common.{List, Ok, Result, Vec, map, string_bytes, subst}
use Rattle.std.specs.Borrow.{Bor}
use Rattle.std.specs.Prelude.{IfOk, ℕ}
use Rattle.std.specs.declared.alloc.Global.{Global}
use Rattle.rpki_cli.specs.Store.{IsRead, Told}
use Rattle.rpki_program.specs.Verify.Rta.{AreAnchors, IsReportUnder, supply_of}
use Rattle.rpki_program.specs.declared.verify.report.Report.{Report}
use Rattle.rpki_program.specs.declared.verify.rta.Anchor.{Anchor}
use Rattle.rpki_program.proofs.Anchored.{under-attested}
use Rattle.rpki_program.proofs.verify.rta.rta.Goals as goal

pub returns-in-Ok-read_one : goal.returns-in-Ok-read_one
returns-in-Ok-read_one g c =
    let told = g.S.Store.told c.args.store.now in
    let now = c.args.moment in
    let octets = c.in-Ok-read_one.octets in
    let made = c.granted-report.result in
    under-attested told c.args.request.now now c.in-Ok.anchors.items
    (subst (λ (words : List (Bor (List ℕ))). AreAnchors told now words c.in-Ok.anchors.items)
    c.deref.ensures.value
    (subst (λ (m : Result (Vec Anchor Global) Report). IfOk m (λ (made : Vec Anchor Global).
    AreAnchors told now c.deref.result.now made.items)) c.in-Ok.is c.in_ok-report.ensures.anchors))
    octets
    (subst (λ (t : Told). IsRead (t c.args.request.now.object.now) (Ok octets))
    c.in_ok-report.ensures.same c.in-Ok-read_one.ensures.told)
    made
    (subst (λ (anchors : List Anchor). IfOk made (λ x. IsReportUnder now (map supply_of anchors) octets
    (string_bytes x.out) x.status)) c.deref-in-Ok-read_one.ensures.value c.granted-report.ensures)
