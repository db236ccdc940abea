use Rattle.rpki_program.specs.Verify.Files.{IsFilesReport}
use Rattle.rpki_program.specs.Verify.Payloads.{IsPayloadsReport, finds_for}
use Rattle.rpki_program.specs.Verify.Rta.{IsRtaReport}
use Rattle.rpki_program.specs.Verify.Run.{IsTimed, reaching}
use Rattle.rpki_program.specs.Verify.Verdicts.{IsListReport}
use Rattle.rpki_program.specs.declared.verify.request.Request.TheVariants.{Files, Payloads, Rta}
use Rattle.rpki_program.specs.declared.verify.request.Request.TheVariants.{Verdicts}
use Rattle.rpki_program.proofs.Paying.{done-as}
use Rattle.rpki_program.proofs.Saying.{written}
use Rattle.rpki_program.proofs.verify.run.run.Goals as goal

pub returns-in-Files-clause-done : goal.returns-in-Files-clause-done
returns-in-Files-clause-done g c =
    let told = g.S.Store.told c.args.store.now in
    let named = g.Y.System.named c.args.system.now in
    let r = c.in-Files.request in
    done-as (reaching told c.args.clock named (g.Y.System.finds c.args.system.now)) c.args.request
    (Files r) _ c.in-Files.is
    (written (IsTimed c.args.clock r.at (λ now. IsFilesReport told named r now)) c.files_at.result _
    c.files_at.ensures c.say-in-Files.ensures.said)

pub returns-in-Rta-clause-done : goal.returns-in-Rta-clause-done
returns-in-Rta-clause-done g c =
    let told = g.S.Store.told c.args.store.now in
    let r = c.in-Rta.request in
    done-as (reaching told c.args.clock (g.Y.System.named c.args.system.now)
    (g.Y.System.finds c.args.system.now)) c.args.request (Rta r) _ c.in-Rta.is
    (written (IsTimed c.args.clock r.at (λ now. IsRtaReport told r now)) c.rta_at.result _
    c.rta_at.ensures c.say-in-Rta.ensures.said)

pub returns-in-Payloads-clause-done : goal.returns-in-Payloads-clause-done
returns-in-Payloads-clause-done g c =
    let told = g.S.Store.told c.args.store.now in
    let finds = g.Y.System.finds c.args.system.now in
    let r = c.in-Payloads.request in
    done-as (reaching told c.args.clock (g.Y.System.named c.args.system.now) finds) c.args.request
    (Payloads r) _ c.in-Payloads.is
    (written (IsTimed c.args.clock r.at
    (λ now. IsPayloadsReport told (finds_for finds r) r now)) c.payloads_at.result _
    c.payloads_at.ensures c.say-in-Payloads.ensures.said)

pub returns-in-Verdicts-clause-done : goal.returns-in-Verdicts-clause-done
returns-in-Verdicts-clause-done g c =
    let told = g.S.Store.told c.args.store.now in
    let r = c.in-Verdicts.request in
    done-as (reaching told c.args.clock (g.Y.System.named c.args.system.now)
    (g.Y.System.finds c.args.system.now)) c.args.request (Verdicts r) _ c.in-Verdicts.is
    (written (IsListReport told r) c.verdicts.result _ c.verdicts.ensures
    c.say-in-Verdicts.ensures.said)
