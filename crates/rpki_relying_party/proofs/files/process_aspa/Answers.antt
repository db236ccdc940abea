use Rattle.std.proofs.Common.{◌*◌, length, subst}
use Rattle.rpki_basics.specs.Moment.{Moment}
use Rattle.rpki_routes.specs.Aspa.Form.{AspaForm}
use Rattle.rpki_routes.specs.Aspa.Checks.{aspa_kind}
use Rattle.rpki_relying_party.specs.Costs.{payload_cost}
use Rattle.rpki_relying_party.specs.Memory.{IsCheckMemory, plain_check}
use Rattle.rpki_relying_party.specs.Outcome.{Puts}
use Rattle.rpki_relying_party.specs.Passes.{setting}
use Rattle.rpki_relying_party.specs.Tells.{providers_said, earlier}
use Rattle.rpki_relying_party.specs.Under.{SaysOf}
use Rattle.rpki_relying_party.specs.declared.cause.Cause.TheVariants as causes
use Rattle.rpki_relying_party.specs.declared.kind.ListedKind.TheVariants as kinds
use Rattle.rpki_relying_party.proofs.Judging.{ends-with, aspa-told, aspa-refused}
use Rattle.rpki_relying_party.proofs.Judging.{payloads-judged, refused-judged}
use Rattle.rpki_relying_party.proofs.Objects.{plain-object}
use Rattle.rpki_relying_party.proofs.files.process_aspa.Goals as goal

pub returns-in-Err : goal.returns-in-Err
returns-in-Err g c =
    let s = setting g.R.Repository.finds g.C.Crypto.digest_of g.C.Crypto.is_signed
    c.args.pass.now in
    let above = c.args.above.now in
    let list = above.list.now.crl.list in
    refused-judged s above.ca.now list above.until above.manifest.now c.args.uri c.args.octets
    kinds.Aspa c.args.findings.now.said.items c.refuse_object.new.said.items
    c.args.findings.now.children.items c.args.room.now c.refuse_object.result
    (IsCheckMemory c.in-Err.error) (causes.Object (plain_check c.in-Err.error))
    (λ m. aspa-refused s above.ca.now list above.until above.manifest.now c.args.uri c.args.octets
    (causes.Object (plain_check c.in-Err.error)) (plain-object aspa_kind (AspaForm s.providers)
    s.digest s.verdict above.ca.now s.now (SaysOf list) c.args.octets c.in-Err.error
    c.in-Err.ensures.first m))
    c.refuse_object.ensures.memory c.refuse_object.ensures.refused

pub returns-in-Ok : goal.returns-in-Ok
returns-in-Ok g c =
    let s = setting g.R.Repository.finds g.C.Crypto.digest_of g.C.Crypto.is_signed
    c.args.pass.now in
    let above = c.args.above.now in
    let list = above.list.now.crl.list in
    payloads-judged s above.ca.now list above.until above.manifest.now c.args.uri c.args.octets
    kinds.Aspa c.args.findings.now.said.items c.put_providers-put.new.said.items
    c.args.findings.now.children.items c.args.room.now c.put_providers-put.result
    (payload_cost * length c.in-Ok.aspa.providers) c.put_providers-put.new.room
    (providers_said (earlier above.until c.in-Ok.cert.cert.certificate.tbs.validity.not_after)
    c.args.uri c.in-Ok.aspa)
    (aspa-told s above.ca.now list above.until above.manifest.now c.args.uri c.args.octets
    c.in-Ok.cert c.in-Ok.aspa c.in-Ok.ensures.exact)
    (subst (λ (t : Moment). Puts (payload_cost * length c.in-Ok.aspa.providers)
    (providers_said t c.args.uri c.in-Ok.aspa) c.args.findings.now.said.items
    c.put_providers-put.new.said.items c.args.room.now c.put_providers-put.new.room
    c.put_providers-put.result)
    (ends-with above.until c.earlier-until.result c.not_after.result c.validity.result
    c.cert.result.now c.in-Ok.cert.cert c.earlier-until.ensures c.not_after.ensures
    c.validity.ensures c.cert.ensures) c.put_providers-put.ensures)
