use Rattle.std.proofs.Common.{◌*◌, length, sym, subst, ◌∙◌, true≢false}
use Rattle.rpki_basics.specs.Moment.{Moment}
use Rattle.rpki_certs.specs.Cert.{KeptCertificate}
use Rattle.rpki_routes.specs.Roa.{addresses}
use Rattle.rpki_routes.specs.Roa.Form.{RoaForm}
use Rattle.rpki_routes.specs.Roa.Checks.{roa_kind}
use Rattle.rpki_relying_party.specs.Costs.{payload_cost}
use Rattle.rpki_relying_party.specs.Memory.{IsCheckMemory, plain_check}
use Rattle.rpki_relying_party.specs.Outcome.{Puts}
use Rattle.rpki_relying_party.specs.Passes.{setting}
use Rattle.rpki_relying_party.specs.Tells.{NamesPrefixesAlone, origins_said, earlier}
use Rattle.rpki_relying_party.specs.Under.{SaysOf}
use Rattle.rpki_relying_party.specs.declared.cause.Cause.TheVariants as causes
use Rattle.rpki_relying_party.specs.declared.kind.ListedKind.TheVariants as kinds
use Rattle.rpki_relying_party.proofs.Judging.{ends-with, roa-told, roa-broad, roa-refused}
use Rattle.rpki_relying_party.proofs.Judging.{payloads-judged, refused-judged, each-ok}
use Rattle.rpki_relying_party.proofs.Objects.{plain-object}
use Rattle.rpki_relying_party.proofs.files.process_roa.Goals as goal

pub returns-in-Err : goal.returns-in-Err
returns-in-Err g c =
    let s = setting g.R.Repository.finds g.C.Crypto.digest_of g.C.Crypto.is_signed
    c.args.pass.now in
    let above = c.args.above.now in
    let list = above.list.now.crl.list in
    refused-judged s above.ca.now list above.until above.manifest.now c.args.uri c.args.octets
    kinds.Roa c.args.findings.now.said.items c.refuse_object.new.said.items
    c.args.findings.now.children.items c.args.room.now c.refuse_object.result
    (IsCheckMemory c.in-Err.error) (causes.Object (plain_check c.in-Err.error))
    (λ m. roa-refused s above.ca.now list above.until above.manifest.now c.args.uri c.args.octets
    (causes.Object (plain_check c.in-Err.error)) (plain-object roa_kind RoaForm s.digest s.verdict
    above.ca.now s.now (SaysOf list) c.args.octets c.in-Err.error c.in-Err.ensures.first m))
    c.refuse_object.ensures.memory c.refuse_object.ensures.refused

-- what the certificate claims
abbrev Alone : KeptCertificate → Type 0
Alone k = NamesPrefixesAlone k.certificate.tbs.extensions.claims

pub returns-then-names_prefixes_alone : goal.returns-then-names_prefixes_alone
returns-then-names_prefixes_alone g c =
    let s = setting g.R.Repository.finds g.C.Crypto.digest_of g.C.Crypto.is_signed
    c.args.pass.now in
    let above = c.args.above.now in
    let list = above.list.now.crl.list in
    payloads-judged s above.ca.now list above.until above.manifest.now c.args.uri c.args.octets
    kinds.Roa c.args.findings.now.said.items c.put_origins-put.new.said.items
    c.args.findings.now.children.items c.args.room.now c.put_origins-put.result
    (payload_cost * length (addresses c.in-Ok.roa)) c.put_origins-put.new.room
    (origins_said (earlier above.until c.in-Ok.cert.cert.certificate.tbs.validity.not_after)
    c.args.uri c.in-Ok.roa)
    (roa-told s above.ca.now list above.until above.manifest.now c.args.uri c.args.octets
    c.in-Ok.cert c.in-Ok.roa c.in-Ok.ensures.exact (subst Alone c.cert-in-Ok.ensures
    (c.names_prefixes_alone.ensures.0 c.if-names_prefixes_alone.true)))
    (subst (λ (t : Moment). Puts (payload_cost * length (addresses c.in-Ok.roa))
    (origins_said t c.args.uri c.in-Ok.roa) c.args.findings.now.said.items
    c.put_origins-put.new.said.items c.args.room.now c.put_origins-put.new.room
    c.put_origins-put.result)
    (ends-with above.until c.earlier-until.result c.not_after.result c.validity.result
    c.cert.result.now c.in-Ok.cert.cert c.earlier-until.ensures c.not_after.ensures
    c.validity.ensures c.cert.ensures) c.put_origins-put.ensures)

pub returns-else-names_prefixes_alone : goal.returns-else-names_prefixes_alone
returns-else-names_prefixes_alone g c =
    let s = setting g.R.Repository.finds g.C.Crypto.digest_of g.C.Crypto.is_signed
    c.args.pass.now in
    let above = c.args.above.now in
    let list = above.list.now.crl.list in
    refused-judged s above.ca.now list above.until above.manifest.now c.args.uri c.args.octets
    kinds.Roa c.args.findings.now.said.items c.refuse.new.said.items
    c.args.findings.now.children.items c.args.room.now c.refuse.result ⊥ causes.RoaCertificate
    (λ m. roa-refused s above.ca.now list above.until above.manifest.now c.args.uri c.args.octets
    causes.RoaCertificate (roa-broad s above.ca.now list above.until above.manifest.now c.args.uri
    c.args.octets c.in-Ok.cert c.in-Ok.roa c.in-Ok.ensures.exact
    (λ alone. true≢false (sym (c.names_prefixes_alone.ensures.1
    (subst Alone (sym c.cert-in-Ok.ensures) alone)) ∙ c.if-names_prefixes_alone.false))))
    (each-ok c.refuse.result (λ e. e)) c.refuse.ensures
