use Rattle.rpki_relying_party.specs.Costs.{ReadCosts, PointCosts, opening_cost}
use Rattle.rpki_relying_party.specs.Outcome.{AppendsBoth}
use Rattle.rpki_relying_party.specs.Passes.{setting}
use Rattle.rpki_relying_party.specs.Point.{IsManifestAt}
use Rattle.rpki_relying_party.specs.Tells.{PointTells}
use Rattle.rpki_relying_party.specs.declared.manifest.Manifest.{Manifest}
use Rattle.rpki_relying_party.proofs.Pointing.{no-manifest, point-read}
use Rattle.rpki_relying_party.proofs.point.process_point.Goals as goal

pub returns-in-Err : goal.returns-in-Err
returns-in-Err g c =
    let s = setting g.R.Repository.finds g.C.Crypto.digest_of g.C.Crypto.is_signed
    c.args.pass.now in
    let place = c.args.place.now in
    no-manifest s place c.args.folder.now c.args.uri.now
    (λ (m : Manifest) n. IsManifestAt s place.ca c.args.folder.now c.args.uri.now
    m.signer.cert.certificate m.content × ReadCosts s opening_cost c.args.uri.now n)
    (λ (_ : Unit {0}) n. AppendsBoth (PointTells s place c.args.folder.now c.args.uri.now)
    c.args.findings.now.said.items c.args.findings.now.said.items
    c.args.findings.now.children.items c.args.findings.now.children.items
    × PointCosts s place.ca c.args.folder.now c.args.uri.now n)
    c.args.room.now c.find_manifest.new.room c.in-Err.stop c.in-Err.ensures

-- the manifest is good, whatever was spent on it
pub process_listed-done-requires : goal.process_listed-done-requires
process_listed-done-requires g c = c.in-Ok.ensures.1.0

pub returns-in-Ok : goal.returns-in-Ok
returns-in-Ok g c =
    let s = setting g.R.Repository.finds g.C.Crypto.digest_of g.C.Crypto.is_signed
    c.args.pass.now in
    let place = c.args.place.now in
    point-read s place c.args.folder.now c.args.uri.now c.in-Ok.manifest.signer.cert.certificate
    c.in-Ok.manifest.content c.args.findings.now.said.items
    c.process_listed-done.new.findings.said.items c.args.findings.now.children.items
    c.process_listed-done.new.findings.children.items c.args.room.now c.find_manifest.new.room
    c.process_listed-done.new.room c.in-Ok.ensures c.process_listed-done.result
    c.process_listed-done.ensures
