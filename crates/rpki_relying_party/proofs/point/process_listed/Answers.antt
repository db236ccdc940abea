use Rattle.rpki_relying_party.specs.Costs.{ListCosts, ListedCosts}
use Rattle.rpki_relying_party.specs.Outcome.{AppendsBoth}
use Rattle.rpki_relying_party.specs.Passes.{setting}
use Rattle.rpki_relying_party.specs.Point.{IsListAt}
use Rattle.rpki_relying_party.specs.Tells.{PointTells}
use Rattle.rpki_relying_party.specs.declared.list.List.{List}
use Rattle.rpki_relying_party.proofs.Pointing.{no-list, files-read}
use Rattle.rpki_relying_party.proofs.point.process_listed.Goals as goal

pub returns-in-Err : goal.returns-in-Err
returns-in-Err g c =
    let s = setting g.R.Repository.finds g.C.Crypto.digest_of g.C.Crypto.is_signed
    c.args.pass.now in
    let place = c.args.place.now in
    let signer = c.args.manifest.now.signer.cert.certificate in
    let content = c.args.manifest.now.content in
    no-list s place c.args.folder.now c.args.uri.now signer content c.requires
    (λ (l : List) n. IsListAt s place.ca c.args.folder.now signer content l.uri l.crl.list
    × ListCosts s c.args.folder.now signer content n)
    (λ (_ : Unit {0}) n. AppendsBoth (PointTells s place c.args.folder.now c.args.uri.now)
    c.args.findings.now.said.items c.args.findings.now.said.items
    c.args.findings.now.children.items c.args.findings.now.children.items
    × ListedCosts s place.ca c.args.folder.now c.args.uri.now signer content n)
    c.args.room.now c.find_crl.new.room c.in-Err.stop c.in-Err.ensures

pub returns-in-Ok : goal.returns-in-Ok
returns-in-Ok g c =
    let s = setting g.R.Repository.finds g.C.Crypto.digest_of g.C.Crypto.is_signed
    c.args.pass.now in
    let place = c.args.place.now in
    let signer = c.args.manifest.now.signer.cert.certificate in
    let content = c.args.manifest.now.content in
    files-read s place c.args.folder.now c.args.uri.now signer content c.requires
    c.in-Ok.list.uri c.in-Ok.list.crl.list c.until_of.result c.until_of.ensures
    c.args.findings.now.said.items c.process_files-done.new.findings.said.items
    c.args.findings.now.children.items c.process_files-done.new.findings.children.items
    c.args.room.now c.find_crl.new.room c.process_files-done.new.room c.in-Ok.ensures
    c.process_files-done.result c.process_files-done.ensures
