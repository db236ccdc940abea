-- One file more is read.
use Rattle.rpki_files.specs.Manifest.Uris.{uris_of}
use Rattle.rpki_relying_party.specs.Costs.{FileCosts, FilesCost}
use Rattle.rpki_relying_party.specs.Outcome.{AppendsBoth}
use Rattle.rpki_relying_party.specs.Passes.{setting}
use Rattle.rpki_relying_party.specs.Tells.{FileTells, FilesTell}
use Rattle.rpki_relying_party.proofs.Crls.{first-left}
use Rattle.rpki_relying_party.proofs.Filing.{begun, one-more, ended, stopped}
use Rattle.rpki_relying_party.proofs.files.process_files.Goals as goal

pub loop-item-init : goal.loop-item-init
loop-item-init g c =
    let s = setting g.R.Repository.finds g.C.Crypto.digest_of g.C.Crypto.is_signed
    c.args.pass.now in
    let above = c.args.above.now in
    let list = above.list.now.crl.list in
    begun s above.ca.now above.list.now.uri list above.until above.manifest.now
    (uris_of c.args.folder.now c.args.manifest.now.files) c.iter_uris-files.result
    c.iter_uris-files.ensures c.args.findings.now.said.items c.args.findings.now.children.items
    c.args.room.now

pub returns-in-Err-process_file : goal.returns-in-Err-process_file
returns-in-Err-process_file g c =
    let s = setting g.R.Repository.finds g.C.Crypto.digest_of g.C.Crypto.is_signed
    c.args.pass.now in
    let above = c.args.above.now in
    let list = above.list.now.crl.list in
    stopped s above.ca.now above.list.now.uri list above.until above.manifest.now
    (uris_of c.args.folder.now c.args.manifest.now.files) c.loop-item.files
    c.args.findings.now.said.items c.loop-item.findings.said.items
    c.args.findings.now.children.items c.loop-item.findings.children.items
    c.args.room.now c.loop-item.room c.loop-item.invariant c.in-Ok.listed c.next.new.self
    (first-left c.in-Some.item c.in-Ok.listed c.loop-item.files c.next.new.self
    c.in-Some.ensures.steps c.in-Ok.is)
    (λ (_ : Unit {0}) n. AppendsBoth (FileTells s above.ca.now above.list.now.uri list above.until
    above.manifest.now c.in-Ok.listed) c.loop-item.findings.said.items
    c.process_file.new.findings.said.items c.loop-item.findings.children.items
    c.process_file.new.findings.children.items
    × FileCosts s above.ca.now above.list.now.uri list above.manifest.now c.in-Ok.listed n)
    (λ (_ : Unit {0}) n. AppendsBoth (FilesTell s above.ca.now above.list.now.uri list above.until
    above.manifest.now (uris_of c.args.folder.now c.args.manifest.now.files))
    c.args.findings.now.said.items c.process_file.new.findings.said.items
    c.args.findings.now.children.items c.process_file.new.findings.children.items
    × FilesCost s above.ca.now above.list.now.uri list above.manifest.now
    (uris_of c.args.folder.now c.args.manifest.now.files) n)
    c.process_file.new.room c.in-Err-process_file.stop c.in-Err-process_file.ensures

pub loop-item-preserved : goal.loop-item-preserved
loop-item-preserved g c =
    let s = setting g.R.Repository.finds g.C.Crypto.digest_of g.C.Crypto.is_signed
    c.args.pass.now in
    let above = c.args.above.now in
    let list = above.list.now.crl.list in
    one-more s above.ca.now above.list.now.uri list above.until above.manifest.now
    (uris_of c.args.folder.now c.args.manifest.now.files) c.loop-item.files
    c.args.findings.now.said.items c.loop-item.findings.said.items
    c.args.findings.now.children.items c.loop-item.findings.children.items
    c.args.room.now c.loop-item.room c.loop-item.invariant c.in-Ok.listed c.next.new.self
    (first-left c.in-Some.item c.in-Ok.listed c.loop-item.files c.next.new.self
    c.in-Some.ensures.steps c.in-Ok.is)
    c.process_file.new.findings.said.items c.process_file.new.findings.children.items
    c.process_file.new.room c.in-Ok-process_file.ensures

pub returns : goal.returns
returns g c =
    let s = setting g.R.Repository.finds g.C.Crypto.digest_of g.C.Crypto.is_signed
    c.args.pass.now in
    let above = c.args.above.now in
    let list = above.list.now.crl.list in
    ended s above.ca.now above.list.now.uri list above.until above.manifest.now
    (uris_of c.args.folder.now c.args.manifest.now.files) c.loop-item.files
    c.args.findings.now.said.items c.loop-item.findings.said.items
    c.args.findings.now.children.items c.loop-item.findings.children.items
    c.args.room.now c.loop-item.room c.loop-item.invariant c.in_default.ensures.steps.0
