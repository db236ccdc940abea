use Rattle.std.proofs.Common.{◌≡◌, Ok, sym, ◌∙◌, true≢false}
use Rattle.rpki_relying_party.specs.Costs.{FileCosts, found_cost}
use Rattle.rpki_relying_party.specs.Outcome.{AppendsBoth}
use Rattle.rpki_relying_party.specs.Passes.{setting}
use Rattle.rpki_relying_party.specs.Point.{Has}
use Rattle.rpki_relying_party.specs.Tells.{FileTells}
use Rattle.rpki_relying_party.proofs.Filing.{list-passed, file-lost, file-read}
use Rattle.rpki_relying_party.proofs.files.process_file.Goals as goal

pub returns-then-are_same : goal.returns-then-are_same
returns-then-are_same g c =
    let s = setting g.R.Repository.finds g.C.Crypto.digest_of g.C.Crypto.is_signed
    c.args.pass.now in
    let above = c.args.above.now in
    let list = above.list.now.crl.list in
    list-passed s above.ca.now above.list.now.uri list above.until above.manifest.now
    c.args.listed c.args.findings.now.said.items c.args.findings.now.children.items
    (c.are_same.ensures.0 c.if-are_same.true) c.args.room.now

pub returns-in-Err : goal.returns-in-Err
returns-in-Err g c =
    let s = setting g.R.Repository.finds g.C.Crypto.digest_of g.C.Crypto.is_signed
    c.args.pass.now in
    let above = c.args.above.now in
    let list = above.list.now.crl.list in
    file-lost s above.ca.now above.list.now.uri list above.until above.manifest.now c.args.listed
    c.args.findings.now.said.items c.args.findings.now.children.items
    (λ e. true≢false (sym (c.are_same.ensures.1 e) ∙ c.if-are_same.false))
    (λ octets n. Has s c.args.listed octets
    × (n ≡ found_cost c.listing_cost-price.result (Ok octets)))
    (λ (_ : Unit {0}) n. AppendsBoth (FileTells s above.ca.now
    above.list.now.uri list above.until above.manifest.now c.args.listed)
    c.args.findings.now.said.items c.args.findings.now.said.items
    c.args.findings.now.children.items c.args.findings.now.children.items
    × FileCosts s above.ca.now above.list.now.uri list above.manifest.now c.args.listed n)
    c.args.room.now c.read_listed.new.room c.in-Err.stop c.listing_cost-price.result
    c.listing_cost-price.ensures c.in-Err.ensures

pub returns-in-Ok : goal.returns-in-Ok
returns-in-Ok g c =
    let s = setting g.R.Repository.finds g.C.Crypto.digest_of g.C.Crypto.is_signed
    c.args.pass.now in
    let above = c.args.above.now in
    let list = above.list.now.crl.list in
    file-read s above.ca.now above.list.now.uri list above.until above.manifest.now c.args.listed
    c.args.findings.now.said.items c.args.findings.now.children.items
    (λ e. true≢false (sym (c.are_same.ensures.1 e) ∙ c.if-are_same.false)) c.in-Ok.octets
    c.args.room.now c.read_listed.new.room (rw c.listing_cost-price.ensures at c.in-Ok.ensures)
    c.process_read.new.findings.said.items c.process_read.new.findings.children.items
    c.process_read.new.room c.process_read.result c.process_read.ensures
