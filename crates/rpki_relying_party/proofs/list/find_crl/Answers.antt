use Rattle.std.proofs.lemmas.Result.{err_from_is_err_and}
use Rattle.rpki_relying_party.specs.Passes.{setting}
use Rattle.rpki_relying_party.proofs.Crls.{unlisted, lost, malformed, bad, is-list}
use Rattle.rpki_relying_party.proofs.list.find_crl.Goals as goal

pub returns-in_default-2 : goal.returns-in_default-2
returns-in_default-2 g c =
    unlisted (setting g.R.Repository.finds g.C.Crypto.digest_of g.C.Crypto.is_signed
    c.args.pass.now) c.args.ca.now c.args.folder.now
    c.args.manifest.now.signer.cert.certificate c.args.manifest.now.content c.in-Some.uri.now
    c.in-Some.ensures c.args.room.now c.in_ok-hash.field-0 c.in_default-2.is c.in_ok-hash.ensures

pub returns-in_err-octets : goal.returns-in_err-octets
returns-in_err-octets g c =
    let r = c.from_residual-in_err-octets in
    let p = err_from_is_err_and r.result r.ensures.1 in
    rw (p.1, p.2) (lost (setting g.R.Repository.finds g.C.Crypto.digest_of g.C.Crypto.is_signed
    c.args.pass.now) c.args.ca.now c.args.folder.now
    c.args.manifest.now.signer.cert.certificate c.args.manifest.now.content c.in-Some.uri.now
    c.in-Some.ensures
    c.in_ok-hash.field-0 c.in-Some-2.hash c.in-Some-2.is c.in_ok-hash.ensures
    c.args.room.now c.read_listed.new.room _ c.list_cost.result c.list_cost.ensures
    c.in_err-octets.ensures)

pub returns-in_err-crl : goal.returns-in_err-crl
returns-in_err-crl g c =
    let r = c.from_residual-in_err-crl in
    let p = err_from_is_err_and r.result r.ensures.1 in
    rw (p.1, p.2) (malformed (setting g.R.Repository.finds g.C.Crypto.digest_of g.C.Crypto.is_signed
    c.args.pass.now) c.args.ca.now c.args.folder.now
    c.args.manifest.now.signer.cert.certificate c.args.manifest.now.content c.in-Some.uri.now
    c.in-Some.ensures
    c.in_ok-hash.field-0 c.in-Some-2.hash c.in-Some-2.is c.in_ok-hash.ensures
    c.args.room.now c.read_listed.new.room c.in_ok-octets.octets
    (rw c.list_cost.ensures at c.in_ok-octets.ensures) _
    c.in_err-crl.ensures)

pub returns-in-Err : goal.returns-in-Err
returns-in-Err g c =
    bad (setting g.R.Repository.finds g.C.Crypto.digest_of g.C.Crypto.is_signed
    c.args.pass.now) c.args.ca.now c.args.folder.now
    c.args.manifest.now.signer.cert.certificate c.args.manifest.now.content c.in-Some.uri.now
    c.in-Some.ensures
    c.in_ok-hash.field-0 c.in-Some-2.hash c.in-Some-2.is c.in_ok-hash.ensures
    c.args.room.now c.read_listed.new.room c.in_ok-octets.octets
    (rw c.list_cost.ensures at c.in_ok-octets.ensures)
    c.in_ok-crl.crl (c.in_ok-crl.ensures.0) (c.in_ok-crl.ensures.1) c.in-Err.fault
    c.in-Err.ensures

pub returns : goal.returns
returns g c =
    is-list (setting g.R.Repository.finds g.C.Crypto.digest_of g.C.Crypto.is_signed
    c.args.pass.now) c.args.ca.now c.args.folder.now
    c.args.manifest.now.signer.cert.certificate c.args.manifest.now.content c.in-Some.uri.now
    c.in-Some.ensures
    c.in_ok-hash.field-0 c.in-Some-2.hash c.in-Some-2.is c.in_ok-hash.ensures
    c.args.room.now c.read_listed.new.room c.in_ok-octets.octets
    (rw c.list_cost.ensures at c.in_ok-octets.ensures)
    c.in_ok-crl.crl (c.in_ok-crl.ensures.0) (c.in_ok-crl.ensures.1)
    c.in_default-check_list.ensures c.in_ok-list.list c.in_ok-list.ensures.uri
    c.in_ok-list.ensures.crl
