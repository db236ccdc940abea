use Rattle.rpki_relying_party.specs.Passes.{setting}
use Rattle.rpki_relying_party.proofs.Manifests.{outdated, repeats, is-manifest}
use Rattle.rpki_relying_party.proofs.manifest.find_manifest.Goals as goal

pub returns-in-Err-check_current : goal.returns-in-Err-check_current
returns-in-Err-check_current g c =
    outdated (setting g.R.Repository.finds g.C.Crypto.digest_of g.C.Crypto.is_signed
    c.args.pass.now) c.args.ca.now c.args.folder.now c.args.uri.now c.args.room.now
    c.read_file.new.room _ c.in_ok-octets.ensures c.in-Ok.octets c.in-Ok.is
    c.in-Ok-manifest_in.checked c.in-Ok-manifest_in.ensures.exact
    c.in-Err-check_current.fault c.in-Err-check_current.ensures

pub returns-in-Ok-Some : goal.returns-in-Ok-Some
returns-in-Ok-Some g c =
    repeats (setting g.R.Repository.finds g.C.Crypto.digest_of g.C.Crypto.is_signed
    c.args.pass.now) c.args.ca.now c.args.folder.now c.args.uri.now c.args.room.now
    c.read_file.new.room _ c.in_ok-octets.ensures c.in-Ok.octets c.in-Ok.is
    c.in-Ok-manifest_in.checked c.in-Ok-manifest_in.ensures.exact
    c.in_default.ensures c.in-Ok-Some.twice (rw c.in-Ok-Some.field-0-is at c.in-Ok-Some.ensures)
    c.refused_twice.new.room c.refused_twice.result c.refused_twice.ensures

pub returns-in-Ok-None : goal.returns-in-Ok-None
returns-in-Ok-None g c =
    is-manifest (setting g.R.Repository.finds g.C.Crypto.digest_of g.C.Crypto.is_signed
    c.args.pass.now) c.args.ca.now c.args.folder.now c.args.uri.now c.args.room.now
    c.read_file.new.room _ c.in_ok-octets.ensures c.in-Ok.octets c.in-Ok.is
    c.in-Ok-manifest_in.checked c.in-Ok-manifest_in.ensures.exact
    c.in_default.ensures (rw c.in-Ok-None.field-0-is at c.in-Ok-None.ensures)
