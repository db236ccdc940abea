use Rattle.std.proofs.Common.{inl, inr}
use Rattle.rpki_relying_party.specs.Passes.{setting}
use Rattle.rpki_relying_party.proofs.Pointing.{nothing-read}
use Rattle.rpki_relying_party.proofs.point.read_within.Goals as goal

pub returns-in-None : goal.returns-in-None
returns-in-None g c =
    let s = setting g.R.Repository.finds g.C.Crypto.digest_of g.C.Crypto.is_signed
    c.args.pass.now in
    let place = c.args.place.now in
    nothing-read s place c.args.room (inl c.in-None.ensures) c.read_nothing.result
    c.read_nothing.ensures

pub returns-in-None-manifest_of : goal.returns-in-None-manifest_of
returns-in-None-manifest_of g c =
    let s = setting g.R.Repository.finds g.C.Crypto.digest_of g.C.Crypto.is_signed
    c.args.pass.now in
    let place = c.args.place.now in
    nothing-read s place c.args.room (inr c.in-None-manifest_of.ensures)
    c.read_nothing-in-None-manifest_of.result c.read_nothing-in-None-manifest_of.ensures
