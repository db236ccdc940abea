use Rattle.std.proofs.Common.{◌≤◌, length, rules}
use Rattle.rpki_relying_party.specs.Anchors.{most_uris}
use Rattle.rpki_relying_party.specs.Passes.{setting}
use Rattle.rpki_relying_party.proofs.Anchoring.{of-tried}
use Rattle.rpki_relying_party.proofs.anchor.anchor_of.Goals as goal

pub returns-in-Ok : goal.returns-in-Ok
returns-in-Ok g c =
    let few : length c.args.tal.now.uris ≤ most_uris = search rules in
    of-tried (setting g.R.Repository.finds g.C.Crypto.digest_of g.C.Crypto.is_signed
    c.args.pass.now) c.args.tal.now few c.in-Ok.anchor c.in-Ok.ensures
