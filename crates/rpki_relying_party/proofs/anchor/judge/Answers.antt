use Rattle.std.proofs.Common.{rules}
use Rattle.rpki_certs.specs.Issuer.{BeginsWithCert}
use Rattle.rpki_relying_party.specs.Anchors.{HasKey}
use Rattle.rpki_relying_party.specs.Passes.{setting}
use Rattle.rpki_relying_party.proofs.Anchoring.{judged-good}
use Rattle.rpki_relying_party.proofs.anchor.judge.Goals as goal

pub returns-in-Ok : goal.returns-in-Ok
returns-in-Ok g c =
    let has : BeginsWithCert c.args.octets (HasKey c.args.tal.now.key) = search rules in
    judged-good (setting g.R.Repository.finds g.C.Crypto.digest_of g.C.Crypto.is_signed
    c.args.pass.now) c.args.tal.now.key c.args.octets has c.in-Ok.anchor c.in-Ok.ensures
