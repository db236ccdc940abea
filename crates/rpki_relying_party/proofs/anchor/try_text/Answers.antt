use Rattle.std.proofs.Common.{◌∷◌, [], subst}
use Rattle.std.proofs.lemmas.Result.{IfOk-weaker}
use Rattle.rpki_relying_party.specs.Anchors.{FindsFor, IsJudged, IsTried}
use Rattle.rpki_relying_party.specs.Passes.{setting}
use Rattle.rpki_relying_party.proofs.Anchoring.{tried-missing, tried-octets}
use Rattle.rpki_relying_party.proofs.anchor.try_text.Goals as goal

pub returns-in-Err : goal.returns-in-Err
returns-in-Err g c =
    tried-missing (setting g.R.Repository.finds g.C.Crypto.digest_of g.C.Crypto.is_signed
    c.args.pass.now) c.args.tal.now.key c.args.text.now c.in-Err.why
    (subst (FindsFor (g.R.Repository.finds c.args.pass.now.copy.now) c.args.text.now) c.in-Err.is
    c.in_ok-why.ensures)

pub returns-in-Ok : goal.returns-in-Ok
returns-in-Ok g c =
    let s = (setting g.R.Repository.finds g.C.Crypto.digest_of g.C.Crypto.is_signed
    c.args.pass.now) in
    let key = c.args.tal.now.key in
    let found = subst (FindsFor s.finds c.args.text.now) c.in-Ok.is c.in_ok-why.ensures in
    IfOk-weaker c.judge.result (IsJudged s key c.in-Ok.octets)
    (IsTried s key (c.args.text.now ∷ []))
    (tried-octets s key c.args.text.now c.in-Ok.octets found) c.judge.ensures
