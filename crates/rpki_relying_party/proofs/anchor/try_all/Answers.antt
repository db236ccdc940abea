use Rattle.std.proofs.lemmas.Result.{IfOk-weaker}
use Rattle.rpki_tal.specs.Uri.{https_first}
use Rattle.rpki_relying_party.specs.Anchors.{IsTried, candidates}
use Rattle.rpki_relying_party.specs.Passes.{setting}
use Rattle.rpki_relying_party.proofs.Anchoring.{in-order}
use Rattle.rpki_relying_party.proofs.anchor.try_all.Goals as goal

pub returns : goal.returns
returns g c =
    let s = setting g.R.Repository.finds g.C.Crypto.digest_of g.C.Crypto.is_signed
    c.args.pass.now in
    let tal = c.args.tal.now in
    let new = c.prefer_https.new.self in
    IfOk-weaker c.try_in_order.result (IsTried s new.key (candidates new.uris))
    (IsTried s tal.key (candidates (https_first tal.uris)))
    (λ r h. in-order s tal c.in_ok-ordered.ordered new r c.in_ok-ordered.ensures.cases
    c.in_ok-prefer_https.ensures.ordered h) c.try_in_order.ensures
