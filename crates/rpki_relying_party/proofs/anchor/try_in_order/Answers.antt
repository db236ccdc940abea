-- One URI more is tried.
use Rattle.std.proofs.Common.{Iter, ap, ◌∙◌, subst, Ok}
use Rattle.std.proofs.lemmas.List.{nil_from_length}
use Rattle.std.specs.Slice.Iter.{iter_rest}
use Rattle.rpki_tal.specs.declared.uri.TalUri.{TalUri}
use Rattle.rpki_relying_party.specs.Anchors.{IsTried, candidates_at}
use Rattle.rpki_relying_party.specs.Passes.{setting}
use Rattle.rpki_relying_party.proofs.Anchoring.{none-searched, more-searched, good-searched}
use Rattle.rpki_relying_party.proofs.Anchoring.{all-searched}
use Rattle.rpki_relying_party.proofs.anchor.try_in_order.Goals as goal

pub loop-uri-init : goal.loop-uri-init
loop-uri-init g c =
    none-searched (setting g.R.Repository.finds g.C.Crypto.digest_of g.C.Crypto.is_signed
    c.args.pass.now) c.args.tal.now.key c.args.tal.now.uris
    (iter_rest c.into_iter-uri-iterator.result)
    (ap (λ (it : Iter TalUri). iter_rest it) c.into_iter-uri-iterator.ensures.into_iter_gives
    ∙ c.uris-uri-items.ensures)

pub loop-uri-preserved : goal.loop-uri-preserved
loop-uri-preserved g c =
    let s = (setting g.R.Repository.finds g.C.Crypto.digest_of g.C.Crypto.is_signed
    c.args.pass.now) in
    let key = c.args.tal.now.key in
    more-searched s key c.args.tal.now.uris (iter_rest c.loop-uri.uri-iterator) c.loop-uri.fault
    c.loop-uri.invariant (iter_rest c.next.new.self) c.in-Some.uri.now c.in-Some.ensures.steps
    c.in-Err.here c.first_fault-fault.result
    (subst (IsTried s key (candidates_at c.in-Some.uri.now)) c.in-Err.is
    c.in_ok-anchor.ensures) c.first_fault-fault.ensures

pub returns-in-Ok : goal.returns-in-Ok
returns-in-Ok g c =
    let s = (setting g.R.Repository.finds g.C.Crypto.digest_of g.C.Crypto.is_signed
    c.args.pass.now) in
    let key = c.args.tal.now.key in
    good-searched s key c.args.tal.now.uris (iter_rest c.loop-uri.uri-iterator) c.loop-uri.fault
    c.loop-uri.invariant (iter_rest c.next.new.self) c.in-Some.uri.now c.in-Some.ensures.steps
    c.in-Ok.anchor
    (subst (IsTried s key (candidates_at c.in-Some.uri.now)) c.in-Ok.is c.in_ok-anchor.ensures)

pub returns : goal.returns
returns g c =
    all-searched (setting g.R.Repository.finds g.C.Crypto.digest_of g.C.Crypto.is_signed
    c.args.pass.now) c.args.tal.now.key c.args.tal.now.uris
    (iter_rest c.loop-uri.uri-iterator) c.loop-uri.fault c.loop-uri.invariant
    (nil_from_length (iter_rest c.loop-uri.uri-iterator) c.in-None.ensures.steps.0)
