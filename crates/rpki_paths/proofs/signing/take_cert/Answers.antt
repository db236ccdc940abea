-- What a handle takes, what it stands for takes.
use Rattle.std.proofs.Common.{◌≡◌, length, refl, sym, ◌∙◌, subst, arith, map}
use Rattle.std.proofs.lemmas.Option.{slice_get_read, slice_get_within, same_Some}
use Rattle.rpki_paths.specs.Cert.{Cert}
use Rattle.rpki_paths.specs.Pairing.{Signer, IsPair, IsVerifiedBy}
use Rattle.rpki_paths.specs.Taking.{IsFirst, left_of}
use Rattle.rpki_paths.proofs.Mapping.{map-first, map-none, same-pair}
use Rattle.rpki_paths.proofs.Sorts.{cheap-one}
use Rattle.rpki_paths.proofs.Walking.{get-in}
use Rattle.rpki_paths.proofs.signing.take_cert.Goals as goal

pub returns-in-None-clause-none : goal.returns-in-None-clause-none
returns-in-None-clause-none g c =
    let same = same-pair g.S.CarriedSigner.signer g.C.Certificate.cert g.S.Seeks.sought
    g.S.Seeks.held g.S.Seeks.verdict (λ (s : Signer). s.sid) (λ (e : Cert). e.ski)
    (λ s e. s.verifies e.key) g.met.S.CarriedSigner.seeks_sid g.met.S.CarriedSigner.holds_ski
    g.met.S.CarriedSigner.verdict_is_own in
    map-none g.S.CarriedSigner.signer g.C.Certificate.cert
    (IsPair g.S.Seeks.sought g.S.Seeks.held g.S.Seeks.verdict) IsVerifiedBy same
    c.args.signer.now (left_of c.args.taken.now c.args.ees.now) c.in-None.ensures.none

pub returns-in-Some-clause-some : goal.returns-in-Some-clause-some
returns-in-Some-clause-some g c =
    let same = same-pair g.S.CarriedSigner.signer g.C.Certificate.cert g.S.Seeks.sought
    g.S.Seeks.held g.S.Seeks.verdict (λ (s : Signer). s.sid) (λ (e : Cert). e.ski)
    (λ s e. s.verifies e.key) g.met.S.CarriedSigner.seeks_sid g.met.S.CarriedSigner.holds_ski
    g.met.S.CarriedSigner.verdict_is_own in
    let ees = c.args.ees.now in
    let place = c.in-Some.place in
    let t = c.in-Some.ensures.first in
    let at_place = slice_get_read ees (length ees) place c.index-ees-place.result refl
    (slice_get_within ees place t.0 t.1) c.index-ees-place.is in
    let is : t.0 ≡ c.index-ees-place.result = same_Some _ _ (sym t.1 ∙ at_place) in
    let cert = g.C.Certificate.cert in
    subst (λ e. IsFirst (IsVerifiedBy (g.S.CarriedSigner.signer c.args.signer.now)) (cert e)
    (map cert (left_of c.take_first.new.taken ees)) (map cert (left_of c.args.taken.now ees))) is
    (map-first g.S.CarriedSigner.signer cert
    (IsPair g.S.Seeks.sought g.S.Seeks.held g.S.Seeks.verdict) IsVerifiedBy same
    c.args.signer.now t.4)

pub returns-in-None-clause-cost : goal.returns-in-None-clause-cost
returns-in-None-clause-cost g c = λ all.
    (let one = c.in-None.ensures.cost (cheap-one g.S.CarriedSigner.signer g.C.Certificate.cert
    g.S.Seeks.sought g.S.Seeks.held g.S.Seeks.verdict (λ (s : Signer). s.sid)
    (λ (e : Cert). e.ski) (λ s e. s.verifies e.key) g.met.S.CarriedSigner.seeks_sid
    g.met.S.CarriedSigner.holds_ski g.met.S.CarriedSigner.verdict_is_own c.args.signer.now
    c.args.taken.now c.args.ees.now all) in
    omega (arith, one, g.met.S.CarriedSigner.one_verdict))

pub returns-in-Some-clause-cost : goal.returns-in-Some-clause-cost
returns-in-Some-clause-cost g c = λ all.
    (let one = c.in-Some.ensures.cost (cheap-one g.S.CarriedSigner.signer g.C.Certificate.cert
    g.S.Seeks.sought g.S.Seeks.held g.S.Seeks.verdict (λ (s : Signer). s.sid)
    (λ (e : Cert). e.ski) (λ s e. s.verifies e.key) g.met.S.CarriedSigner.seeks_sid
    g.met.S.CarriedSigner.holds_ski g.met.S.CarriedSigner.verdict_is_own c.args.signer.now
    c.args.taken.now c.args.ees.now all) in
    omega (arith, one, g.met.S.CarriedSigner.one_verdict))

pub returns-in-Some-clause-among : goal.returns-in-Some-clause-among
returns-in-Some-clause-among g c =
    let ees = c.args.ees.now in
    let t = c.in-Some.ensures.first in
    get-in ees c.in-Some.place c.index-ees-place.result
    (slice_get_read ees (length ees) c.in-Some.place c.index-ees-place.result refl
    (slice_get_within ees c.in-Some.place t.0 t.1) c.index-ees-place.is)
