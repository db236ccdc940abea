-- What a handle takes, what it stands for takes.
use Rattle.std.proofs.Common.{◌≡◌, length, refl, sym, ◌∙◌, subst, arith}
use Rattle.std.proofs.lemmas.Option.{slice_get_read, slice_get_within, same_Some}
use Rattle.rpki_paths.specs.Cert.{Cert}
use Rattle.rpki_paths.specs.Pairing.{Crl, IsPair, HasCrl}
use Rattle.rpki_paths.specs.Taking.{left_of}
use Rattle.rpki_paths.proofs.Mapping.{map-first, map-none, same-pair}
use Rattle.rpki_paths.proofs.Sorts.{cheap-one}
use Rattle.rpki_paths.proofs.sorting.listed.Goals as goal

pub returns-in-None-clause-none : goal.returns-in-None-clause-none
returns-in-None-clause-none g c =
    let same = same-pair g.C.Certificate.cert g.C.CarriedCert.crl g.C.Seeks.sought g.C.Seeks.held
    g.C.Seeks.verdict (λ (d : Cert). d.ski) (λ (l : Crl). l.aki) (λ d l. l.verifies d.key)
    g.met.C.CarriedCert.seeks_ski g.met.C.CarriedCert.holds_aki
    g.met.C.CarriedCert.verdict_is_crl in
    map-none g.C.Certificate.cert g.C.CarriedCert.crl
    (IsPair g.C.Seeks.sought g.C.Seeks.held g.C.Seeks.verdict) HasCrl same c.args.cert.now
    (left_of c.args.taken.now c.args.crls.now) c.in-None.ensures.none

pub returns-in-Some-clause-some : goal.returns-in-Some-clause-some
returns-in-Some-clause-some g c =
    let same = same-pair g.C.Certificate.cert g.C.CarriedCert.crl g.C.Seeks.sought g.C.Seeks.held
    g.C.Seeks.verdict (λ (d : Cert). d.ski) (λ (l : Crl). l.aki) (λ d l. l.verifies d.key)
    g.met.C.CarriedCert.seeks_ski g.met.C.CarriedCert.holds_aki
    g.met.C.CarriedCert.verdict_is_crl in
    let crls = c.args.crls.now in
    let place = c.in-Some.place in
    let t = c.in-Some.ensures.first in
    let at_place = slice_get_read crls (length crls) place c.index-crls-place.result refl
    (slice_get_within crls place t.0 t.1) c.index-crls-place.is in
    let is : c.index-crls-place.result ≡ t.0 = same_Some _ _ (sym at_place ∙ t.1) in
    let one = map-first g.C.Certificate.cert g.C.CarriedCert.crl
    (IsPair g.C.Seeks.sought g.C.Seeks.held g.C.Seeks.verdict) HasCrl same
    c.args.cert.now t.4 in (
      g.C.CarriedCert.crl t.0,
      subst (λ l. g.C.Certificate.cert c.with_crl.result
          ≡ record (g.C.Certificate.cert c.args.cert.now)
          { revokes = (g.C.CarriedCert.crl l).serials }) is c.with_crl.ensures.cert,
      one,
    )

pub returns-in-None-clause-cost : goal.returns-in-None-clause-cost
returns-in-None-clause-cost g c = λ all.
    (let one = c.in-None.ensures.cost (cheap-one g.C.Certificate.cert g.C.CarriedCert.crl
    g.C.Seeks.sought g.C.Seeks.held g.C.Seeks.verdict (λ (d : Cert). d.ski) (λ (l : Crl). l.aki)
    (λ d l. l.verifies d.key) g.met.C.CarriedCert.seeks_ski g.met.C.CarriedCert.holds_aki
    g.met.C.CarriedCert.verdict_is_crl c.args.cert.now c.args.taken.now c.args.crls.now all) in
    omega (arith, one, g.met.C.CarriedCert.one_verdict))

pub returns-in-Some-clause-cost : goal.returns-in-Some-clause-cost
returns-in-Some-clause-cost g c = λ all.
    (let one = c.in-Some.ensures.cost (cheap-one g.C.Certificate.cert g.C.CarriedCert.crl
    g.C.Seeks.sought g.C.Seeks.held g.C.Seeks.verdict (λ (d : Cert). d.ski) (λ (l : Crl). l.aki)
    (λ d l. l.verifies d.key) g.met.C.CarriedCert.seeks_ski g.met.C.CarriedCert.holds_aki
    g.met.C.CarriedCert.verdict_is_crl c.args.cert.now c.args.taken.now c.args.crls.now all) in
    omega (arith, one, g.met.C.CarriedCert.one_verdict))
