-- One certificate more is sorted; where it stops, it is not good, or lacks a revocation list.
use Rattle.std.proofs.Common.{◌++◌, ◌∷◌, [], length, map, take}
use Rattle.std.proofs.Common.{refl, sym, ap, ◌∙◌, subst, arith}
use Rattle.std.proofs.lemmas.Option.{slice_get_read}
use Rattle.std.proofs.lemmas.List.{take_more, take_all, length-map}
use Rattle.rpki_paths.specs.Taking.{left_of}
use Rattle.rpki_paths.proofs.PairingOff.{split-at}
use Rattle.rpki_paths.proofs.Walking.{get-in}
use Rattle.rpki_paths.proofs.Mapping.{in-image}
use Rattle.rpki_paths.specs.Sorting.{AreSorted, cas_of}
use Rattle.rpki_paths.proofs.Sorts.{refused-at, in-filter, many-more}
use Rattle.rpki_paths.proofs.sorting.sort_each.Goals as goal

pub loop-i-init : goal.loop-i-init
loop-i-init g c = (
  c.requires.as_many,
  c.requires.start,
  λ each. omega arith,
  c.requires.from_ees,
  c.requires.from_cas,
)

pub loop-i-preserved : goal.loop-i-preserved
loop-i-preserved g c =
    let crl = g.C.CarriedCert.crl in
    let certs = c.args.certs.now in
    let crls = c.args.crls.now in
    let i = c.loop-i.i in
    let x = c.index-certs-i.result in
    let one_more = take_more certs i x c.loop-i-test.true
    ∙ ap (λ z. take i certs ++ z ∷ []) (sym c.index-certs-i.is) in
    let inside = get-in certs i x
    (slice_get_read certs (length certs) i x refl c.loop-i-test.true c.index-certs-i.is) in
    let after = c.in-Ok.ensures.sorted (take i certs) (map crl crls) c.loop-i.invariant.1 in (
      c.in-Ok.ensures.as_many ∙ c.loop-i.invariant.0,
      subst (λ l. AreSorted g.X.Candidate.is_good g.X.Candidate.seen g.X.Candidate.of_ca
          g.C.Certificate.cert l (map crl crls) c.sort_one.new.sorted.ees.items
          c.sort_one.new.sorted.cas.items (map crl (left_of c.sort_one.new.taken crls)))
          (sym one_more) after,
      λ each.
          (let of_ca = g.X.Candidate.of_ca in
          let one = c.in-Ok.ensures.cost (λ e. each (g.X.Candidate.seen x)
          (in-image g.X.Candidate.seen (cas_of of_ca certs) x
          (in-filter of_ca certs x inside e))) in
          let more = ap (λ l. length (cas_of of_ca l)) one_more
          ∙ many-more of_ca (take i certs) x in
          omega (arith, c.loop-i.invariant.2 each, one, more)),
      c.in-Ok.ensures.from_ees certs inside c.loop-i.invariant.3,
      c.in-Ok.ensures.from_cas certs inside c.loop-i.invariant.4,
    )

pub returns-in-Err-clause-refused : goal.returns-in-Err-clause-refused
returns-in-Err-clause-refused g c =
    let crl = g.C.CarriedCert.crl in
    let certs = c.args.certs.now in
    let crls = c.args.crls.now in
    let i = c.loop-i.i in
    let x = c.index-certs-i.result in
    let at_i = slice_get_read certs (length certs) i x refl c.loop-i-test.true
    c.index-certs-i.is in
    let parts = split-at certs i x at_i in
    refused-at g.X.Candidate.is_good g.X.Candidate.seen g.X.Candidate.of_ca
    g.C.Certificate.cert g.X.Candidate.because certs (take i certs) parts.0 x (map crl crls)
    c.loop-i.sorted.ees.items c.loop-i.sorted.cas.items
    (map crl (left_of c.loop-i.taken crls)) c.in-Err.fault c.loop-i.invariant.1
    (sym parts.1) c.in-Err.ensures.refused

pub returns-clause-cost : goal.returns-clause-cost
returns-clause-cost g c = λ each.
    (let of_ca = g.X.Candidate.of_ca in
    let certs = c.args.certs.now in
    let all = take_all c.loop-i.i certs (omega (arith, c.loop-i-test.false)) in
    let many = ap (λ l. length (cas_of of_ca l)) all
    ∙ sym (length-map (cas_of of_ca certs) g.X.Candidate.seen) in
    omega (arith, c.loop-i.invariant.2 each, many))
