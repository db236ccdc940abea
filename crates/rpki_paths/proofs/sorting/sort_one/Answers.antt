-- One of a CA, with the first revocation list that fits, comes after the others.
use Rattle.std.proofs.Common.{◌≡◌, ◌∷◌, [], map, sym, ap, ◌∙◌, subst, cond, length, arith}
use Rattle.rpki_paths.specs.Cert.{Cert}
use Rattle.rpki_paths.specs.Pairing.{Crl, HasCrl}
use Rattle.rpki_paths.specs.Taking.{AllVerify, IsFirst, left_of}
use Rattle.rpki_paths.proofs.Sorts.{sorted-ca}
use Rattle.rpki_paths.proofs.sorting.sort_one.Goals as goal

pub returns-in_ok-append-in-Some-clause-sorted : goal.returns-in_ok-append-in-Some-clause-sorted
returns-in_ok-append-in-Some-clause-sorted g c = λ done all s.
    (let crl = g.C.CarriedCert.crl in
    let x = c.args.candidate.now in
    let t = c.in-Some.ensures.some in
    let seen = c.in-Ok.ensures.seen in
    let is = subst (λ (d : Cert). g.C.Certificate.cert c.in-Some.ca
    ≡ record d { revokes = t.0.serials }) seen t.1 in
    let first = subst (λ (d : Cert). IsFirst (HasCrl d) t.0
    (map crl (left_of c.listed.new.taken c.args.crls.now))
    (map crl (left_of c.args.taken.now c.args.crls.now))) seen t.2 in
    rw c.in_ok-append-in-Some.ensures
    (sorted-ca g.X.Candidate.is_good g.X.Candidate.seen g.X.Candidate.of_ca
    g.C.Certificate.cert done all c.args.sorted.now.ees.items c.args.sorted.now.cas.items
    (map crl (left_of c.args.taken.now c.args.crls.now))
    (map crl (left_of c.listed.new.taken c.args.crls.now)) x c.in-Some.ca t.0 s
    c.in-Ok.ensures.good (sym c.is_of_ca.ensures ∙ c.if-not-is_of_ca.false) is first))

pub returns-in_ok-append-in-Some-clause-cost : goal.returns-in_ok-append-in-Some-clause-cost
returns-in_ok-append-in-Some-clause-cost g c = λ all.
    (let x = c.args.candidate.now in
    let is_ca = sym c.is_of_ca.ensures ∙ c.if-not-is_of_ca.false in
    let seen = c.in-Ok.ensures.seen in
    let one = c.in-Some.ensures.cost (subst (λ z. AllVerify (λ (d : Cert). d.ski)
    (λ (l : Crl). l.aki) (λ d l. l.verifies d.key) z
    (map g.C.CarriedCert.crl c.args.crls.now)) (sym seen) (all is_ca)) in
    let many = ap (λ t. length (cond t (x ∷ []) [])) is_ca in
    omega (arith, one, many))
