-- At the start nothing is sorted.
use Rattle.std.proofs.Common.{◌≡◌, length, map, ap, ◌∙◌}
use Rattle.std.proofs.lemmas.List.{length-replicate}
use Rattle.rpki_paths.specs.Heads.{IsFrom}
use Rattle.rpki_paths.specs.Taking.{left_of}
use Rattle.rpki_paths.proofs.Heads.{all-none}
use Rattle.rpki_paths.proofs.PairingOff.{left-all}
use Rattle.rpki_paths.proofs.Sorts.{sorted-start}
use Rattle.rpki_paths.proofs.sorting.sort.Goals as goal

pub sort_each-requires-clause-as_many : goal.sort_each-requires-clause-as_many
sort_each-requires-clause-as_many g c =
    ap length (c.deref_mut.ensures.value
    ∙ c.in_ok-taken.ensures.items_if_clones_equal (λ y e. e))
    ∙ length-replicate (length c.args.crls.now) _

pub sort_each-requires-clause-start : goal.sort_each-requires-clause-start
sort_each-requires-clause-start g c =
    let crl = g.C.CarriedCert.crl in
    let crls = c.args.crls.now in
    let all : left_of c.deref_mut.result.now crls ≡ crls =
    ap (λ m. left_of m crls) (c.deref_mut.ensures.value
    ∙ c.in_ok-taken.ensures.items_if_clones_equal (λ y e. e)) ∙ left-all crls in
    sorted-start g.X.Candidate.is_good g.X.Candidate.seen g.X.Candidate.of_ca
    g.C.Certificate.cert (map crl crls) (map crl (left_of c.deref_mut.result.now crls))
    _ _ c.new.ensures.items c.new-2.ensures.items (ap (map crl) all)

pub sort_each-requires-clause-from_ees : goal.sort_each-requires-clause-from_ees
sort_each-requires-clause-from_ees g c =
    all-none (λ h. IsFrom g.X.Candidate.admits g.C.CarriedCert.same c.args.certs.now h) _
    c.new.ensures.items

pub sort_each-requires-clause-from_cas : goal.sort_each-requires-clause-from_cas
sort_each-requires-clause-from_cas g c =
    all-none (λ h. IsFrom g.X.Candidate.admits g.C.CarriedCert.same c.args.certs.now h) _
    c.new-2.ensures.items
