-- The certificates so far are sorted, and each CA among them cost one verdict.
use Rattle.std.proofs.Common.{◌≡◌, ◌≤◌, ◌+◌, length, map, take}
use Rattle.rpki_paths.specs.Cert.{Cert}
use Rattle.rpki_paths.specs.Heads.{AreFrom}
use Rattle.rpki_paths.specs.Pairing.{Crl}
use Rattle.rpki_paths.specs.Taking.{left_of, AllVerifyEach}
use Rattle.rpki_paths.specs.Sorting.{AreSorted, cas_of}
use Rattle.rpki_paths.proofs.sorting.sort_each.Given as goal

abbrev pub invariant-loop-i : goal.invariant-loop-i
invariant-loop-i g l =
    (length l.taken ≡ length l.crls)
    × AreSorted g.X.Candidate.is_good g.X.Candidate.seen g.X.Candidate.of_ca g.C.Certificate.cert
    (take l.i l.certs) (map g.C.CarriedCert.crl l.crls) l.sorted.ees.items l.sorted.cas.items
    (map g.C.CarriedCert.crl (left_of l.taken l.crls))
    × (AllVerifyEach (λ (d : Cert). d.ski) (λ (k : Crl). k.aki) (λ d k. k.verifies d.key)
    (map g.X.Candidate.seen (cas_of g.X.Candidate.of_ca l.certs))
    (map g.C.CarriedCert.crl l.crls) →
    l.asked ≤ l.fn.asked + length (cas_of g.X.Candidate.of_ca (take l.i l.certs)))
    × AreFrom g.X.Candidate.admits g.C.CarriedCert.same l.certs l.sorted.ees.items
    × AreFrom g.X.Candidate.admits g.C.CarriedCert.same l.certs l.sorted.cas.items
