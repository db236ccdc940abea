-- What is sorted, taken and walked is accepted, and each refusal has its cause.
use Rattle.std.proofs.Common.{◌≤◌, ◌+◌, ◌*◌, length, map, refl, sym, ap, ◌∙◌, subst, arith}
use Rattle.std.proofs.lemmas.List.{length-map}
use Rattle.rpki_paths.specs.Accepting.{WhyNot, carried_of}
use Rattle.rpki_paths.specs.Cert.{Cert}
use Rattle.rpki_paths.specs.Kept.{AreWalked, AreRefused}
use Rattle.rpki_paths.specs.Pairing.{HasKey, HasCrl, IsVerifiedBy, Signer}
use Rattle.rpki_paths.specs.Path.{IsDistinct}
use Rattle.rpki_paths.specs.Taking.{AllVerifyEach}
use Rattle.rpki_paths.specs.Walk.{placed}
use Rattle.rpki_paths.proofs.Accepting.{all-taken, all-valid, few-asked, have-taken, placed-listed}
use Rattle.rpki_paths.proofs.Accepting.{signed-cause, signed-stops, some-left, sorted-cause}
use Rattle.rpki_paths.proofs.Accepting.{taken-matches, taken-whole, where-seen}
use Rattle.rpki_paths.proofs.Heads.{heads-from}
use Rattle.rpki_paths.proofs.Sorts.{cas-many, ees-many}
use Rattle.rpki_paths.proofs.acceptance.accept.Goals as goal

pub returns-in-Err-clause-refused : goal.returns-in-Err-clause-refused
returns-in-Err-clause-refused g c =
    let cert = g.C.Certificate.cert in
    let seen = g.X.Candidate.seen in
    let of_ca = g.X.Candidate.of_ca in
    let good = g.X.Candidate.is_good in
    let crl = g.C.CarriedCert.crl in
    let signer = g.S.CarriedSigner.signer in
    let certs = c.args.a.now.certs.now in
    let crls = c.args.a.now.crls.now in
    let keys = c.args.a.now.subject_keys.now in
    let signers = c.args.a.now.signers.now in
    let a = carried_of seen of_ca signer crl c.args.a.now in
    subst (λ f. WhyNot good g.X.Candidate.because seen of_ca certs a f) (sym c.of_certs.ensures)
    (sorted-cause good g.X.Candidate.because seen of_ca certs a c.in-Err.fault
    c.in-Err.ensures.refused)

pub returns-in-Err-take_signers-clause-refused : goal.returns-in-Err-take_signers-clause-refused
returns-in-Err-take_signers-clause-refused g c =
    let cert = g.C.Certificate.cert in
    let seen = g.X.Candidate.seen in
    let of_ca = g.X.Candidate.of_ca in
    let good = g.X.Candidate.is_good in
    let crl = g.C.CarriedCert.crl in
    let signer = g.S.CarriedSigner.signer in
    let certs = c.args.a.now.certs.now in
    let crls = c.args.a.now.crls.now in
    let keys = c.args.a.now.subject_keys.now in
    let signers = c.args.a.now.signers.now in
    let a = carried_of seen of_ca signer crl c.args.a.now in
    let s = c.in-Ok.ensures.sorted in
    let ees = c.in-Ok.sorted.ees.items in
    let cas = c.in-Ok.sorted.cas.items in
    subst (λ f. WhyNot good g.X.Candidate.because seen of_ca certs a f) (sym c.of_signers.ensures)
    (signed-cause good g.X.Candidate.because seen of_ca certs a s.1.taken s.0 s.1.passed
    c.in-Err-take_signers.fault
    (signed-stops seen of_ca cert certs a c.as_slice-seen_ees.result.now ees
    c.in-Err-take_signers.fault refl s.1.of_ees c.as_slice-seen_ees.ensures.value
    c.in-Err-take_signers.ensures.refused))

pub returns-then-signers-keys-clause-refused : goal.returns-then-signers-keys-clause-refused
returns-then-signers-keys-clause-refused g c =
    let cert = g.C.Certificate.cert in
    let seen = g.X.Candidate.seen in
    let of_ca = g.X.Candidate.of_ca in
    let good = g.X.Candidate.is_good in
    let crl = g.C.CarriedCert.crl in
    let signer = g.S.CarriedSigner.signer in
    let certs = c.args.a.now.certs.now in
    let crls = c.args.a.now.crls.now in
    let keys = c.args.a.now.subject_keys.now in
    let signers = c.args.a.now.signers.now in
    let a = carried_of seen of_ca signer crl c.args.a.now in
    let s = c.in-Ok.ensures.sorted in
    let ees = c.in-Ok.sorted.ees.items in
    let cas = c.in-Ok.sorted.cas.items in
    let w = c.in-Ok-take_signers.ensures.signed in
    let taken = map cert c.in-Ok-take_signers.taken.items in
    let have = have-taken good seen of_ca cert certs a ees cas c.as_slice-seen_ees.result.now s.0
    taken w.0 w.1 refl s.1 c.as_slice-seen_ees.ensures.value w.2 in
    let many_signers = length-map signers signer in (
      taken,
      s.1.taken,
      w.0,
      s.0,
      w.1,
      have,
      some-left HasKey (map signer signers) have.signed.taken_keys keys w.0 have.signed.keyed
          (omega (arith, many_signers, c.if-signers-keys.true)),
    )

pub returns-then-seen_cas-crls-clause-refused : goal.returns-then-seen_cas-crls-clause-refused
returns-then-seen_cas-crls-clause-refused g c =
    let cert = g.C.Certificate.cert in
    let seen = g.X.Candidate.seen in
    let of_ca = g.X.Candidate.of_ca in
    let good = g.X.Candidate.is_good in
    let crl = g.C.CarriedCert.crl in
    let signer = g.S.CarriedSigner.signer in
    let certs = c.args.a.now.certs.now in
    let crls = c.args.a.now.crls.now in
    let keys = c.args.a.now.subject_keys.now in
    let signers = c.args.a.now.signers.now in
    let a = carried_of seen of_ca signer crl c.args.a.now in
    let s = c.in-Ok.ensures.sorted in
    let ees = c.in-Ok.sorted.ees.items in
    let cas = c.in-Ok.sorted.cas.items in
    let w = c.in-Ok-take_signers.ensures.signed in
    let taken = map cert c.in-Ok-take_signers.taken.items in
    let have = have-taken good seen of_ca cert certs a ees cas c.as_slice-seen_ees.result.now s.0
    taken w.0 w.1 refl s.1 c.as_slice-seen_ees.ensures.value w.2 in
    let many_signers = length-map signers signer in
    let many_crls = length-map crls crl in
    let many_cas = cas-many good seen of_ca cert certs (map crl crls) ees cas s.0 s.1 in
    let seen_cas = ap length c.as_slice-seen_cas.ensures.value in
    let no_keys = all-taken HasKey (map signer signers) have.signed.taken_keys keys w.0
    have.signed.keyed (omega (arith, many_signers, c.if-signers-keys.false)) in (
      taken,
      s.1.taken,
      w.0,
      s.0,
      w.1,
      have,
      (
        no_keys,
        some-left HasCrl a.cas s.1.taken (map crl crls) s.0 s.1.passed.pairs
            (omega (arith, many_crls, many_cas, seen_cas, c.if-seen_cas-crls.true)),
      ),
    )

pub returns-then-signers-seen_ees-clause-refused :
    goal.returns-then-signers-seen_ees-clause-refused
returns-then-signers-seen_ees-clause-refused g c =
    let cert = g.C.Certificate.cert in
    let seen = g.X.Candidate.seen in
    let of_ca = g.X.Candidate.of_ca in
    let good = g.X.Candidate.is_good in
    let crl = g.C.CarriedCert.crl in
    let signer = g.S.CarriedSigner.signer in
    let certs = c.args.a.now.certs.now in
    let crls = c.args.a.now.crls.now in
    let keys = c.args.a.now.subject_keys.now in
    let signers = c.args.a.now.signers.now in
    let a = carried_of seen of_ca signer crl c.args.a.now in
    let s = c.in-Ok.ensures.sorted in
    let ees = c.in-Ok.sorted.ees.items in
    let cas = c.in-Ok.sorted.cas.items in
    let w = c.in-Ok-take_signers.ensures.signed in
    let taken = map cert c.in-Ok-take_signers.taken.items in
    let have = have-taken good seen of_ca cert certs a ees cas c.as_slice-seen_ees.result.now s.0
    taken w.0 w.1 refl s.1 c.as_slice-seen_ees.ensures.value w.2 in
    let many_signers = length-map signers signer in
    let many_crls = length-map crls crl in
    let many_cas = cas-many good seen of_ca cert certs (map crl crls) ees cas s.0 s.1 in
    let seen_cas = ap length c.as_slice-seen_cas.ensures.value in
    let many_ees = ees-many good seen of_ca cert certs (map crl crls) ees cas s.0 s.1 in
    let seen_ees = ap length c.as_slice-seen_ees.ensures.value in
    let no_keys = all-taken HasKey (map signer signers) have.signed.taken_keys keys w.0
    have.signed.keyed (omega (arith, many_signers, c.if-signers-keys.false)) in
    let no_crls = all-taken HasCrl a.cas s.1.taken (map crl crls) s.0 s.1.passed.pairs
    (omega (arith, many_crls, many_cas, seen_cas, c.if-seen_cas-crls.false)) in (
      taken,
      s.1.taken,
      w.0,
      s.0,
      w.1,
      have,
      (
        no_keys,
        no_crls,
        some-left IsVerifiedBy (map signer signers) taken a.ees w.1 have.signed.signed
            (omega (arith, many_signers, many_ees, seen_ees, c.if-signers-seen_ees.true)),
      ),
    )

pub returns-in-Ok-walk_each-clause-good : goal.returns-in-Ok-walk_each-clause-good
returns-in-Ok-walk_each-clause-good g c = c.in-Ok.ensures.sorted.1.passed.all_good

pub returns-in-Ok-walk_each-clause-accepted : goal.returns-in-Ok-walk_each-clause-accepted
returns-in-Ok-walk_each-clause-accepted g c =
    let cert = g.C.Certificate.cert in
    let seen = g.X.Candidate.seen in
    let of_ca = g.X.Candidate.of_ca in
    let good = g.X.Candidate.is_good in
    let crl = g.C.CarriedCert.crl in
    let signer = g.S.CarriedSigner.signer in
    let certs = c.args.a.now.certs.now in
    let crls = c.args.a.now.crls.now in
    let keys = c.args.a.now.subject_keys.now in
    let signers = c.args.a.now.signers.now in
    let a = carried_of seen of_ca signer crl c.args.a.now in
    let s = c.in-Ok.ensures.sorted in
    let ees = c.in-Ok.sorted.ees.items in
    let cas = c.in-Ok.sorted.cas.items in
    let w = c.in-Ok-take_signers.ensures.signed in
    let taken = map cert c.in-Ok-take_signers.taken.items in
    let have = have-taken good seen of_ca cert certs a ees cas c.as_slice-seen_ees.result.now s.0
    taken w.0 w.1 refl s.1 c.as_slice-seen_ees.ensures.value w.2 in
    let many_signers = length-map signers signer in
    let many_crls = length-map crls crl in
    let many_cas = cas-many good seen of_ca cert certs (map crl crls) ees cas s.0 s.1 in
    let seen_cas = ap length c.as_slice-seen_cas.ensures.value in
    let many_ees = ees-many good seen of_ca cert certs (map crl crls) ees cas s.0 s.1 in
    let seen_ees = ap length c.as_slice-seen_ees.ensures.value in
    let no_keys = all-taken HasKey (map signer signers) have.signed.taken_keys keys w.0
    have.signed.keyed (omega (arith, many_signers, c.if-signers-keys.false)) in
    let no_crls = all-taken HasCrl a.cas s.1.taken (map crl crls) s.0 s.1.passed.pairs
    (omega (arith, many_crls, many_cas, seen_cas, c.if-seen_cas-crls.false)) in
    let no_ees = all-taken IsVerifiedBy (map signer signers) taken a.ees w.1 have.signed.signed
    (omega (arith, many_signers, many_ees, seen_ees, c.if-signers-seen_ees.false)) in
    let whole = taken-whole good seen of_ca certs a taken s.1.taken w.0 s.0 w.1 have no_keys
    no_crls no_ees in
    let listed = placed-listed cert 1 cas a.cas s.1.taken s.1.of_cas in
    record {
      ees = taken;
      crls = s.1.taken;
      valid = all-valid good seen of_ca certs a refl refl g.X.Candidate.good_is_valid
          s.1.passed.all_good;
      paired = taken-matches good seen of_ca certs a taken s.1.taken refl whole;
      walked = where-seen cert (λ ds es. AreWalked cert ds es c.in-Ok-walk_each.paths.items) listed
          c.as_slice-seen_cas.ensures.value c.as_slice-seen_taken.ensures.value
          c.in-Ok-walk_each.ensures.paths;
    }

pub returns-in-Ok-walk_each-clause-heads : goal.returns-in-Ok-walk_each-clause-heads
returns-in-Ok-walk_each-clause-heads g c =
    heads-from g.X.Candidate.admits g.C.CarriedCert.same c.args.a.now.certs.now
    c.in-Ok.sorted.ees.items c.in-Ok.sorted.cas.items c.as_slice-seen_ees.result.now
    c.as_slice-seen_cas.result.now c.in-Ok-take_signers.taken.items
    c.as_slice-seen_taken.result.now c.in-Ok-walk_each.paths.items
    c.as_slice-seen_ees.ensures.value c.as_slice-seen_cas.ensures.value
    c.as_slice-seen_taken.ensures.value c.in-Ok.ensures.from_ees c.in-Ok.ensures.from_cas
    c.in-Ok-take_signers.ensures.among c.in-Ok-walk_each.ensures.heads

pub returns-in-Ok-walk_each-clause-cost : goal.returns-in-Ok-walk_each-clause-cost
returns-in-Ok-walk_each-clause-cost g c = λ dist. (
    let cert = g.C.Certificate.cert in
    let seen = g.X.Candidate.seen in
    let of_ca = g.X.Candidate.of_ca in
    let good = g.X.Candidate.is_good in
    let crl = g.C.CarriedCert.crl in
    let signer = g.S.CarriedSigner.signer in
    let certs = c.args.a.now.certs.now in
    let crls = c.args.a.now.crls.now in
    let keys = c.args.a.now.subject_keys.now in
    let signers = c.args.a.now.signers.now in
    let a = carried_of seen of_ca signer crl c.args.a.now in
    let s = c.in-Ok.ensures.sorted in
    let ees = c.in-Ok.sorted.ees.items in
    let cas = c.in-Ok.sorted.cas.items in
    let w = c.in-Ok-take_signers.ensures.signed in
    let taken = map cert c.in-Ok-take_signers.taken.items in
    let have = have-taken good seen of_ca cert certs a ees cas c.as_slice-seen_ees.result.now s.0
    taken w.0 w.1 refl s.1 c.as_slice-seen_ees.ensures.value w.2 in
    let many_signers = length-map signers signer in
    let many_crls = length-map crls crl in
    let many_cas = cas-many good seen of_ca cert certs (map crl crls) ees cas s.0 s.1 in
    let seen_cas = ap length c.as_slice-seen_cas.ensures.value in
    let many_ees = ees-many good seen of_ca cert certs (map crl crls) ees cas s.0 s.1 in
    let seen_ees = ap length c.as_slice-seen_ees.ensures.value in
    let no_keys = all-taken HasKey (map signer signers) have.signed.taken_keys keys w.0
    have.signed.keyed (omega (arith, many_signers, c.if-signers-keys.false)) in
    let no_crls = all-taken HasCrl a.cas s.1.taken (map crl crls) s.0 s.1.passed.pairs
    (omega (arith, many_crls, many_cas, seen_cas, c.if-seen_cas-crls.false)) in
    let no_ees = all-taken IsVerifiedBy (map signer signers) taken a.ees w.1 have.signed.signed
    (omega (arith, many_signers, many_ees, seen_ees, c.if-signers-seen_ees.false)) in
    let whole = taken-whole good seen of_ca certs a taken s.1.taken w.0 s.0 w.1 have no_keys
    no_crls no_ees in
    let matching = taken-matches good seen of_ca certs a taken s.1.taken refl whole in
    let now = c.walk_each.new.asked in
    let before = c.take_signers.new.asked in
    let handles = c.in-Ok-take_signers.taken.items in
    let of_walks = subst (λ l. IsDistinct (placed cert 1 cas) →
    now ≤ before + length l * length cas) c.as_slice-seen_taken.ensures.value
    (subst (λ l. IsDistinct (placed cert 1 l) →
    now ≤ before + length c.as_slice-seen_taken.result.now * length l)
    c.as_slice-seen_cas.ensures.value c.in-Ok-walk_each.ensures.cost) in
    let as_seen = ap (map cert) c.as_slice-seen_ees.ensures.value ∙ s.1.of_ees in
    few-asked cert a handles cas s.1.taken c.args.asked.now c.sort.new.asked before now dist
    matching s.1.of_cas c.in-Ok.ensures.cost
    (λ each. c.in-Ok-take_signers.ensures.cost
    (subst (λ l. AllVerifyEach (λ (x : Signer). x.sid) (λ (e : Cert). e.ski)
    (λ x e. x.verifies e.key) (map signer signers) l) (sym as_seen) each))
    of_walks)

pub returns-clause-refused : goal.returns-clause-refused
returns-clause-refused g c =
    let cert = g.C.Certificate.cert in
    let seen = g.X.Candidate.seen in
    let of_ca = g.X.Candidate.of_ca in
    let good = g.X.Candidate.is_good in
    let crl = g.C.CarriedCert.crl in
    let signer = g.S.CarriedSigner.signer in
    let certs = c.args.a.now.certs.now in
    let crls = c.args.a.now.crls.now in
    let keys = c.args.a.now.subject_keys.now in
    let signers = c.args.a.now.signers.now in
    let a = carried_of seen of_ca signer crl c.args.a.now in
    let s = c.in-Ok.ensures.sorted in
    let ees = c.in-Ok.sorted.ees.items in
    let cas = c.in-Ok.sorted.cas.items in
    let w = c.in-Ok-take_signers.ensures.signed in
    let taken = map cert c.in-Ok-take_signers.taken.items in
    let have = have-taken good seen of_ca cert certs a ees cas c.as_slice-seen_ees.result.now s.0
    taken w.0 w.1 refl s.1 c.as_slice-seen_ees.ensures.value w.2 in
    let many_signers = length-map signers signer in
    let many_crls = length-map crls crl in
    let many_cas = cas-many good seen of_ca cert certs (map crl crls) ees cas s.0 s.1 in
    let seen_cas = ap length c.as_slice-seen_cas.ensures.value in
    let many_ees = ees-many good seen of_ca cert certs (map crl crls) ees cas s.0 s.1 in
    let seen_ees = ap length c.as_slice-seen_ees.ensures.value in
    let no_keys = all-taken HasKey (map signer signers) have.signed.taken_keys keys w.0
    have.signed.keyed (omega (arith, many_signers, c.if-signers-keys.false)) in
    let no_crls = all-taken HasCrl a.cas s.1.taken (map crl crls) s.0 s.1.passed.pairs
    (omega (arith, many_crls, many_cas, seen_cas, c.if-seen_cas-crls.false)) in
    let no_ees = all-taken IsVerifiedBy (map signer signers) taken a.ees w.1 have.signed.signed
    (omega (arith, many_signers, many_ees, seen_ees, c.if-signers-seen_ees.false)) in
    let whole = taken-whole good seen of_ca certs a taken s.1.taken w.0 s.0 w.1 have no_keys
    no_crls no_ees in
    let listed = placed-listed cert 1 cas a.cas s.1.taken s.1.of_cas in (
      taken,
      s.1.taken,
      whole,
      where-seen cert (λ ds es. AreRefused c.in-Err-walk_each.fault ds es) listed
          c.as_slice-seen_cas.ensures.value c.as_slice-seen_taken.ensures.value
          c.in-Err-walk_each.ensures.refused,
    )
