use Rattle.rpki_crls.proofs.crl.CrlClone.clone.Goals as goal

pub invariant_of-result : goal.invariant_of-result
invariant_of-result c =
    rw (c.in_ok-captured.ensures.cases, c.in_ok-contents.ensures.cases) c.self.invariant
