use Rattle.rpki_multi.proofs.attestation.RtaClone.clone.Goals as goal

pub invariant_of-result : goal.invariant_of-result
invariant_of-result c =
    rw (c.in_ok-content.ensures.cases, c.in-Ok.ensures.cases) c.self.invariant
