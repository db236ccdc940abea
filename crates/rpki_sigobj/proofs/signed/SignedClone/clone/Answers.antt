use Rattle.rpki_sigobj.proofs.signed.SignedClone.clone.Goals as goal

pub invariant_of-result : goal.invariant_of-result
invariant_of-result g c =
    rw (
      c.in_ok-object.ensures.cases,
      g.met.T.Content.copies c.self.inside.content c.in-Ok.content c.in-Ok.ensures.cases,
    )
    c.self.invariant
