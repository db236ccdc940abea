use Rattle.std.proofs.Common.{ap}
use Rattle.std.proofs.lemmas.Bool.Decides.{Decides-at}
use Rattle.rpki_resources.proofs.Sets.Same.{same_blocks}
use Rattle.rpki_resources.specs.Blocks.{holds}
use Rattle.rpki_resources.proofs.Sets.Equality.{lists-decide}
use Rattle.rpki_resources.proofs.blocks.BlocksPartialEq.eq.Goals as goal

pub returns-clause-same : goal.returns-clause-same
returns-clause-same g c =
    rw (← c.self.view_is, ← c.other.view_is)
    (Decides-at c.eq.result _ c.eq.ensures
    (lists-decide g.T.Number.number g.T.PartialEq.eq g.met.T.Number.exact g.met.T.Number.alike
    c.self.inside.items.items c.other.inside.items.items))

pub returns-clause-sets : goal.returns-clause-sets
returns-clause-sets g c =
    let f = g.T.Number.number in
    let d = Decides-at c.eq.result _ c.eq.ensures
    (lists-decide f g.T.PartialEq.eq g.met.T.Number.exact g.met.T.Number.alike
    c.self.inside.items.items c.other.inside.items.items) in
    rw (← c.self.view_is, ← c.other.view_is) (
      (λ t n. ap (λ xs. holds f xs n) (d.0 t)),
      (λ s. d.1 (same_blocks f g.met.T.Number.exact 0 0 c.self.inside.items.items
          c.other.inside.items.items c.self.invariant.0 c.other.invariant.0 s)),
    )
