-- The IPv4 addresses of one path more are kept.
use Rattle.rpki_faults.specs.declared.family.Family.TheVariants.{V4}
use Rattle.rpki_paths.proofs.Finals.{has-more}
use Rattle.rpki_paths.proofs.decision.v4_addresses.Goals as goal

pub loop-i-preserved : goal.loop-i-preserved
loop-i-preserved g c = λ n.
    has-more c.args.paths.now c.loop-i.i c.index-paths-i.result V4 n _ _ c.loop-i-test.true
    c.index-paths-i.is (c.loop-i.invariant n) (c.in_ok-add.ensures n)
