use Rattle.std.proofs.Common.{◌≡◌, All, take}
use Rattle.rpki_der.specs.declared.mode.Mode.TheVariants.{Der}
use Rattle.rpki_multi.proofs.builder.carried.are_in_der.Given as goal

abbrev pub invariant-loop-item : goal.invariant-loop-item
invariant-loop-item g l =
    All g.T.Carried.is_kept (take l.item-index l.items)
    × All (λ x. g.T.Carried.mode_of x ≡ Der) (take l.item-index l.items)
