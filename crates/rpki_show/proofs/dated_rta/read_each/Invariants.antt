use Rattle.std.proofs.Common.{take}
use Rattle.rpki_der.specs.declared.mode.Mode.TheVariants.{Der}
use Rattle.rpki_show.specs.DatedRta.{AreDated}
use Rattle.rpki_show.proofs.Carried.{lists_of}
use Rattle.rpki_show.proofs.dated_rta.read_each.Given as goal

-- the lists so far are read
abbrev pub invariant-loop-crl : goal.invariant-loop-crl
invariant-loop-crl l =
    AreDated Der (lists_of (take l.crl-index l.crls)) l.lists.items
