-- One beginning of the source at most is an attestation, and its lists are read in one way.
use Rattle.std.proofs.Common.{subst}
use Rattle.rpki_der.specs.declared.mode.Mode.TheVariants.{Der}
use Rattle.rpki_multi.specs.Attestation.{whole_of}
use Rattle.rpki_multi.specs.Multi.{KeptMulti, multi_of}
use Rattle.rpki_show.specs.DatedRta.{AreDated}
use Rattle.rpki_show.proofs.Carried.{dated-refused, dated-found}
use Rattle.rpki_show.proofs.dated_rta.DatedRta.decode.Goals as goal

pub returns-in-Err : goal.returns-in-Err
returns-in-Err c = dated-refused c.args.source c.in-Err.e c.in-Err.ensures

pub returns-in-Ok-read_lists : goal.returns-in-Ok-read_lists
returns-in-Ok-read_lists c =
    let front = c.in-Ok.ensures in
    let lists = c.in-Ok-read_lists.lists.items in (
      front.0,
      dated-found c.args.source (whole_of c.in-Ok.rta) front.0 front.1 lists
          (subst (λ (m : KeptMulti). AreDated Der (multi_of m).crls lists)
          c.signed.ensures.value c.in-Ok-read_lists.ensures),
    )
