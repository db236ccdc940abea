use Rattle.rpki_examples.proofs.Lengths.{roa-within}
use Rattle.rpki_examples.proofs.routes.roa_in.Goals as goal

pub returns-clause-within : goal.returns-clause-within
returns-clause-within c =
    roa-within c.args.octets c.decode.result
    (rw c.as_slice.ensures at c.slices_hold_octets.ensures.octets)
    c.roas_are_written.ensures.found c.decode.ensures
