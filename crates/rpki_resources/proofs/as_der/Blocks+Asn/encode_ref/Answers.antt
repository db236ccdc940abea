use Rattle.rpki_resources.proofs.AsNumbers.Writing.{as-written}
use Rattle.rpki_resources.proofs.as_der.Blocks+Asn.encode_ref.Goals as goal

pub returns-clause-written : goal.returns-clause-written
returns-clause-written c =
    as-written c.args.self.now c.as_slice.ensures.canonical c.as_slice.ensures.below
