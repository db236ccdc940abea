use Rattle.rpki_tagged.proofs.Attestations.Written.{too-long}
use Rattle.rpki_tagged.proofs.attestation.builder.short.Goals as goal

pub returns-in-Err-clause-refused : goal.returns-in-Err-clause-refused
returns-in-Err-clause-refused c = (
  tt,
  too-long c.encode_ref.result c.args.attestation c.in-Err.field-0 c.encode_ref.ensures.value
      c.in-Err.ensures,
)
