use Rattle.rpki_issued.proofs.Lengths.{len-five}
use Rattle.rpki_issued.proofs.extensions.LastExtensionsEncode.encoded_len.Goals as goal

pub returns : goal.returns
returns c =
    rw (
      c.fields.ensures.issuer,
      c.fields.ensures.subject,
      c.fields.ensures.policies,
      c.fields.ensures.addresses,
      c.fields.ensures.numbers,
    ) at (len-five c.fields.result.0 c.fields.result.1 c.fields.result.2 c.fields.result.3
    c.fields.result.4 c.encoded_len.result c.encoded_len.ensures)
