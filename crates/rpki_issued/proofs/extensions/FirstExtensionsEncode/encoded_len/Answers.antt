use Rattle.rpki_issued.proofs.Lengths.{len-five}
use Rattle.rpki_issued.proofs.extensions.FirstExtensionsEncode.encoded_len.Goals as goal

pub returns : goal.returns
returns c =
    rw (
      c.fields.ensures.basic,
      c.fields.ensures.subject,
      c.fields.ensures.authority,
      c.fields.ensures.usage,
      c.fields.ensures.crl,
    ) at (len-five c.fields.result.0 c.fields.result.1 c.fields.result.2 c.fields.result.3
    c.fields.result.4 c.encoded_len.result c.encoded_len.ensures)
