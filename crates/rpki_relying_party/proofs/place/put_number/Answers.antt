-- The octets of the number.
use Rattle.std.proofs.Common.{◌∙◌, lit<, rules}
use Rattle.rpki_relying_party.proofs.Keyed.{octets-are, put}
use Rattle.rpki_relying_party.proofs.place.put_number.Goals as goal

pub returns : goal.returns
returns c =
    put c.extend_from_slice.result _ _ _ _ c.extend_from_slice.ensures.items
    (c.to_be_bytes.ensures ∙ octets-are 7 c.args.number (lit< tt) (search rules))
