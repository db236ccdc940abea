-- The octets are one locator, or none; no call of their source fails.
use Rattle.rpki_show.proofs.Located.{locator-read}
use Rattle.rpki_show.proofs.locator.locator_of.Goals as goal

pub returns : goal.returns
returns c =
    locator-read _ _ c.read_named.result c.read_named.ensures.io c.read_named.ensures.read
