use Rattle.rpki_tal.proofs.UriFacts.{uri-one}
use Rattle.rpki_tal.proofs.laws.uris_are_unique.Goals as goal

pub returns : goal.returns
returns c = λ text uri other h k. uri-one text uri other h k
