use Rattle.rpki_tal.proofs.Unique.{text-same}
use Rattle.rpki_tal.proofs.laws.texts_are_unique.Goals as goal

pub returns : goal.returns
returns c = λ text uris others key other h k. text-same text uris others key other h k
