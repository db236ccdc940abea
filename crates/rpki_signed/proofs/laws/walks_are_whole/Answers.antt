use Rattle.rpki_signed.proofs.Walks.{held-is, gives-all}
use Rattle.rpki_signed.proofs.laws.walks_are_whole.Goals as goal

pub returns-clause-held : goal.returns-clause-held
returns-clause-held g c = λ digest files f. held-is digest files f

pub returns-clause-whole : goal.returns-clause-whole
returns-clause-whole g c = gives-all _ _
