use Rattle.std.proofs.Common.{subst}
use Rattle.rpki_sigobj.proofs.signed.Signed.content.Goals as goal
use Rattle.rpki_sigobj.specs.Signed.{KeptWhole, IsKeptWhole}

pub returns-clause-said : goal.returns-clause-said
returns-clause-said g c =
    subst (λ (k : KeptWhole _). IsKeptWhole g.T.Content.kind.type g.T.Content.form k)
    c.self.view_is c.self.invariant
