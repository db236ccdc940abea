use Rattle.std.proofs.Common.{ℕ, List, subst}
use Rattle.rpki_sigobj.specs.Object.{mode_of}
use Rattle.rpki_validation.specs.Kinds.{IsNamed}
use Rattle.rpki_check.proofs.kinds.kind_named.Goals as goal

pub returns : goal.returns
returns c =
    subst (λ (o : List ℕ). IsNamed (mode_of c.args.strict) o c.kind_in.result) c.in-Ok.ensures
    c.kind_in.ensures
