use Rattle.std.proofs.Common.{ℕ, List, Err, subst}
use Rattle.rpki_show.specs.Locator.{IsLocatorOf}
use Rattle.rpki_validation.proofs.Grounded.{unread}
use Rattle.rpki_validation.proofs.locator.read_locator.Goals as goal

pub returns-in-Err : goal.returns-in-Err
returns-in-Err c =
    unread c.args.octets.now c.in-Err.error c.fault_of.result
    (subst (λ (o : List ℕ). IsLocatorOf o (Err c.in-Err.error)) c.as_slice.ensures c.in-Err.ensures)
    c.fault_of.ensures
