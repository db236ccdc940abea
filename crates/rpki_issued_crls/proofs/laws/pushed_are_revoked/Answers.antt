use Rattle.rpki_issued_crls.proofs.Revoked.{some-has, has-some}
use Rattle.rpki_issued_crls.proofs.laws.pushed_are_revoked.Goals as goal

pub returns : goal.returns
returns c = λ u issuer s serial. (some-has u.revoked serial, has-some u.revoked serial)
