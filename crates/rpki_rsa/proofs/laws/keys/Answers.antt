use Rattle.rpki_rsa.proofs.KeyFacts.{one-modulus}
use Rattle.rpki_rsa.proofs.KeyForms.{key-form, key-only}
use Rattle.rpki_rsa.proofs.laws.keys.Goals as goal

pub returns-clause-form : goal.returns-clause-form
returns-clause-form c = key-form

pub returns-clause-only : goal.returns-clause-only
returns-clause-only c = key-only

pub returns-clause-one : goal.returns-clause-one
returns-clause-one c = one-modulus
