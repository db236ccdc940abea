use Rattle.rpki_der.proofs.Form.Kinds.{whole-part}
use Rattle.rpki_der.proofs.Form.Nested.{in-octets, in-bits, front-understood, all-understood}
use Rattle.rpki_der.proofs.laws.forms.encapsulated_parts.Goals as goal

pub returns-clause-begun : goal.returns-clause-begun
returns-clause-begun g c = λ first part. in-octets (front-understood part)

pub returns-clause-octets : goal.returns-clause-octets
returns-clause-octets g c = λ first apart part. in-octets (all-understood part)

pub returns-clause-bits : goal.returns-clause-bits
returns-clause-bits g c = λ first apart part. in-bits whole-part (all-understood part)
