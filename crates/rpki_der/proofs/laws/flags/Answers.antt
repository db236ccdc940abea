use Rattle.rpki_der.specs.Tags.{BOOLEAN}
use Rattle.rpki_der.proofs.Form.Kinds.{boolean-part, flag-part}
use Rattle.rpki_der.proofs.Form.Malformed.{default-refused}
use Rattle.std.proofs.Common.{false}
use Rattle.rpki_der.proofs.laws.flags.Goals as goal

pub returns-clause-part : goal.returns-clause-part
returns-clause-part c = flag-part

pub returns-clause-refused : goal.returns-clause-refused
returns-clause-refused c = default-refused BOOLEAN boolean-part false
