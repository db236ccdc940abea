use Rattle.rpki_der.specs.Numbers.{MAX_DEPTH}
use Rattle.rpki_der.specs.Tags.{INTEGER, IA5_STRING, SEQUENCE}
use Rattle.rpki_der.proofs.Reading.Kinds.{reading-value, reading-u8, reading-u32, reading-bits}
use Rattle.rpki_der.proofs.Reading.Kinds.{reading-ia5, reading-octets}
use Rattle.rpki_der.proofs.Form.Kinds.{u8-part, ia5-part}
use Rattle.rpki_lists.proofs.Fronts.{taken-by, taken-if-next-by}
use Rattle.rpki_lists.proofs.OctetsInDer.{as-string}
use Rattle.rpki_lists.proofs.laws.slices_are_read.Goals as goal

pub returns-clause-contents : goal.returns-clause-contents
returns-clause-contents g c = λ tag. taken-by (reading-value tag)

pub returns-clause-sequence : goal.returns-clause-sequence
returns-clause-sequence g c = taken-by (reading-value SEQUENCE)

pub returns-clause-u8 : goal.returns-clause-u8
returns-clause-u8 g c = taken-by reading-u8

pub returns-clause-opt_u8 : goal.returns-clause-opt_u8
returns-clause-opt_u8 g c = taken-if-next-by INTEGER u8-part

pub returns-clause-u32 : goal.returns-clause-u32
returns-clause-u32 g c = taken-by reading-u32

pub returns-clause-bits : goal.returns-clause-bits
returns-clause-bits g c = taken-by reading-bits

pub returns-clause-ia5 : goal.returns-clause-ia5
returns-clause-ia5 g c = taken-by reading-ia5

pub returns-clause-opt_ia5 : goal.returns-clause-opt_ia5
returns-clause-opt_ia5 g c = taken-if-next-by IA5_STRING ia5-part

pub returns-clause-octets : goal.returns-clause-octets
returns-clause-octets g c = λ view octets result rest bytes h.
    taken-by (reading-octets MAX_DEPTH) view octets result rest bytes
    (as-string view octets result rest h)
