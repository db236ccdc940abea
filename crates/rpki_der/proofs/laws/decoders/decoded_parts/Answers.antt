use Rattle.rpki_der.proofs.Form.Decoders.{decodes, decodes-all}
use Rattle.rpki_der.proofs.laws.decoders.decoded_parts.Goals as goal

pub returns-clause-front : goal.returns-clause-front
returns-clause-front g c = λ first part mode octets result bytes h.
    decodes part mode octets (λ t. t) result bytes h

pub returns-clause-all : goal.returns-clause-all
returns-clause-all g c = λ first apart part mode octets result bytes h.
    decodes-all part mode octets (λ t. t) result bytes h
