-- Identifiers of keys are read exactly.
use Rattle.std.proofs.Common.{ℕ, List}
use Rattle.std.specs.Prelude.{◌==◌, length}
use Rattle.std.proofs.lemmas.Bool.Decides.{Decides-eqb}
use Rattle.rpki_der.specs.Tags.{OCTET_STRING}
use Rattle.rpki_der.specs.Form.Law.{nothing, is, IsPart}
use Rattle.rpki_der.proofs.Form.Kinds.{contents-part}
use Rattle.rpki_der.proofs.Form.Words.{pass}
use Rattle.rpki_basics.specs.Identifier.{KeyIdentifierForm, identifier_length, key_identifier_at}

pub identifier-part : IsPart (is OCTET_STRING) nothing key_identifier_at KeyIdentifierForm
identifier-part = pass (λ (id : List ℕ). length id == identifier_length)
    (contents-part OCTET_STRING) (λ id. Decides-eqb (length id) identifier_length)
