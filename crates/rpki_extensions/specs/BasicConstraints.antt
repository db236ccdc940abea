-- Whether the subject is a CA.
use Rattle.std.specs.Prelude.{ℕ, List, [], ◌∷◌, Bool, false, Some}
use Rattle.rpki_der.specs.declared.mode.Mode.{Mode}
use Rattle.rpki_der.specs.Grammar.{Boolean}
use Rattle.rpki_der.specs.Form.Made.{Default, default_at}
use Rattle.rpki_der.specs.Form.Parts.{Sequence, sequence_at}
use Rattle.rpki_der.specs.Read.Parse.{Parser, ◌>>=◌, boolean_at}
use Rattle.rpki_der.specs.Tags.{BOOLEAN}

-- BasicConstraints: SEQUENCE { cA BOOLEAN DEFAULT FALSE } (RFC 5280, section 4.2.1.9). A length of
-- paths, pathLenConstraint, is not allowed (RFC 6487, section 4.8.1).
abbrev pub BasicConstraintsForm : Mode → List ℕ → Bool → Type 0
BasicConstraintsForm mode octets ca = Sequence mode (
    (λ o. Default false (Boolean mode) o ca)
    ∷ []) octets

-- ---- as functions

-- what stands in the SEQUENCE
unfoldable pub basic_fields_at : Parser Bool
basic_fields_at mode bytes = do
  ca ← default_at false BOOLEAN boolean_at mode bytes
  Some ca

-- whether the subject is a CA
abbrev pub basic_constraints_at : Parser Bool
basic_constraints_at = sequence_at basic_fields_at
