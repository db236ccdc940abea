-- The extensions of a revocation list. The sections are those of RFC 5280, where no other RFC is
-- named.
use Rattle.std.specs.Prelude.{ℕ, List, [], ◌∷◌, Option, Some}
use Rattle.rpki_der.specs.declared.mode.Mode.{Mode}
use Rattle.rpki_der.specs.Form.Keyed.{must}
use Rattle.rpki_der.specs.Form.Made.{Understood, partly}
use Rattle.rpki_der.specs.Form.Parts.{SequenceOf, sequence_at}
use Rattle.rpki_der.specs.Read.Parse.{Parser, ◌>>=◌, u160_at}
use Rattle.rpki_basics.specs.Serial.{SerialForm}
use Rattle.rpki_extensions.specs.declared.extension.Extension.{Extension}
use Rattle.rpki_extensions.specs.Extension.{ExtensionForm, MayStand, Stated, stated, standing_at}
use Rattle.rpki_extensions.specs.Extensions.{authority_key_identifier}
use Rattle.rpki_extensions.specs.Identifiers.{id_ce}
use Rattle.rpki_extensions.specs.KeyIdentifiers.{AuthorityKeyForm, authority_key_at}
use Rattle.rpki_crls.specs.declared.extensions.CrlExtensions.{CrlExtensions}

-- id-ce-cRLNumber (5.2.3)
abbrev pub crl_number : List ℕ
crl_number = id_ce 20

-- the extensions that are known in a revocation list (RFC 6487, section 5)
abbrev pub crl_extensions : List (List ℕ)
crl_extensions =
    authority_key_identifier
    ∷ crl_number
    ∷ []

-- What the extensions say, which may stand together by `MayStand`. The identifier of the issuer's
-- key and the number have to be there (RFC 6487, section 5). The number is an INTEGER below 2^160,
-- as a serial number: that its contents may have 21 octets, where 5.2.3 has 20 at most, is this
-- project's own rule. Extensions that are not known say nothing: that there may be some, against
-- RFC 6487, section 5, is this project's own rule.
pub record AreCrlExtensions (list : List Extension) (x : CrlExtensions) : Type 0 where
  pub stand : MayStand crl_extensions list
  pub authority_key : Stated list authority_key_identifier AuthorityKeyForm (Some x.authority_key)
  pub number : Stated list crl_number SerialForm (Some x.number)

-- Extensions: SEQUENCE OF Extension, in any order (5.1)
abbrev pub CrlExtensionsForm : Mode → List ℕ → CrlExtensions → Type 0
CrlExtensionsForm mode = Understood AreCrlExtensions (SequenceOf mode (ExtensionForm mode))

-- ---- as functions

-- what the extensions say
unfoldable pub crl_extensions_of : List Extension → Option CrlExtensions
crl_extensions_of list = do
  authority ← must (stated authority_key_identifier authority_key_at list)
  number ← must (stated crl_number u160_at list)
  Some (record { authority_key = authority; number = number })

-- the extensions
abbrev pub crl_extensions_at : Parser CrlExtensions
crl_extensions_at = sequence_at (partly crl_extensions_of (standing_at crl_extensions))
