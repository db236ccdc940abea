-- Names. The sections are those of RFC 5280.
use Rattle.std.specs.Prelude.{◌≡◌, ℕ, List, false, Option, None}
use Rattle.rpki_der.specs.declared.mode.Mode.{Mode}
use Rattle.rpki_der.specs.Grammar.{Skipped}
use Rattle.rpki_der.specs.Numbers.{MAX_DEPTH}
use Rattle.rpki_der.specs.Form.Made.{made, choice_at}
use Rattle.rpki_der.specs.Form.Parts.{ImplicitString, implicit_string_at}
use Rattle.rpki_der.specs.Read.Parse.{Parser, is_next, skip_at, all_at}
use Rattle.rpki_der.specs.Tags.{context_primitive}
use Rattle.rpki_extensions.specs.declared.name.GeneralName.{GeneralName}
use Rattle.rpki_extensions.specs.declared.name.GeneralName.TheVariants.{Uri, Other}

-- the number of uniformResourceIdentifier among the kinds of names (4.2.1.6)
abbrev pub uri_kind : ℕ
uri_kind = 6

-- the tag of uniformResourceIdentifier, [6] IMPLICIT IA5String (4.2.1.6)
abbrev pub URI : ℕ
URI = context_primitive uri_kind

-- GeneralName: CHOICE { uniformResourceIdentifier [6], .. } (4.2.1.6). Two rules are this project's
-- own: octets from 80 hexadecimal on, which an IA5String has not, make a text that is no URI, and
-- are not refused; and what has another tag is skipped, whatever it is.
abbrev pub GeneralNameForm : Mode → List ℕ → GeneralName → Type 0
GeneralNameForm mode octets (Uri text) = ImplicitString uri_kind mode octets text
GeneralNameForm mode octets Other = Skipped mode MAX_DEPTH octets × (is_next URI octets ≡ false)

-- The name is this URI, and P holds of its text.
abbrev pub IsNamed : (List ℕ → Type 0) → GeneralName → List ℕ → Type 0
IsNamed P name uri = (name ≡ Uri uri) × P uri

-- ---- as functions

-- a name
abbrev pub general_name_at : Parser GeneralName
general_name_at =
    choice_at URI (made Uri (implicit_string_at uri_kind)) (made (λ _. Other) (skip_at MAX_DEPTH))

-- names, up to the end
abbrev pub general_names_at : Parser (List GeneralName)
general_names_at = all_at general_name_at

-- the URI that a name is, by what makes one of a text
abbrev pub named : {X : Type 0} → (List ℕ → Option X) → GeneralName → Option X
named of (Uri text) = of text
named of Other = None
