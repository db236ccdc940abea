-- The form of the content of a ROA, which is in DER (RFC 6488, section 2). The sections are those
-- of RFC 9582.
use Rattle.std.specs.Prelude.{ℕ, List, [], ◌∷◌, unwrap_or, IfSome}
use Rattle.rpki_der.specs.declared.mode.Mode.{Mode}
use Rattle.rpki_der.specs.declared.mode.Mode.TheVariants.{Der}
use Rattle.rpki_der.specs.Grammar.{IntegerBelow, Optional}
use Rattle.rpki_der.specs.Form.Parts.{Sequence, SequenceOf}
use Rattle.rpki_der.specs.Form.Made.{Made}
use Rattle.rpki_resources.specs.declared.by_family.ByFamily.{ByFamily}
use Rattle.rpki_resources.specs.declared.family.AddressFamily.{AddressFamily}
use Rattle.rpki_resources.specs.As.Form.{AsId}
use Rattle.rpki_resources.specs.Families.Form.{FamiliesForm}
use Rattle.rpki_resources.specs.Ip.Form.{PrefixForm}
use Rattle.rpki_lists.specs.Version.{OptionalVersion}
use Rattle.rpki_routes.specs.Roa.{Address, Roa, IsMaxLength}

-- ROAIPAddress: SEQUENCE { address, maxLength INTEGER OPTIONAL } (4.3). The bits of the prefix that
-- are not used may be any, and the maximum length may be that of the prefix, where it should be
-- left out (4.3.2.2): both are this project's own rules.
abbrev pub AddressForm : AddressFamily → List ℕ → Address → Type 0
AddressForm family octets a = Sequence Der (
    (λ o. PrefixForm family Der o a.prefix)
    ∷ (λ o. Optional (IntegerBelow 256 Der) o a.max_length)
    ∷ []) octets × IfSome a.max_length (IsMaxLength family a.prefix.len)

-- addresses: SEQUENCE OF ROAIPAddress, where there is at least one (4.3), and which should stand in
-- a canonical order, each once (4.3.3). Here there may be none, and they may stand in any order and
-- more than once, which is this project's own rule.
abbrev pub AddressesForm : AddressFamily → Mode → List ℕ → List Address → Type 0
AddressesForm family mode = SequenceOf mode (AddressForm family)

-- the addresses of each family, none where the family is not named
abbrev pub lists_of : ByFamily (List Address) → List Address × List Address
lists_of values = (unwrap_or values.v4 [], unwrap_or values.v6 [])

-- ipAddrBlocks: SEQUENCE OF ROAIPAddressFamily, where there is at least one, and each family stands
-- at most once (4.3). RFC 6482, the earlier profile, says nothing of a family that stands twice.
-- Here there may be none, and they may stand in any order, where 4.3.3 has a canonical one:
-- both are this project's own rules.
abbrev pub BlocksForm : List ℕ → List Address × List Address → Type 0
BlocksForm = Made lists_of (FamiliesForm AddressesForm Der)

-- RouteOriginAttestation: SEQUENCE { version [0] INTEGER DEFAULT 0, asID, ipAddrBlocks } (4)
abbrev pub RoaForm : List ℕ → Roa → Type 0
RoaForm octets r = Sequence Der (
    OptionalVersion Der
    ∷ (λ o. AsId Der o r.as_id)
    ∷ (λ o. BlocksForm o (r.v4, r.v6))
    ∷ []) octets
