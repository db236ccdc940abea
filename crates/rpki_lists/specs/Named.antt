-- Which numbers a content names: AS numbers, and addresses of each family, under a tag each. The
-- families are those of RFC 3779, section 2.2.3.
use Rattle.std.specs.Prelude.{◌≡◌, ◌||◌, ◌&&◌, ◌++◌, not, ℕ, List, [], ◌∷◌, Bool, true, false}
use Rattle.std.specs.Prelude.{Option, Some, None, is_some, if◌then◌else◌}
use Rattle.std.specs.List.{flat_map}
use Rattle.rpki_der.specs.Tags.{SEQUENCE, OCTET_STRING, context}
use Rattle.rpki_der.specs.declared.mode.Mode.{Mode}
use Rattle.rpki_der.specs.Grammar.{Optional}
use Rattle.rpki_der.specs.Read.Parse.{Parser, ◌>>=◌, optional, tested}
use Rattle.rpki_der.specs.Form.Parts.{Sequence, Explicit, sequence_at, context_at}
use Rattle.rpki_der.specs.Form.Made.{Default, made, default_at}
use Rattle.rpki_der.specs.Write.Parts.{optional_octets}
use Rattle.rpki_der.specs.Write.Written.{value_octets}
use Rattle.rpki_resources.specs.declared.block.Block.{Block}
use Rattle.rpki_resources.specs.declared.by_family.ByFamily.{ByFamily}
use Rattle.rpki_resources.specs.declared.family.AddressFamily.{AddressFamily}
use Rattle.rpki_resources.specs.declared.family.AddressFamily.TheVariants.{Ipv4, Ipv6}
use Rattle.rpki_resources.specs.Family.Form.{afi}
use Rattle.rpki_resources.specs.Families.Form.{FamiliesForm}
use Rattle.rpki_resources.specs.Families.Read.{families_at, ip_set_at, no_values}
use Rattle.rpki_resources.specs.Ip.Form.{IpForm}
use Rattle.rpki_resources.specs.Ip.Written.{ip_octets}
use Rattle.rpki_lists.specs.declared.named.Named.{Named}
use Rattle.rpki_lists.specs.Entries.{or_empty}

-- a set of numbers, as its blocks
abbrev pub Set : Type 0
Set = List (Block ℕ)

-- AS numbers, and the addresses of IPv4 and of IPv6
abbrev pub Sets : Type 0
Sets = Set × (Set × Set)

-- the sets that are named, and the empty set for each that is not
abbrev pub sets_of : Named → Sets
sets_of n = (or_empty n.asns, (or_empty n.addresses.v4, or_empty n.addresses.v6))

-- whether at least one of AS numbers, IPv4 and IPv6 is named
abbrev pub names_some : Named → Bool
names_some n = is_some n.asns || (is_some n.addresses.v4 || is_some n.addresses.v6)

-- ipAddrBlocks [1] OPTIONAL: the families, in either order, each at most once (RFC 9323, section
-- 4.2.2; draft-michaelson-rpki-rta, section 4)
abbrev pub IpAddrBlocksForm : Mode → List ℕ → ByFamily Set → Type 0
IpAddrBlocksForm mode = Default no_values (λ c values. Explicit 1 mode
    (λ d. FamiliesForm IpForm mode d values) c)

-- ResourceBlock ::= SEQUENCE { asID [0] OPTIONAL, ipAddrBlocks [1] OPTIONAL }, where something is
-- named (RFC 9323, section 4.2; draft-michaelson-rpki-rta, section 4). What stands under [0] is in
-- the form that the content has for AS numbers.
abbrev pub ResourceBlockForm : (Mode → List ℕ → Set → Type 0) → Mode → List ℕ → Named → Type 0
ResourceBlockForm form mode octets n = Sequence mode (
    (λ o. Optional (λ c set. Explicit 0 mode (λ d. form mode d set) c) o n.asns)
    ∷ (λ o. IpAddrBlocksForm mode o n.addresses)
    ∷ []) octets × (names_some n ≡ true)

-- ---- as functions

-- the addresses of each family
abbrev pub addresses_at : Parser (ByFamily Set)
addresses_at = default_at no_values (context 1) (context_at 1 (families_at ip_set_at))

-- AS numbers, whose set the parser reads under [0], and addresses, one after the other
unfoldable pub named_fields_at : Parser Set → Parser Named
named_fields_at set_at mode bytes = do
  asns ← optional (context 0) (context_at 0 set_at) mode bytes
  addresses ← addresses_at mode asns.1
  Some (record { asns = asns.0; addresses = addresses.0 }, addresses.1)

-- the sets, where something is named
abbrev pub sets_at : Parser Set → Parser Sets
sets_at set_at = made sets_of (tested names_some (sequence_at (named_fields_at set_at)))

-- ---- as octets

-- whether the list has nothing
abbrev pub is_empty : {T : Type 0} → List T → Bool
is_empty [] = true
is_empty (x ∷ xs) = false

-- The set of AS numbers that is written: an empty one only where nothing else is. That it is written
-- then, so that the content can be read again, is this project's own rule.
abbrev pub written_asns : Set → Set → Set → Option Set
written_asns asns v4 v6 =
    if is_empty asns && not (is_empty v4 && is_empty v6) then None else Some asns

-- what stands for a family
abbrev pub family_contents : AddressFamily → Set → List ℕ
family_contents family set =
    value_octets OCTET_STRING (afi family) ++ value_octets SEQUENCE (flat_map ip_octets set)

-- the addresses of a family, and nothing for none
abbrev pub family_octets : AddressFamily → Set → List ℕ
family_octets family [] = []
family_octets family (b ∷ set) = value_octets SEQUENCE (family_contents family (b ∷ set))

-- both families
abbrev pub families_octets : Set → Set → List ℕ
families_octets v4 v6 = family_octets Ipv4 v4 ++ family_octets Ipv6 v6

-- the addresses of both families under their tag, and nothing where there are none
abbrev pub addresses_octets : Set → Set → List ℕ
addresses_octets v4 v6 = if is_empty v4 && is_empty v6 then []
    else value_octets (context 1) (value_octets SEQUENCE (families_octets v4 v6))

-- what stands in the SEQUENCE, where AS numbers are written, with their tag, by the function
abbrev pub resource_block_contents : (Set → List ℕ) → Set → Set → Set → List ℕ
resource_block_contents octets asns v4 v6 =
    optional_octets octets (written_asns asns v4 v6) ++ addresses_octets v4 v6
