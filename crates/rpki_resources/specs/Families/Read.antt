-- Reading what stands for each address family, as functions on lists.
use Rattle.std.specs.Prelude.{ℕ, List, [], ◌∷◌, Option, None, Some}
use Rattle.rpki_der.specs.Read.Parse.{Parser, ◌>>=◌, all_at}
use Rattle.rpki_der.specs.Form.Parts.{sequence_at}
use Rattle.rpki_der.specs.Form.Made.{partly}
use Rattle.rpki_resources.specs.declared.by_family.ByFamily.{ByFamily}
use Rattle.rpki_resources.specs.declared.by_family.FamilyEntry.{FamilyEntry}
use Rattle.rpki_resources.specs.declared.family.AddressFamily.{AddressFamily}
use Rattle.rpki_resources.specs.declared.family.AddressFamily.TheVariants.{Ipv4, Ipv6}
use Rattle.rpki_resources.specs.declared.block.Block.{Block}
use Rattle.rpki_resources.specs.Family.{max_bits}
use Rattle.rpki_resources.specs.Family.Read.{family_at}
use Rattle.rpki_resources.specs.Ip.Read.{ip_blocks_at}

-- a set of addresses of the family
abbrev pub ip_set_at : AddressFamily → Parser (List (Block ℕ))
ip_set_at family = ip_blocks_at (max_bits family)

-- a family, and then what stands for it
unfoldable pub family_entry_fields_at : {X : Type 0} → (AddressFamily → Parser X)
    → Parser (FamilyEntry X)
family_entry_fields_at p mode bytes = do
  family ← family_at mode bytes
  value ← p family.0 mode family.1
  Some (record { family = family.0; value = value.0 }, value.1)

-- a SEQUENCE of a family and what stands for it
abbrev pub family_entry_at : {X : Type 0} → (AddressFamily → Parser X) → Parser (FamilyEntry X)
family_entry_at p = sequence_at (family_entry_fields_at p)

-- no value for either family
abbrev pub no_values : {X : Type 0} → ByFamily X
no_values = record { v4 = None; v6 = None }

-- a value for IPv4 beside what stands for IPv6, unless IPv4 has one
abbrev pub with_v4 : {X : Type 0} → X → Option X → Option X → Option (ByFamily X)
with_v4 x None v6 = Some (record { v4 = Some x; v6 = v6 })
with_v4 x (Some y) v6 = None

-- a value for IPv6 beside what stands for IPv4, unless IPv6 has one
abbrev pub with_v6 : {X : Type 0} → X → Option X → Option X → Option (ByFamily X)
with_v6 x v4 None = Some (record { v4 = v4; v6 = Some x })
with_v6 x v4 (Some y) = None

-- a value for a family beside the others, unless it has one
abbrev pub with_value : {X : Type 0} → AddressFamily → X → ByFamily X → Option (ByFamily X)
with_value Ipv4 x values = with_v4 x values.v4 values.v6
with_value Ipv6 x values = with_v6 x values.v4 values.v6

-- the values of the entries beside those that are there
unfoldable pub gathered : {X : Type 0} → ByFamily X → List (FamilyEntry X) → Option (ByFamily X)
gathered values [] = Some values
gathered values (entry ∷ entries) =
    with_value entry.family entry.value values >>= λ more. gathered more entries

-- the values of all entries
unfoldable pub values_at : {X : Type 0} → (AddressFamily → Parser X) → Parser (ByFamily X)
values_at p = partly (gathered no_values) (all_at (family_entry_at p))

-- the values of a SEQUENCE OF entries (`family_entry_at`), where each family has one entry at most
abbrev pub families_at : {X : Type 0} → (AddressFamily → Parser X) → Parser (ByFamily X)
families_at p = sequence_at (values_at p)
