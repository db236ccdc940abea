-- What a ROA content is written as is in its form.
use Rattle.std.proofs.Common.{◌≡◌, ℕ, ◌^◌, ◌<◌, ◌≤◌, List, [], ◌∷◌, ◌++◌, length, All}
use Rattle.std.proofs.Common.{Option, Some, None, refl, sym, length-append}
use Rattle.std.proofs.Common.{arith}
use Rattle.std.specs.Prelude.{IfSome, unwrap_or}
use Rattle.std.proofs.lemmas.List.{append-nil}
use Rattle.rpki_der.specs.declared.mode.Mode.TheVariants.{Der}
use Rattle.rpki_der.specs.Tags.{SEQUENCE, OCTET_STRING}
use Rattle.rpki_der.specs.Grammar.{IntegerBelow, Optional, Items}
use Rattle.rpki_der.specs.Form.Parts.{Parts}
use Rattle.rpki_der.specs.Write.Parts.{optional_octets, contents_small, length_parts}
use Rattle.rpki_der.specs.Write.Written.{value_octets, number_octets}
use Rattle.rpki_der.proofs.Reading.Scan.{tag-sound}
use Rattle.rpki_der.proofs.Writing.Leaves.{within-written, items-written}
use Rattle.rpki_der.proofs.Writing.Numbers.{length-number_octets}
use Rattle.rpki_der.proofs.Writing.Values.{number-in, number-written}
use Rattle.rpki_resources.specs.declared.by_family.ByFamily.{ByFamily}
use Rattle.rpki_resources.specs.declared.by_family.FamilyEntry.{FamilyEntry}
use Rattle.rpki_resources.specs.declared.family.AddressFamily.{AddressFamily}
use Rattle.rpki_resources.specs.declared.family.AddressFamily.TheVariants.{Ipv4, Ipv6}
use Rattle.rpki_resources.specs.As.Form.{AsId}
use Rattle.rpki_resources.specs.Family.Form.{afi, FamilyForm}
use Rattle.rpki_resources.specs.Families.Form.{FamilyEntryForm}
use Rattle.rpki_resources.specs.Families.Read.{gathered, no_values}
use Rattle.rpki_resources.specs.Ip.Form.{PrefixForm}
use Rattle.rpki_resources.specs.Ip.Written.{end_octets}
use Rattle.rpki_resources.proofs.Addresses.FirstBits.{end-short}
use Rattle.rpki_resources.proofs.Addresses.Within.{max-most}
use Rattle.rpki_resources.proofs.Families.Gathered.{entries-sound}
use Rattle.rpki_resources.proofs.Families.Writing.{family-written}
use Rattle.rpki_resources.proofs.Prefixes.Writing.{prefix-written}
use Rattle.rpki_lists.specs.Version.{OptionalVersion}
use Rattle.rpki_routes.specs.Roa.{Address, Roa, IsAddress, IsMaxLength, IsRoa}
use Rattle.rpki_routes.specs.Roa.Form.{AddressForm, AddressesForm, BlocksForm}
use Rattle.rpki_routes.specs.Roa.Form.{RoaForm}
use Rattle.rpki_routes.specs.Roa.Written.{address_contents, address_octets, list_octets}
use Rattle.rpki_routes.specs.Roa.Written.{family_contents, family_octets, families_octets}
use Rattle.rpki_routes.specs.Roa.Written.{roa_contents, roa_octets}
use Rattle.rpki_der.proofs.Form.Words.{items-join}

-- ---- an address

max-in : (family : AddressFamily) (len : ℕ) (max : Option ℕ)
    → IfSome max (IsMaxLength family len)
    → Optional (IntegerBelow 256 Der) (optional_octets number_octets max) max
max-in family len None h = refl
max-in family len (Some m) h =
    let most = max-most family in
    let n = number-written m (omega (arith, h.1, most)) in
    (n.0, n.1, (n.2, omega (arith, h.1, most)))

max-short : (max : Option ℕ) → length (optional_octets number_octets max) ≤ 11
max-short None = omega arith
max-short (Some m) = length-number_octets m

pub address-short : (family : AddressFamily) (a : Address) → IsAddress family a
    → length (address_contents a) < 2 ^ 32
address-short family a h =
    let few = end-short a.prefix.addr a.prefix.len
    (omega (arith, max-most family, h.prefix.within)) in
    omega (
      arith,
      few,
      max-short a.max_length,
      length-append (end_octets a.prefix.addr a.prefix.len)
          (optional_octets number_octets a.max_length),
    )

pub address-written : (family : AddressFamily) (a : Address) → IsAddress family a
    → AddressForm family (address_octets a) a
address-written family a h =
    let prefix = end_octets a.prefix.addr a.prefix.len in
    let max = optional_octets number_octets a.max_length in (
      within-written SEQUENCE
          (Parts ((λ o. PrefixForm family Der o a.prefix)
          ∷ (λ o. Optional (IntegerBelow 256 Der) o a.max_length) ∷ []))
          (address_contents a) (tag-sound SEQUENCE refl) (address-short family a h) (
            prefix,
            max,
            refl,
            prefix-written family a.prefix h.prefix.within h.prefix.address h.prefix.aligned,
            (
              max,
              [],
              sym (append-nil max),
              max-in family a.prefix.len a.max_length h.longest,
              refl,
            ),
          ),
      h.longest,
    )

pub list-written : (family : AddressFamily) (xs : List Address) → All (IsAddress family) xs
    → length (list_octets xs) < 2 ^ 32
    → AddressesForm family Der (value_octets SEQUENCE (list_octets xs)) xs
list-written family xs all short =
    within-written SEQUENCE (λ c. Items (AddressForm family) c xs) (list_octets xs)
    (tag-sound SEQUENCE refl) short
    (items-written (AddressForm family) address_octets xs
    (λ i d l. address-written family _ (all i d l)))

-- ---- a family

abbrev entry : AddressFamily → List Address → FamilyEntry (List Address)
entry family xs = record { family = family; value = xs }

entry-written : (family : AddressFamily) (xs : List Address) → All (IsAddress family) xs
    → length (value_octets SEQUENCE (family_contents family xs)) < 2 ^ 32
    → FamilyEntryForm AddressesForm Der (value_octets SEQUENCE (family_contents family xs))
    (entry family xs)
entry-written family xs all short =
    let name = value_octets OCTET_STRING (afi family) in
    let list = value_octets SEQUENCE (list_octets xs) in
    let inner = contents_small SEQUENCE (family_contents family xs) short in
    let few = contents_small SEQUENCE (list_octets xs) (length_parts name list inner).1 in
    within-written SEQUENCE
    (Parts ((λ o. FamilyForm Der o family) ∷ (λ o. AddressesForm family Der o xs) ∷ []))
    (family_contents family xs) (tag-sound SEQUENCE refl) inner (
      name,
      list,
      refl,
      family-written family,
      (list, [], sym (append-nil list), list-written family xs all few, refl),
    )

-- the entry of a family, if it has addresses
abbrev entries-of : AddressFamily → List Address → List (FamilyEntry (List Address))
entries-of family [] = []
entries-of family (a ∷ xs) = entry family (a ∷ xs) ∷ []

family-items : (family : AddressFamily) (xs : List Address) → All (IsAddress family) xs
    → length (family_octets family xs) < 2 ^ 32
    → Items (FamilyEntryForm AddressesForm Der) (family_octets family xs) (entries-of family xs)
family-items family [] all short = refl
family-items family (a ∷ xs) all short = (
  family_octets family (a ∷ xs),
  [],
  sym (append-nil (family_octets family (a ∷ xs))),
  entry-written family (a ∷ xs) all short,
  refl,
)

-- ---- both families

-- what stands for a family with addresses
abbrev stands-for : List Address → Option (List Address)
stands-for [] = None
stands-for (a ∷ xs) = Some (a ∷ xs)

abbrev values-of : List Address → List Address → ByFamily (List Address)
values-of v4 v6 = record { v4 = stands-for v4; v6 = stands-for v6 }

values-gathered : (v4 v6 : List Address)
    → gathered no_values (entries-of Ipv4 v4 ++ entries-of Ipv6 v6) ≡ Some (values-of v4 v6)
unfolding gathered
values-gathered [] [] = refl
values-gathered [] (b ∷ v6) = refl
values-gathered (a ∷ v4) [] = refl
values-gathered (a ∷ v4) (b ∷ v6) = refl

stood : (xs : List Address) → xs ≡ unwrap_or (stands-for xs) []
stood [] = refl
stood (a ∷ xs) = refl

blocks-written : (r : Roa) → IsRoa r → length (value_octets SEQUENCE (families_octets r)) < 2 ^ 32
    → BlocksForm (value_octets SEQUENCE (families_octets r)) (r.v4, r.v6)
blocks-written r h short =
    let inner = contents_small SEQUENCE (families_octets r) short in
    let each = length_parts (family_octets Ipv4 r.v4) (family_octets Ipv6 r.v6) inner in
    let entries : List (FamilyEntry (List Address)) =
    entries-of Ipv4 r.v4 ++ entries-of Ipv6 r.v6 in (
      values-of r.v4 r.v6,
      (
        entries,
        within-written SEQUENCE (λ c. Items (FamilyEntryForm AddressesForm Der) c entries)
            (families_octets r) (tag-sound SEQUENCE refl) inner
            (items-join (FamilyEntryForm AddressesForm Der) (family_octets Ipv4 r.v4)
            (family_octets Ipv6 r.v6) (entries-of Ipv4 r.v4) (entries-of Ipv6 r.v6)
            (family-items Ipv4 r.v4 h.v4 each.0) (family-items Ipv6 r.v6 h.v6 each.1)),
        entries-sound entries (values-of r.v4 r.v6) (values-gathered r.v4 r.v6),
      ),
      (λ i. (stood r.v4 i, stood r.v6 i)),
    )

-- ---- the content

pub roa-written : (r : Roa) → IsRoa r → length (roa_contents r) < 2 ^ 32
    → RoaForm (roa_octets r) r
roa-written r h inner =
    let number = number_octets r.as_id in
    let blocks = value_octets SEQUENCE (families_octets r) in
    within-written SEQUENCE
    (Parts (OptionalVersion Der ∷ (λ o. AsId Der o r.as_id)
    ∷ (λ o. BlocksForm o (r.v4, r.v6)) ∷ []))
    (roa_contents r) (tag-sound SEQUENCE refl) inner (
      [],
      roa_contents r,
      refl,
      (None, refl),
      (
        number,
        blocks,
        refl,
        number-in Der r.as_id h.number,
        (
          blocks,
          [],
          sym (append-nil blocks),
          blocks-written r h (length_parts number blocks inner).1,
          refl,
        ),
      ),
    )
