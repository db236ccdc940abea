-- What is written of the numbers that a content names is in its form.
use Rattle.std.proofs.Common.{◌≡◌, ℕ, ◌<◌, ◌^◌, Bool, true, false, cond, List, [], ◌∷◌, ◌++◌}
use Rattle.std.proofs.Common.{length, Option, Some, None, refl, sym, subst}
use Rattle.std.specs.Prelude.{◌&&◌, ◌||◌, not, is_some}
use Rattle.std.specs.List.{flat_map}
use Rattle.std.proofs.lemmas.List.{append-nil}
use Rattle.rpki_der.specs.Tags.{SEQUENCE, OCTET_STRING, context}
use Rattle.rpki_der.specs.declared.mode.Mode.TheVariants.{Der}
use Rattle.rpki_der.specs.declared.mode.Mode.{Mode}
use Rattle.rpki_der.specs.Grammar.{Items, Optional}
use Rattle.rpki_der.specs.Form.Made.{Made}
use Rattle.rpki_der.specs.Form.Parts.{Explicit, Parts}
use Rattle.rpki_der.specs.Write.Parts.{contents_small, length_parts, optional_octets}
use Rattle.rpki_der.specs.Write.Written.{value_octets}
use Rattle.rpki_der.proofs.Form.Words.{items-join}
use Rattle.rpki_der.proofs.Reading.Lengths.{some_is}
use Rattle.rpki_der.proofs.Reading.Scan.{tag-sound}
use Rattle.rpki_der.proofs.Writing.Leaves.{within-written}
use Rattle.rpki_resources.specs.declared.by_family.ByFamily.{ByFamily}
use Rattle.rpki_resources.specs.declared.by_family.FamilyEntry.{FamilyEntry}
use Rattle.rpki_resources.specs.declared.family.AddressFamily.{AddressFamily}
use Rattle.rpki_resources.specs.declared.family.AddressFamily.TheVariants.{Ipv4, Ipv6}
use Rattle.rpki_resources.specs.As.Form.{AsForm}
use Rattle.rpki_resources.specs.As.Written.{as_octets}
use Rattle.rpki_resources.specs.Family.Form.{afi, FamilyForm}
use Rattle.rpki_resources.specs.Families.Form.{FamilyEntryForm, FamiliesForm}
use Rattle.rpki_resources.specs.Families.Read.{gathered, no_values}
use Rattle.rpki_resources.specs.Ip.Form.{IpForm}
use Rattle.rpki_resources.specs.Ip.Written.{ip_octets}
use Rattle.rpki_resources.proofs.Families.Gathered.{entries-sound}
use Rattle.rpki_resources.proofs.Families.Writing.{family-written}
use Rattle.rpki_lists.specs.declared.named.Named.{Named}
use Rattle.rpki_lists.specs.Entries.{or_empty}
use Rattle.rpki_lists.specs.Named.{Set, IpAddrBlocksForm, ResourceBlockForm, sets_of, is_empty}
use Rattle.rpki_lists.specs.Named.{written_asns, family_contents, family_octets}
use Rattle.rpki_lists.specs.Named.{families_octets, addresses_octets, resource_block_contents}

-- AS numbers that are written in the form under [0], where they are short
abbrev pub AsnsWritten : (Mode → List ℕ → Set → Type 0) → (Set → List ℕ) → Set → Type 0
AsnsWritten form octets set = length (octets set) < 2 ^ 32
    → Explicit 0 Der (λ d. form Der d set) (octets set)

-- a set that is written in its form, where it is short
abbrev pub AsWritten : Set → Type 0
AsWritten set = length (flat_map as_octets set) < 2 ^ 32
    → AsForm Der (value_octets SEQUENCE (flat_map as_octets set)) set

abbrev pub IpWritten : AddressFamily → Set → Type 0
IpWritten family set = length (flat_map ip_octets set) < 2 ^ 32
    → IpForm family Der (value_octets SEQUENCE (flat_map ip_octets set)) set

-- what three sets are written by
pub record AreWritten (asns four six : Set) : Type 0 where
  pub numbers : AsWritten asns
  pub v4 : IpWritten Ipv4 four
  pub v6 : IpWritten Ipv6 six

-- ---- a family

abbrev entry : AddressFamily → Set → FamilyEntry Set
entry family set = record { family = family; value = set }

entry-written : (family : AddressFamily) (set : Set) → IpWritten family set
    → length (value_octets SEQUENCE (family_contents family set)) < 2 ^ 32
    → FamilyEntryForm IpForm Der (value_octets SEQUENCE (family_contents family set))
    (entry family set)
entry-written family set written short =
    let name = value_octets OCTET_STRING (afi family) in
    let list = value_octets SEQUENCE (flat_map ip_octets set) in
    let inner = contents_small SEQUENCE (family_contents family set) short in
    let few = contents_small SEQUENCE (flat_map ip_octets set) (length_parts name list inner).1 in
    within-written SEQUENCE
    (Parts ((λ o. FamilyForm Der o family) ∷ (λ o. IpForm family Der o set) ∷ []))
    (family_contents family set) (tag-sound SEQUENCE refl) inner (
      name,
      list,
      refl,
      family-written family,
      (list, [], sym (append-nil list), written few, refl),
    )

-- the entry of a family, if it has addresses
abbrev entries-of : AddressFamily → Set → List (FamilyEntry Set)
entries-of family [] = []
entries-of family (b ∷ set) = entry family (b ∷ set) ∷ []

family-items : (family : AddressFamily) (set : Set) → IpWritten family set
    → length (family_octets family set) < 2 ^ 32
    → Items (FamilyEntryForm IpForm Der) (family_octets family set) (entries-of family set)
family-items family [] written short = refl
family-items family (b ∷ set) written short = (
  family_octets family (b ∷ set),
  [],
  sym (append-nil (family_octets family (b ∷ set))),
  entry-written family (b ∷ set) written short,
  refl,
)

-- ---- both families

-- what stands for a family with addresses
abbrev stands-for : Set → Option Set
stands-for [] = None
stands-for (b ∷ set) = Some (b ∷ set)

abbrev values-of : Set → Set → ByFamily Set
values-of v4 v6 = record { v4 = stands-for v4; v6 = stands-for v6 }

values-gathered : (v4 v6 : Set)
    → gathered no_values (entries-of Ipv4 v4 ++ entries-of Ipv6 v6) ≡ Some (values-of v4 v6)
unfolding gathered
values-gathered [] [] = refl
values-gathered [] (c ∷ v6) = refl
values-gathered (b ∷ v4) [] = refl
values-gathered (b ∷ v4) (c ∷ v6) = refl

families-written : (v4 v6 : Set) → IpWritten Ipv4 v4 → IpWritten Ipv6 v6
    → length (value_octets SEQUENCE (families_octets v4 v6)) < 2 ^ 32
    → FamiliesForm IpForm Der (value_octets SEQUENCE (families_octets v4 v6)) (values-of v4 v6)
families-written v4 v6 four six short =
    let inner = contents_small SEQUENCE (families_octets v4 v6) short in
    let each = length_parts (family_octets Ipv4 v4) (family_octets Ipv6 v6) inner in
    let entries : List (FamilyEntry Set) = entries-of Ipv4 v4 ++ entries-of Ipv6 v6 in (
      entries,
      within-written SEQUENCE (λ c. Items (FamilyEntryForm IpForm Der) c entries)
          (families_octets v4 v6) (tag-sound SEQUENCE refl) inner
          (items-join (FamilyEntryForm IpForm Der) (family_octets Ipv4 v4) (family_octets Ipv6 v6)
          (entries-of Ipv4 v4) (entries-of Ipv6 v6) (family-items Ipv4 v4 four each.0)
          (family-items Ipv6 v6 six each.1)),
      entries-sound entries (values-of v4 v6) (values-gathered v4 v6),
    )

nothing-stands : (v4 v6 : Set) → (is_empty v4 && is_empty v6) ≡ true → values-of v4 v6 ≡ no_values
nothing-stands [] [] e = refl
nothing-stands [] (c ∷ v6) e = absurd cc
nothing-stands (b ∷ v4) v6 e = absurd cc

addresses-written : (v4 v6 : Set) → IpWritten Ipv4 v4 → IpWritten Ipv6 v6
    → length (addresses_octets v4 v6) < 2 ^ 32
    → IpAddrBlocksForm Der (addresses_octets v4 v6) (values-of v4 v6)
addresses-written v4 v6 four six short = of (is_empty v4 && is_empty v6) refl short
  where
    list : List ℕ
    list = value_octets SEQUENCE (families_octets v4 v6)

    of : (t : Bool) → (is_empty v4 && is_empty v6) ≡ t
        → length (cond t [] (value_octets (context 1) list)) < 2 ^ 32
        → IpAddrBlocksForm Der (cond t [] (value_octets (context 1) list)) (values-of v4 v6)
    of true e h = (None, refl, nothing-stands v4 v6 e)
    of false e h = (
      Some (values-of v4 v6),
      within-written (context 1) (λ d. FamiliesForm IpForm Der d (values-of v4 v6)) list
          (tag-sound (context 1) refl) (contents_small (context 1) list h)
          (families-written v4 v6 four six (contents_small (context 1) list h)),
      refl,
    )

-- ---- what is named

written-is : (asns v4 v6 set : Set) → written_asns asns v4 v6 ≡ Some set → set ≡ asns
written-is asns v4 v6 set e = of (is_empty asns && not (is_empty v4 && is_empty v6)) e
  where
    of : (t : Bool) → cond t None (Some asns) ≡ Some set → set ≡ asns
    of true h = absurd cc
    of false h = sym (some_is _ _ h)

-- something is named
some-named : (asns v4 v6 : Set) → (is_some (written_asns asns v4 v6)
    || (is_some (stands-for v4) || is_some (stands-for v6))) ≡ true
some-named [] [] [] = refl
some-named [] [] (c ∷ v6) = refl
some-named [] (b ∷ v4) v6 = refl
some-named (a ∷ asns) v4 v6 = refl

stood : (set : Set) → set ≡ or_empty (stands-for set)
stood [] = refl
stood (b ∷ set) = refl

number-stood : (asns v4 v6 : Set) → asns ≡ or_empty (written_asns asns v4 v6)
number-stood [] [] [] = refl
number-stood [] [] (c ∷ v6) = refl
number-stood [] (b ∷ v4) v6 = refl
number-stood (a ∷ asns) v4 v6 = refl

-- which numbers are written
abbrev named-of : Set → Set → Set → Named
named-of asns v4 v6 = record {
  asns = written_asns asns v4 v6;
  addresses = values-of v4 v6;
}

module _ (form : Mode → List ℕ → Set → Type 0) (octets : Set → List ℕ) where
  numbers-if : (found : Option Set) (set : Set) → AsnsWritten form octets set
      → ((s : Set) → found ≡ Some s → s ≡ set)
      → length (optional_octets octets found) < 2 ^ 32
      → Optional (λ c s. Explicit 0 Der (λ d. form Der d s) c) (optional_octets octets found) found
  numbers-if None set written same short = refl
  numbers-if (Some s) set written same short =
      subst (AsnsWritten form octets) (sym (same s refl)) written short

  pub resource-block-written : (asns v4 v6 : Set) → AsnsWritten form octets asns
      → IpWritten Ipv4 v4 → IpWritten Ipv6 v6
      → length (resource_block_contents octets asns v4 v6) < 2 ^ 32
      → Made sets_of (ResourceBlockForm form Der)
      (value_octets SEQUENCE (resource_block_contents octets asns v4 v6)) (asns, (v4, v6))
  resource-block-written asns v4 v6 written four six inner =
      let found = written_asns asns v4 v6 in
      let numbers = optional_octets octets found in
      let addresses = addresses_octets v4 v6 in
      let each = length_parts numbers addresses inner in (
        named-of asns v4 v6,
        (
          within-written SEQUENCE
              (Parts ((λ o. Optional (λ c set. Explicit 0 Der (λ d. form Der d set) c) o
              (named-of asns v4 v6).asns)
              ∷ (λ o. IpAddrBlocksForm Der o (named-of asns v4 v6).addresses) ∷ []))
              (resource_block_contents octets asns v4 v6) (tag-sound SEQUENCE refl) inner (
                numbers,
                addresses,
                refl,
                numbers-if found asns written (written-is asns v4 v6) each.0,
                (
                  addresses,
                  [],
                  sym (append-nil addresses),
                  addresses-written v4 v6 four six each.1,
                  refl,
                ),
              ),
          some-named asns v4 v6,
        ),
        (λ i. (number-stood asns v4 v6 i, (stood v4 i, stood v6 i))),
      )
