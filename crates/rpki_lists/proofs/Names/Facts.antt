-- The addresses that a content names are those of their families.
use Rattle.std.proofs.Common.{ℕ, List, [], ◌++◌, All, Option, Some, None, sym, subst}
use Rattle.std.specs.Prelude.{unwrap_or}
use Rattle.std.proofs.lemmas.List.{append-nil}
use Rattle.std.proofs.lemmas.List.Elements.{All-nil}
use Rattle.rpki_der.specs.Tags.{SEQUENCE, context}
use Rattle.rpki_der.specs.declared.mode.Mode.{Mode}
use Rattle.rpki_der.specs.Grammar.{IsBytes, Optional}
use Rattle.rpki_der.specs.Form.Keyed.{Keyed}
use Rattle.rpki_der.specs.Form.Made.{Made}
use Rattle.rpki_der.specs.Form.Parts.{Explicit}
use Rattle.rpki_der.proofs.Form.Words.{items-all, items-bytes}
use Rattle.rpki_der.proofs.Reading.Exact.{IsBytes-left, IsBytes-right, IsBytes-contents}
use Rattle.rpki_resources.specs.declared.by_family.ByFamily.{ByFamily}
use Rattle.rpki_resources.specs.declared.by_family.FamilyEntry.{FamilyEntry}
use Rattle.rpki_resources.specs.declared.family.AddressFamily.{AddressFamily}
use Rattle.rpki_resources.specs.declared.family.AddressFamily.TheVariants.{Ipv4}
use Rattle.rpki_resources.specs.Family.{IsWithin}
use Rattle.rpki_resources.specs.Family.Form.{afi}
use Rattle.rpki_resources.specs.Families.Form.{FamilyEntryForm, FamiliesForm, afi_of, IsValueOf}
use Rattle.rpki_resources.specs.Families.Read.{no_values}
use Rattle.rpki_resources.specs.Ip.Form.{IpForm}
use Rattle.rpki_resources.proofs.Addresses.Within.{set-within}
use Rattle.rpki_resources.proofs.Families.Gathered.{same-family}
use Rattle.rpki_lists.specs.Entries.{or_empty}
use Rattle.rpki_lists.specs.Named.{Set, Sets, IpAddrBlocksForm, ResourceBlockForm, sets_of}

-- the addresses of an entry are those of its family
abbrev OfItsFamily : FamilyEntry Set → Type 0
OfItsFamily e = All (IsWithin e.family) e.value

entry-facts : (mode : Mode) (o : List ℕ) (e : FamilyEntry Set)
    → IsBytes o × FamilyEntryForm IpForm mode o e → OfItsFamily e
entry-facts mode o e (bytes, h) =
    let contents : IsBytes h.0 =
    IsBytes-contents mode o o [] SEQUENCE h.0 (sym (append-nil o)) h.1 bytes in
    let parts = h.2 in
    let both : IsBytes (parts.0 ++ parts.1) = subst IsBytes parts.2 contents in
    let list = parts.4 in
    let rest : IsBytes (list.0 ++ list.1) =
    subst IsBytes list.2 (IsBytes-right parts.0 parts.1 both) in
    set-within e.family mode list.0 e.value (IsBytes-left list.0 list.1 rest) list.3

stands : (entries : List (FamilyEntry Set)) → All OfItsFamily entries
    → (family : AddressFamily) (found : Option Set)
    → Keyed afi_of IsValueOf entries (afi family) found → All (IsWithin family) (or_empty found)
stands entries all family None k = All-nil (IsWithin family)
stands entries all family (Some set) k =
    let its : OfItsFamily k.1 = subst OfItsFamily k.3 (all k.0 k.1 k.2) in
    subst (λ (f : AddressFamily). All (IsWithin f) set)
    (same-family (k.1.family) family k.4.0)
    (subst (λ (s : Set). All (IsWithin k.1.family) s) k.4.1 its)

families-facts : (mode : Mode) (o : List ℕ) (values : ByFamily Set) → IsBytes o
    → FamiliesForm IpForm mode o values → All (IsWithin Ipv4) (or_empty values.v4)
families-facts mode o values bytes h =
    let list = h.1 in
    let contents : IsBytes list.0 =
    IsBytes-contents mode o o [] SEQUENCE list.0 (sym (append-nil o)) list.1 bytes in
    let each = items-all (λ p e. IsBytes p × FamilyEntryForm IpForm mode p e) OfItsFamily
    (entry-facts mode) list.0 h.0
    (items-bytes (FamilyEntryForm IpForm mode) list.0 h.0 contents list.2) in
    stands h.0 each Ipv4 values.v4 h.2.v4

written-facts : (mode : Mode) (o : List ℕ) (written : Option (ByFamily Set)) → IsBytes o
    → Optional (λ c values. Explicit 1 mode (λ d. FamiliesForm IpForm mode d values) c) o written
    → All (IsWithin Ipv4) (or_empty (unwrap_or written no_values).v4)
written-facts mode o None bytes h = All-nil (IsWithin Ipv4)
written-facts mode o (Some values) bytes h =
    families-facts mode h.0 values
    (IsBytes-contents mode o o [] (context 1) h.0 (sym (append-nil o)) h.1 bytes) h.2

addresses-facts : (mode : Mode) (o : List ℕ) (values : ByFamily Set) → IsBytes o
    → IpAddrBlocksForm mode o values → All (IsWithin Ipv4) (or_empty values.v4)
addresses-facts mode o values bytes h =
    subst (λ (v : ByFamily Set). All (IsWithin Ipv4) (or_empty v.v4)) (sym h.2)
    (written-facts mode o h.0 bytes h.1)

-- of what was read, the IPv4 addresses are such
pub resource-block-facts : (form : Mode → List ℕ → Set → Type 0) (mode : Mode) (o : List ℕ)
    (sets : Sets) → IsBytes o → Made sets_of (ResourceBlockForm form mode) o sets
    → All (IsWithin Ipv4) sets.1.0
resource-block-facts form mode o sets bytes h =
    let named = h.1.0 in
    let contents : IsBytes named.0 =
    IsBytes-contents mode o o [] SEQUENCE named.0 (sym (append-nil o)) named.1 bytes in
    let one = named.2 in
    let first : IsBytes (one.0 ++ one.1) = subst IsBytes one.2 contents in
    let two = one.4 in
    let second : IsBytes (two.0 ++ two.1) =
    subst IsBytes two.2 (IsBytes-right one.0 one.1 first) in
    subst (λ (s : Sets). All (IsWithin Ipv4) s.1.0) (sym h.2)
    (addresses-facts mode two.0 h.0.addresses (IsBytes-left two.0 two.1 second) two.3)
