-- What is known of addresses that were read.
use Rattle.std.proofs.Common.{ℕ, ◌-◌, ◌^◌, List, [], ◌∷◌, ◌++◌, All}
use Rattle.std.proofs.Common.{Option, Some, None, sym, ap, subst, arith}
use Rattle.std.specs.Prelude.{unwrap_or}
use Rattle.std.proofs.Math.Nat.{mul-mod_left}
use Rattle.std.proofs.lemmas.Nat.{pow_pos}
use Rattle.std.proofs.lemmas.List.{append-nil}
use Rattle.std.proofs.lemmas.List.Elements.{All-nil}
use Rattle.rpki_der.specs.declared.mode.Mode.{Mode}
use Rattle.rpki_der.specs.declared.mode.Mode.TheVariants.{Der}
use Rattle.rpki_der.specs.Grammar.{IsBytes}
use Rattle.rpki_der.specs.Tags.{BIT_STRING, SEQUENCE}
use Rattle.rpki_der.specs.Form.Keyed.{Keyed}
use Rattle.rpki_der.proofs.Form.Words.{items-all, items-bytes}
use Rattle.rpki_der.proofs.Reading.Exact.{IsBytes-left, IsBytes-right, IsBytes-contents}
use Rattle.rpki_resources.specs.declared.by_family.ByFamily.{ByFamily}
use Rattle.rpki_resources.specs.declared.by_family.FamilyEntry.{FamilyEntry}
use Rattle.rpki_resources.specs.declared.family.AddressFamily.{AddressFamily}
use Rattle.rpki_resources.specs.declared.family.AddressFamily.TheVariants.{Ipv4, Ipv6}
use Rattle.rpki_resources.specs.Family.Form.{afi}
use Rattle.rpki_resources.specs.Families.Form.{FamilyEntryForm, FamiliesForm, afi_of, IsValueOf}
use Rattle.rpki_resources.specs.Ip.Form.{bit_count, bit_value, PrefixForm}
use Rattle.rpki_resources.specs.Prefix.{Network}
use Rattle.rpki_resources.proofs.Addresses.Bits.{room-below}
use Rattle.rpki_resources.proofs.Addresses.Within.{max-most, value-small}
use Rattle.rpki_routes.specs.Roa.{Address, Roa, IsPrefixOf, IsAddress, IsRoa}
use Rattle.rpki_routes.specs.Roa.Form.{AddressForm, AddressesForm, RoaForm}
use Rattle.rpki_resources.proofs.Families.Gathered.{same-family}

-- ---- a prefix

prefix-facts : (family : AddressFamily) (o : List ℕ) (p : Network) → IsBytes o
    → PrefixForm family Der o p → IsPrefixOf family p
prefix-facts family o p bytes h =
    let bits : List ℕ × ℕ = h.0 in
    let contents : IsBytes h.1.0.0 =
    IsBytes-contents Der o o [] BIT_STRING h.1.0.0 (sym (append-nil o)) h.1.0.1 bytes in
    let all : IsBytes (bits.1 ∷ bits.0) = subst IsBytes h.1.0.2.0 contents in
    let small = value-small bits all.1 h.1.0.2.1.few in
    let most = max-most family in
    let room = room-below (bit_value bits) (bit_count bits) small (omega (arith, most, h.1.1)) in
    let pos = pow_pos (128 - bit_count bits) in
    subst (IsPrefixOf family) (sym h.2) (record {
      within = h.1.1;
      address = omega (arith, pos, room);
      aligned = mul-mod_left (bit_value bits) (2 ^ (128 - bit_count bits));
    })

-- ---- addresses

address-facts : (family : AddressFamily) (o : List ℕ) (a : Address)
    → IsBytes o × AddressForm family o a → IsAddress family a
address-facts family o a (bytes, h) =
    let contents : IsBytes h.0.0 =
    IsBytes-contents Der o o [] SEQUENCE h.0.0 (sym (append-nil o)) h.0.1 bytes in
    let parts = h.0.2 in
    let both : IsBytes (parts.0 ++ parts.1) = subst IsBytes parts.2 contents in
    record {
      prefix = prefix-facts family parts.0 a.prefix (IsBytes-left parts.0 parts.1 both) parts.3;
      longest = h.1;
    }

addresses-facts : (family : AddressFamily) (mode : Mode) (o : List ℕ) (xs : List Address)
    → IsBytes o → AddressesForm family mode o xs → All (IsAddress family) xs
addresses-facts family mode o xs bytes h =
    let contents : IsBytes h.0 =
    IsBytes-contents mode o o [] SEQUENCE h.0 (sym (append-nil o)) h.1 bytes in
    items-all (λ p a. IsBytes p × AddressForm family p a) (IsAddress family)
    (address-facts family) h.0 xs (items-bytes (AddressForm family) h.0 xs contents h.2)

-- ---- families

-- the addresses of an entry are of its family
abbrev OfItsFamily : FamilyEntry (List Address) → Type 0
OfItsFamily e = All (IsAddress e.family) e.value

entry-facts : (mode : Mode) (o : List ℕ) (e : FamilyEntry (List Address))
    → IsBytes o × FamilyEntryForm AddressesForm mode o e → OfItsFamily e
entry-facts mode o e (bytes, h) =
    let contents : IsBytes h.0 =
    IsBytes-contents mode o o [] SEQUENCE h.0 (sym (append-nil o)) h.1 bytes in
    let parts = h.2 in
    let both : IsBytes (parts.0 ++ parts.1) = subst IsBytes parts.2 contents in
    let list = parts.4 in
    let rest : IsBytes (list.0 ++ list.1) =
    subst IsBytes list.2 (IsBytes-right parts.0 parts.1 both) in
    addresses-facts e.family mode list.0 e.value (IsBytes-left list.0 list.1 rest) list.3

stands : (entries : List (FamilyEntry (List Address))) → All OfItsFamily entries
    → (family : AddressFamily) (found : Option (List Address))
    → Keyed afi_of IsValueOf entries (afi family) found
    → All (IsAddress family) (unwrap_or found [])
stands entries all family None k = All-nil (IsAddress family)
stands entries all family (Some xs) k =
    let its : OfItsFamily k.1 = subst OfItsFamily k.3 (all k.0 k.1 k.2) in
    subst (λ (f : AddressFamily). All (IsAddress f) xs)
    (same-family (k.1.family) family k.4.0)
    (subst (λ (ys : List Address). All (IsAddress k.1.family) ys) k.4.1 its)

pub families-facts : (mode : Mode) (o : List ℕ) (values : ByFamily (List Address)) → IsBytes o
    → FamiliesForm AddressesForm mode o values
    → All (IsAddress Ipv4) (unwrap_or values.v4 []) × All (IsAddress Ipv6) (unwrap_or values.v6 [])
families-facts mode o values bytes h =
    let list = h.1 in
    let contents : IsBytes list.0 =
    IsBytes-contents mode o o [] SEQUENCE list.0 (sym (append-nil o)) list.1 bytes in
    let each = items-all (λ p e. IsBytes p × FamilyEntryForm AddressesForm mode p e) OfItsFamily
    (entry-facts mode) list.0 h.0
    (items-bytes (FamilyEntryForm AddressesForm mode) list.0 h.0 contents list.2) in
    (stands h.0 each Ipv4 values.v4 h.2.v4, stands h.0 each Ipv6 values.v6 h.2.v6)

-- ---- the content

pub roa-facts : (o : List ℕ) (r : Roa) → IsBytes o → RoaForm o r → IsRoa r
roa-facts o r bytes h =
    let contents : IsBytes h.0 =
    IsBytes-contents Der o o [] SEQUENCE h.0 (sym (append-nil o)) h.1 bytes in
    let one = h.2 in
    let first : IsBytes (one.0 ++ one.1) = subst IsBytes one.2 contents in
    let two = one.4 in
    let second : IsBytes (two.0 ++ two.1) =
    subst IsBytes two.2 (IsBytes-right one.0 one.1 first) in
    let three = two.4 in
    let third : IsBytes (three.0 ++ three.1) =
    subst IsBytes three.2 (IsBytes-right two.0 two.1 second) in
    let blocks = three.3 in
    let facts = families-facts Der three.0 blocks.0 (IsBytes-left three.0 three.1 third) blocks.1 in
    record {
      number = two.3.2.1;
      v4 = subst (All (IsAddress Ipv4))
          (sym (ap (λ (p : List Address × List Address). p.0) blocks.2)) facts.0;
      v6 = subst (All (IsAddress Ipv6))
          (sym (ap (λ (p : List Address × List Address). p.1) blocks.2)) facts.1;
    }
