-- ROA contents are read exactly: a line for each field.
use Rattle.std.proofs.Common.{◌≡◌, ℕ, ◌≤◌, Bool, true, false, List, [], ◌∷◌, Option, None, Some}
use Rattle.std.proofs.Common.{refl, ap, arith}
use Rattle.std.specs.Prelude.{All, IfSome, Decides, ◌&&◌, if◌then◌else◌}
use Rattle.std.proofs.lemmas.Bool.{leb-true, le-leb, and_parts, and_from}
use Rattle.std.proofs.lemmas.List.Elements.{All-nil, All-cons, All-head, All-tail}
use Rattle.rpki_der.specs.declared.mode.Mode.{Mode}
use Rattle.rpki_der.specs.declared.mode.Mode.TheVariants.{Der}
use Rattle.rpki_der.specs.Tags.{INTEGER, SEQUENCE, context}
use Rattle.rpki_der.specs.Grammar.{IntegerBelow, Optional, Items}
use Rattle.rpki_der.specs.Form.Made.{Made}
use Rattle.rpki_der.specs.Form.Law.{nothing, is, or, IsPart, AreParts}
use Rattle.rpki_der.specs.Form.Parts.{Sequence, sequence_at}
use Rattle.rpki_der.proofs.Form.Fields.{field, skipped, done, within}
use Rattle.rpki_der.proofs.Form.Kinds.{u8-part, u32-part}
use Rattle.rpki_der.proofs.Form.Words.{pass, option, make, part-as}
use Rattle.rpki_lists.specs.Rules.{admits, goes_on}
use Rattle.rpki_lists.specs.Version.{OptionalVersion}
use Rattle.rpki_lists.proofs.Exact.{list-part}
use Rattle.rpki_lists.proofs.Versions.{version-part}
use Rattle.rpki_resources.specs.declared.family.AddressFamily.{AddressFamily}
use Rattle.rpki_resources.specs.declared.family.AddressFamily.TheVariants.{Ipv6}
use Rattle.rpki_resources.specs.As.Form.{AsId}
use Rattle.rpki_resources.specs.Family.{max_bits}
use Rattle.rpki_resources.specs.Families.Form.{FamiliesForm}
use Rattle.rpki_resources.specs.Families.Read.{families_at}
use Rattle.rpki_resources.specs.Ip.Form.{PrefixForm, bit_count}
use Rattle.rpki_resources.specs.Prefix.{Network}
use Rattle.rpki_resources.proofs.Addresses.Exact.{prefix-part}
use Rattle.rpki_resources.proofs.Addresses.Within.{max-most}
use Rattle.rpki_resources.proofs.Families.ByFamily.{families-part}
use Rattle.rpki_routes.specs.Roa.{Address, IsMaxLength}
use Rattle.rpki_routes.specs.Roa.Form.{AddressForm, AddressesForm, lists_of}
use Rattle.rpki_routes.specs.Roa.Read.{address_fields_at, address_at, is_max, is_of, addresses_at}
use Rattle.rpki_routes.specs.Roa.Read.{after_address, fields_at}
use Rattle.rpki_routes.specs.declared.roa.addresses.OneFamily.{OneFamily}

-- ---- an address

-- an address of either family, without a rule
abbrev Plain : Mode → List ℕ → Address → Type 0
Plain mode octets a = Sequence mode (
    (λ o. PrefixForm Ipv6 mode o a.prefix)
    ∷ (λ o. Optional (IntegerBelow 256 mode) o a.max_length)
    ∷ []) octets

pub plain-part : IsPart (is SEQUENCE) nothing address_at Plain
unfolding address_fields_at
plain-part = within SEQUENCE (
    field (λ a. a.prefix) (prefix-part Ipv6) (λ prefix.
    field (λ a. a.max_length) (option INTEGER u8-part) (λ max.
    done (record { prefix = prefix; max_length = max }) ((tt, refl), refl)
    (λ a k i. record { prefix = k.0.1 i; max_length = k.1 i })) refl) refl)

-- ---- the rules of a family

-- no more bits than an address of the family has, and a maximum length that goes with them
pub record Fits (family : AddressFamily) (a : Address) : Type 0 where
  pub within : a.prefix.len ≤ max_bits family
  pub longest : IfSome a.max_length (IsMaxLength family a.prefix.len)

max-decides : (family : AddressFamily) (len : ℕ) (max : Option ℕ)
    → Decides (is_max len (max_bits family) max) (IfSome max (IsMaxLength family len))
max-decides family len None = (λ e. tt, λ h. refl)
max-decides family len (Some max) = (
  λ e. let p = and_parts _ _ e in (leb-true _ _ p.0, leb-true _ _ p.1),
  λ h. and_from _ _ (le-leb _ _ h.0) (le-leb _ _ h.1),
)

pub fits-decides : (family : AddressFamily) (a : Address) → Decides (is_of family a) (Fits family a)
unfolding is_of
fits-decides family a = (
  λ e. let p = and_parts _ _ e in record {
    within = leb-true _ _ p.0;
    longest = (max-decides family a.prefix.len a.max_length).0 p.1;
  },
  λ h. and_from _ _ (le-leb _ _ h.within)
      ((max-decides family a.prefix.len a.max_length).1 h.longest),
)

-- the rule goes on by this test
gone-on : (c : Bool) (rule : OneFamily) (xs : List Address)
    → Decides (goes_on (λ r. admits after_address r xs) (if c then Some rule else None))
    ((c && admits after_address rule xs) ≡ true)
gone-on true rule xs = (λ e. e, λ h. h)
gone-on false rule xs = (λ e. e, λ h. h)

-- the rule admits the addresses of its family
pub one-family : (rule : OneFamily) (xs : List Address)
    → Decides (admits after_address rule xs) (All (Fits rule.family) xs)
one-family rule [] = (λ e. All-nil (Fits rule.family), λ h. refl)
one-family rule (x ∷ xs) = (
  λ e. let p = and_parts _ _ ((gone-on (is_of rule.family x) rule xs).0 e) in
      All-cons (Fits rule.family) x xs ((fits-decides rule.family x).0 p.0)
      ((one-family rule xs).0 p.1),
  λ h. (gone-on (is_of rule.family x) rule xs).1
      (and_from _ _ ((fits-decides rule.family x).1 (All-head (Fits rule.family) x xs h))
      ((one-family rule xs).1 (All-tail (Fits rule.family) x xs h))),
)

-- ---- a list of addresses

narrow : (family : AddressFamily) (o : List ℕ) (p : Network) → p.len ≤ max_bits family
    → PrefixForm Ipv6 Der o p → PrefixForm family Der o p
narrow family o p le h =
    let same : p.len ≡ bit_count h.0 = ap (λ (n : Network). n.len) h.2 in
    (h.0, (h.1.0, omega (arith, le, same)), h.2)

widen : (family : AddressFamily) (o : List ℕ) (p : Network) → PrefixForm family Der o p
    → PrefixForm Ipv6 Der o p × (p.len ≤ max_bits family)
widen family o p h =
    let same : p.len ≡ bit_count h.0 = ap (λ (n : Network). n.len) h.2 in
    ((h.0, (h.1.0, omega (arith, h.1.1, max-most family)), h.2), omega (arith, h.1.1, same))

of-family : (family : AddressFamily) (o : List ℕ) (a : Address) → Plain Der o a → Fits family a
    → AddressForm family o a
of-family family o a h f =
    let parts = h.2 in (
      (
        h.0,
        h.1,
        (parts.0, parts.1, parts.2, narrow family parts.0 a.prefix f.within parts.3, parts.4),
      ),
      f.longest,
    )

pub of-either : (family : AddressFamily) (o : List ℕ) (a : Address) → AddressForm family o a
    → Plain Der o a × Fits family a
of-either family o a h =
    let parts = h.0.2 in
    let prefix = widen family parts.0 a.prefix parts.3 in (
      (h.0.0, h.0.1, (parts.0, parts.1, parts.2, prefix.0, parts.4)),
      record { within = prefix.1; longest = h.1 },
    )

items-of : (family : AddressFamily) (o : List ℕ) (xs : List Address) → Items (Plain Der) o xs
    → All (Fits family) xs → Items (AddressForm family) o xs
items-of family o [] h f = h
items-of family o (x ∷ xs) h f = (
  h.0,
  h.1,
  h.2,
  of-family family h.0 x h.3 (All-head (Fits family) x xs f),
  items-of family h.1 xs h.4 (All-tail (Fits family) x xs f),
)

items-either : (family : AddressFamily) (o : List ℕ) (xs : List Address)
    → Items (AddressForm family) o xs → Items (Plain Der) o xs × All (Fits family) xs
items-either family o [] h = (h, All-nil (Fits family))
items-either family o (x ∷ xs) h =
    let one = of-either family h.0 x h.3 in
    let more = items-either family h.1 xs h.4 in (
      (h.0, h.1, h.2, one.0, more.0),
      All-cons (Fits family) x xs one.1 more.1,
    )

pub addresses-part : (family : AddressFamily)
    → IsPart (is SEQUENCE) nothing (addresses_at family) (AddressesForm family)
addresses-part family =
    part-as
    (pass (admits after_address (record { family = family })) (list-part plain-part)
    (one-family (record { family = family })))
    (λ mode o xs h. (h.0.0, h.0.1, items-of family h.0.0 xs h.0.2 h.1))
    (λ mode o xs h. let all = items-either family h.0 xs h.2 in ((h.0, h.1, all.0), all.1))

-- ---- the content

pub blocks-part : IsPart (is SEQUENCE) nothing (families_at addresses_at)
    (FamiliesForm AddressesForm)
blocks-part = families-part addresses-part

fields : AreParts (or (is (context 0)) (or (is INTEGER) (or (is SEQUENCE) nothing))) fields_at
    (λ mode r. OptionalVersion mode
    ∷ (λ o. AsId mode o r.as_id)
    ∷ (λ o. Made lists_of (FamiliesForm AddressesForm mode) o (r.v4, r.v6)) ∷ [])
    (λ _. Unit {0})
unfolding fields_at
fields =
    skipped (option (context 0) version-part)
    (field (λ r. r.as_id) u32-part (λ number.
    field (λ r. (r.v4, r.v6)) (make lists_of blocks-part) (λ lists.
    done (record { as_id = number; v4 = lists.0; v6 = lists.1 }) ((tt, refl), refl)
    (λ r k i. record { as_id = k.0.1 i; v4 = (k.1 i).0; v6 = (k.1 i).1 })) refl) refl) refl

-- the content, whose addresses are in DER whatever the mode
pub roa-part : IsPart (is SEQUENCE) nothing (sequence_at fields_at)
    (λ mode octets r. Sequence mode
    (OptionalVersion mode
    ∷ (λ o. AsId mode o r.as_id)
    ∷ (λ o. Made lists_of (FamiliesForm AddressesForm mode) o (r.v4, r.v6)) ∷ []) octets)
roa-part = within SEQUENCE fields
