-- What the checks of a ROA mean.
use Rattle.std.proofs.Common.{◌≡◌, ℕ, ◌-◌, List, [], ◌∷◌, Bool, true, false, refl, arith}
use Rattle.std.specs.Prelude.{◌↔◌, ◌||◌, All}
use Rattle.std.proofs.lemmas.List.Elements.{All-nil, All-cons, All-head, All-tail}
use Rattle.std.proofs.Math.Pow.{pow_pos}
use Rattle.rpki_resources.specs.declared.block.Block.{Block}
use Rattle.rpki_resources.specs.declared.family.AddressFamily.{AddressFamily}
use Rattle.rpki_resources.specs.declared.family.AddressFamily.TheVariants.{Ipv4, Ipv6}
use Rattle.rpki_resources.specs.Blocks.{Covers, is_between}
use Rattle.rpki_resources.specs.Prefix.{Network, last_of}
use Rattle.rpki_resources.proofs.Sets.Between.{between-in}
use Rattle.rpki_faults.specs.Checks.{AllHold}
use Rattle.rpki_faults.proofs.Order.{hold-split, hold-join, hold-shown, hold-hidden}
use Rattle.rpki_certs.specs.Validate.{Sets}
use Rattle.rpki_routes.specs.Roa.{Address, Roa, IsAddress, IsPrefixOf, IsRoa}
use Rattle.rpki_routes.specs.Roa.Checks.{HasNone, HasPrefix, prefix_checks, family_checks, roa_held}
use Rattle.rpki_routes.specs.Roa.Checks.{RoaCovered, roa_kind}
use Rattle.rpki_faults.specs.declared.validation.ValidationError.TheVariants.{Verification}
use Rattle.rpki_sigobj.specs.Signed.Good.{Means}
use Rattle.rpki_sigobj.proofs.Wholes.Numbers.{same-numbers}

-- a prefix has its first address
first-in : (family : AddressFamily) (p : Network) → IsPrefixOf family p
    → is_between p.addr (last_of p.addr p.len) p.addr ≡ true
first-in family p is =
    let size = pow_pos (128 - p.len) in
    between-in p.addr (last_of p.addr p.len) p.addr (omega arith) (omega (arith, is.aligned, size))

or-yes : (x : Bool) → x ≡ true → (x || false) ≡ true
or-yes x e = rw e refl

-- a set that has a prefix has a number
has-some : (family : AddressFamily) (set : List (Block ℕ)) (a : Address)
    → IsPrefixOf family a.prefix → HasPrefix set a → HasNone set → ⊥
has-some family set a is h none = none a.prefix.addr (h a.prefix.addr
    (or-yes (is_between a.prefix.addr (last_of a.prefix.addr a.prefix.len) a.prefix.addr)
    (first-in family a.prefix is)))

module _ (family : AddressFamily) (set : List (Block ℕ)) where
  covered-all : (list : List Address) → AllHold (prefix_checks family set list)
      → All (HasPrefix set) list
  covered-all [] h = All-nil (HasPrefix set)
  covered-all (a ∷ list) h = All-cons (HasPrefix set) a list h.0 (covered-all list h.1)

  all-covered : (list : List Address) → All (HasPrefix set) list
      → AllHold (prefix_checks family set list)
  all-covered [] h = tt
  all-covered (a ∷ list) h =
      (All-head (HasPrefix set) a list h, all-covered list (All-tail (HasPrefix set) a list h))

  -- where there is a prefix that the set has, it has a number
  pub some-held : (list : List Address) → All (IsAddress family) list → All (HasPrefix set) list
      → HasNone set → list ≡ []
  some-held [] are h none = refl
  some-held (a ∷ list) are h none = absurd (has-some family set a
      (All-head (IsAddress family) a list are).prefix (All-head (HasPrefix set) a list h) none)

  family-covered : (list : List Address) → All (IsAddress family) list
      → AllHold (family_checks family set list) ↔ All (HasPrefix set) list
  family-covered list are = (
    λ h. covered-all list h.1,
    λ h. (some-held list are h, all-covered list h),
  )

pub roa-covered : (r : Roa) (sets : Sets) → IsRoa r → AllHold (roa_held r sets) ↔ RoaCovered r sets
roa-covered r sets is =
    let v4 = family-covered Ipv4 sets.v4 r.v4 is.v4 in
    let v6 = family-covered Ipv6 sets.v6 r.v6 is.v6 in (
      λ h. let s = hold-split (family_checks Ipv4 sets.v4 r.v4)
          (family_checks Ipv6 sets.v6 r.v6) h in
          record { v4 = v4.0 s.0; v6 = v6.0 s.1 },
      λ h. hold-join (family_checks Ipv4 sets.v4 r.v4) (family_checks Ipv6 sets.v6 r.v6)
          (v4.1 h.v4, v6.1 h.v6),
    )

-- no number is in the empty set
pub none-in-empty : HasNone []
none-in-empty n h = absurd cc

prefixes-same : (a b : List (Block ℕ)) → Covers (λ (n : ℕ). n) b a → (list : List Address)
    → All (HasPrefix a) list → All (HasPrefix b) list
prefixes-same a b c [] h = All-nil (HasPrefix b)
prefixes-same a b c (p ∷ list) h =
    All-cons (HasPrefix b) p list (λ n i. c n (All-head (HasPrefix a) p list h n i))
    (prefixes-same a b c list (All-tail (HasPrefix a) p list h))

pub roa-means : (r : Roa) → IsRoa r → Means roa_kind r
roa-means r is = record {
  checks = λ c issuer sets v. let covered = roa-covered r sets is in (
    λ h. covered.0 (hold-hidden Verification (roa_held r sets) h.1),
    λ h. (tt, hold-shown Verification (roa_held r sets) (covered.1 h)),
  );
  same = λ c issuer a b v w h. record {
    v4 = prefixes-same a.v4 b.v4
        (same-numbers c.policy c.addresses.v4 issuer.v4 a.v4 b.v4 v.v4 w.v4) r.v4 h.v4;
    v6 = prefixes-same a.v6 b.v6
        (same-numbers c.policy c.addresses.v6 issuer.v6 a.v6 b.v6 v.v6 w.v6) r.v6 h.v6;
  };
}
