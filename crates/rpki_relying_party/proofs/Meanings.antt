-- What the checks of the numbers of an object mean, however its sets are written.
use Rattle.std.proofs.Common.{◌≡◌, inl, inr, ℕ, ◌+◌, ◌-◌, ◌%◌, ◌^◌, ◌<◌, ◌≤◌, List, [], ◌∷◌}
use Rattle.std.proofs.Common.{◌++◌, Bool, true, false, refl, ap, ◌∙◌, arith}
use Rattle.std.specs.Prelude.{◌||◌, All}
use Rattle.std.proofs.Math.Nat.{mod-lt, mod-le}
use Rattle.std.proofs.Math.Pow.{pow_pos}
use Rattle.std.proofs.lemmas.List.Elements.{All-head, All-tail}
use Rattle.rpki_resources.specs.declared.block.Block.{Block}
use Rattle.rpki_resources.specs.declared.family.AddressFamily.{AddressFamily}
use Rattle.rpki_resources.specs.declared.family.AddressFamily.TheVariants.{Ipv4, Ipv6}
use Rattle.rpki_resources.specs.Blocks.{Covers, is_between}
use Rattle.rpki_resources.specs.Prefix.{last_of}
use Rattle.rpki_resources.proofs.Sets.Between.{between-in}
use Rattle.rpki_faults.specs.Checks.{Check, AllHold, IsFirstFault, ◌as_faults_of◌}
use Rattle.rpki_faults.specs.declared.validation.ValidationError.TheVariants.{Verification}
use Rattle.rpki_faults.proofs.Order.{hold-join, hold-shown}
use Rattle.rpki_extensions.specs.declared.claims.Claims.{Claims}
use Rattle.rpki_certs.specs.Validate.{Sets, AreHeld, AreValidated}
use Rattle.rpki_files.specs.Manifest.Checks.{manifest_kind}
use Rattle.rpki_routes.specs.Aspa.{Aspa}
use Rattle.rpki_routes.specs.Aspa.Checks.{aspa_kind, aspa_claimed, aspa_held}
use Rattle.rpki_routes.specs.Roa.{Address, Roa}
use Rattle.rpki_routes.specs.Roa.Checks.{HasNone, HasPrefix, prefix_checks, family_checks, roa_held}
use Rattle.rpki_routes.specs.Roa.Checks.{RoaCovered, roa_kind}
use Rattle.rpki_routes.proofs.Attestations.Meaning.{aspa-covered}
use Rattle.rpki_sigobj.specs.Signed.Kind.{ObjectKind}
use Rattle.rpki_sigobj.proofs.Wholes.Numbers.{same-numbers}

-- ---- lists of checks

-- The lists have the same faults in the same order, and each check holds in both or in none.
abbrev pub SameChecks : {F : Type 0} → List (Check F) → List (Check F) → Type 0
SameChecks [] [] = Unit {0}
SameChecks [] (d ∷ ds) = ⊥
SameChecks (c ∷ cs) [] = ⊥
SameChecks (c ∷ cs) (d ∷ ds) = (c.0 ≡ d.0) × (c.1 → d.1) × (d.1 → c.1) × SameChecks cs ds

module _ {F : Type 0} where
  pub same-self : (cs : List (Check F)) → SameChecks cs cs
  same-self [] = tt
  same-self (c ∷ cs) = (refl, λ h. h, λ h. h, same-self cs)

  pub same-join : (ks bs cs ds : List (Check F)) → SameChecks ks bs → SameChecks cs ds
      → SameChecks (ks ++ cs) (bs ++ ds)
  same-join [] [] cs ds h g = g
  same-join [] (b ∷ bs) cs ds h g = absurd h
  same-join (a ∷ ks) [] cs ds h g = absurd h
  same-join (a ∷ ks) (b ∷ bs) cs ds h g = (h.0, h.1, h.2, same-join ks bs cs ds h.3 g)

  pub same-first : (cs ds : List (Check F)) (fault : F) → SameChecks cs ds
      → IsFirstFault cs fault → IsFirstFault ds fault
  same-first [] [] fault h f = f
  same-first [] (d ∷ ds) fault h f = absurd h
  same-first (c ∷ cs) [] fault h f = absurd h
  same-first (c ∷ cs) (d ∷ ds) fault h (inl f) = inl (h.1 f.0, same-first cs ds fault h.3 f.1)
  same-first (c ∷ cs) (d ∷ ds) fault h (inr f) = inr (λ k. f.0 (h.2 k), f.1 ∙ h.0)

pub same-shown : {F G : Type 0} (show : F → G) (cs ds : List (Check F)) → SameChecks cs ds
    → SameChecks (show as_faults_of cs) (show as_faults_of ds)
same-shown show [] [] h = tt
same-shown show [] (d ∷ ds) h = absurd h
same-shown show (c ∷ cs) [] h = absurd h
same-shown show (c ∷ cs) (d ∷ ds) h = (ap show h.0, h.1, h.2, same-shown show cs ds h.3)

-- ---- sets with the same numbers

-- two validated sets of the same claims have the same numbers
pub all-held : (c : Claims) (issuer a b : Sets) → AreValidated c issuer a → AreValidated c issuer b
    → AreHeld b a
all-held c issuer a b h g = record {
  as_numbers = same-numbers c.policy c.as_numbers issuer.as_numbers a.as_numbers b.as_numbers
      h.as_numbers g.as_numbers;
  v4 = same-numbers c.policy c.addresses.v4 issuer.v4 a.v4 b.v4 h.v4 g.v4;
  v6 = same-numbers c.policy c.addresses.v6 issuer.v6 a.v6 b.v6 h.v6 g.v6;
}

-- What is covered passes the checks of its numbers, which do not depend on how sets are written.
pub record IsSound {X : Type 0} (kind : ObjectKind X) : Type 0 where
  pub passes : (x : X) (c : Claims) (sets : Sets) → kind.covers x c sets
      → AllHold (kind.claimed x c) × AllHold (kind.held x sets)
  pub same : (x : X) (a b : Sets) → AreHeld a b → AreHeld b a
      → SameChecks (kind.held x a) (kind.held x b)

-- ---- manifests

pub manifest-sound : IsSound manifest_kind
manifest-sound = record {
  passes = λ x c sets h. (tt, tt);
  same = λ x a b h g. tt;
}

-- ---- ASPAs

held-aspa : (x : Aspa) (a b : Sets) → AreHeld a b → AreHeld b a
    → SameChecks (aspa_held x a) (aspa_held x b)
held-aspa x a b h g =
    (refl, λ k n i. g.as_numbers n (k n i), λ k n i. h.as_numbers n (k n i), tt)

pub aspa-sound : IsSound aspa_kind
aspa-sound = record {
  passes = λ x c sets h. let r = (aspa-covered x c sets).1 h in (
    hold-shown Verification (aspa_claimed x c) (r.0),
    hold-shown Verification (aspa_held x sets) (r.1),
  );
  same = λ x a b h g.
      same-shown Verification (aspa_held x a) (aspa_held x b) (held-aspa x a b h g);
}

-- ---- ROAs

above-first : (a m p : ℕ) → m < p → m ≤ a → a ≤ a - m + p - 1
above-first a m p h g = omega arith

-- a prefix has its address
first-in : (addr len : ℕ) → is_between addr (last_of addr len) addr ≡ true
first-in addr len = between-in addr (last_of addr len) addr (omega arith)
    (above-first addr (addr % 2 ^ (128 - len)) (2 ^ (128 - len))
    (mod-lt addr (pow_pos (128 - len))) (mod-le addr (2 ^ (128 - len))))

or-yes : (x : Bool) → x ≡ true → (x || false) ≡ true
or-yes x e = rw e refl

-- a set that has a prefix has a number
has-some : (set : List (Block ℕ)) (a : Address) → HasPrefix set a → HasNone set → ⊥
has-some set a h none = none a.prefix.addr (h a.prefix.addr
    (or-yes (is_between a.prefix.addr (last_of a.prefix.addr a.prefix.len) a.prefix.addr)
    (first-in a.prefix.addr a.prefix.len)))

module _ (family : AddressFamily) (set : List (Block ℕ)) where
  each-covered : (list : List Address) → All (HasPrefix set) list
      → AllHold (prefix_checks family set list)
  each-covered [] h = tt
  each-covered (a ∷ list) h =
      (All-head (HasPrefix set) a list h, each-covered list (All-tail (HasPrefix set) a list h))

  some-covered : (list : List Address) → All (HasPrefix set) list → HasNone set → list ≡ []
  some-covered [] h none = refl
  some-covered (a ∷ list) h none =
      absurd (has-some set a (All-head (HasPrefix set) a list h) none)

  family-covered : (list : List Address) → All (HasPrefix set) list
      → AllHold (family_checks family set list)
  family-covered list h = (some-covered list h, each-covered list h)

module _ (family : AddressFamily) (a b : List (Block ℕ)) (h : Covers (λ (n : ℕ). n) a b)
    (g : Covers (λ (n : ℕ). n) b a) where
  same-prefixes : (list : List Address)
      → SameChecks (prefix_checks family a list) (prefix_checks family b list)
  same-prefixes [] = tt
  same-prefixes (p ∷ list) =
      (refl, λ k n i. g n (k n i), λ k n i. h n (k n i), same-prefixes list)

  same-family : (list : List Address)
      → SameChecks (family_checks family a list) (family_checks family b list)
  same-family list = (
    refl,
    λ k none. k (λ n i. none n (g n i)),
    λ k none. k (λ n i. none n (h n i)),
    same-prefixes list,
  )

roa-passes : (r : Roa) (sets : Sets) → RoaCovered r sets → AllHold (roa_held r sets)
roa-passes r sets h = hold-join (family_checks Ipv4 sets.v4 r.v4) (family_checks Ipv6 sets.v6 r.v6)
    (family-covered Ipv4 sets.v4 r.v4 h.v4, family-covered Ipv6 sets.v6 r.v6 h.v6)

held-roa : (r : Roa) (a b : Sets) → AreHeld a b → AreHeld b a
    → SameChecks (roa_held r a) (roa_held r b)
held-roa r a b h g = same-join (family_checks Ipv4 a.v4 r.v4) (family_checks Ipv4 b.v4 r.v4)
    (family_checks Ipv6 a.v6 r.v6) (family_checks Ipv6 b.v6 r.v6)
    (same-family Ipv4 a.v4 b.v4 h.v4 g.v4 r.v4) (same-family Ipv6 a.v6 b.v6 h.v6 g.v6 r.v6)

pub roa-sound : IsSound roa_kind
roa-sound = record {
  passes = λ r c sets h. (tt, hold-shown Verification (roa_held r sets) (roa-passes r sets h));
  same = λ r a b h g.
      same-shown Verification (roa_held r a) (roa_held r b) (held-roa r a b h g);
}
