-- What is built of addresses.
use Rattle.std.proofs.Common.{◌≡◌, ℕ, zero, suc, ◌+◌, ◌-◌, ◌*◌, ◌/◌, ◌^◌, ◌≤◌, ◌<◌, Bool, true}
use Rattle.std.proofs.Common.{false, List, [], ◌∷◌, length, get_or, All, Some, inl, inr, refl}
use Rattle.std.proofs.Common.{sym, subst, ap, ◌∙◌, arith, length-append, Result, Err}
use Rattle.std.specs.Prelude.{◌||◌}
use Rattle.std.proofs.lemmas.List.Elements.{All-nil, All-cons, All-head, All-tail, All-weaker}
use Rattle.std.proofs.lemmas.List.Elements.{All-map}
use Rattle.std.proofs.lemmas.Nat.{div-add-mod', div_below, pow_pos, pow-add}
use Rattle.rpki_basics.specs.declared.build.BuildError.{BuildError}
use Rattle.rpki_basics.specs.declared.build.BuildFault.{BuildFault}
use Rattle.rpki_der.specs.declared.encode.EncodeError.{EncodeError}
use Rattle.rpki_der.specs.declared.encode.EncodeError.TheVariants.{NotDer, TooLong, Io, Memory}
use Rattle.rpki_der.specs.Write.Encode.{Fits, IsLenOf}
use Rattle.rpki_lists.specs.Entries.{HoldEntries, entries_of}
use Rattle.rpki_lists.specs.Built.{IsNotBuilt}
use Rattle.rpki_der.specs.declared.mode.Mode.TheVariants.{Der}
use Rattle.rpki_der.specs.Tags.{OCTET_STRING, SEQUENCE}
use Rattle.rpki_der.specs.Grammar.{IsBytes}
use Rattle.rpki_der.specs.Read.Parse.{all_of}
use Rattle.rpki_der.specs.Write.Written.{length_octets, value_octets, number_octets}
use Rattle.rpki_der.specs.Write.Written.{length_value_octets_le}
use Rattle.rpki_faults.specs.Checks.{AllHold, AnswersFirstFault, IsFirstFault}
use Rattle.rpki_faults.proofs.Order.{first-fails, first-join, hold-join}
use Rattle.rpki_resources.specs.declared.block.Block.{Block}
use Rattle.rpki_resources.specs.declared.family.AddressFamily.{AddressFamily}
use Rattle.rpki_resources.specs.declared.family.AddressFamily.TheVariants.{Ipv4, Ipv6}
use Rattle.rpki_resources.specs.declared.resources.Claim.{Claim}
use Rattle.rpki_resources.specs.Blocks.{Covers, Holds, holds, within}
use Rattle.rpki_resources.specs.Claim.{HasBlocks, claim_of}
use Rattle.rpki_resources.specs.Family.{IsWithin}
use Rattle.rpki_resources.specs.Family.Form.{afi}
use Rattle.rpki_resources.specs.Prefix.{Network, last_of}
use Rattle.rpki_resources.proofs.Addresses.Aligned.{built}
use Rattle.rpki_resources.proofs.Addresses.Bits.{room-below}
use Rattle.rpki_resources.proofs.Addresses.Within.{max-most, prefix-within}
use Rattle.rpki_routes.specs.Roa.{Address, Roa, IsAddress, IsPrefixOf, IsRoa}
use Rattle.rpki_routes.specs.Roa.Built.{IsClaimOf, address_checks, list_checks, ranges_of}
use Rattle.rpki_routes.specs.Roa.Built.{roa_checks}
use Rattle.rpki_routes.specs.Roa.Checks.{HasPrefix, range_of}
use Rattle.rpki_routes.specs.Roa.Form.{RoaForm}
use Rattle.rpki_routes.specs.Roa.Read.{address_at}
use Rattle.rpki_routes.specs.Roa.Written.{address_contents, address_octets, families_octets}
use Rattle.rpki_routes.specs.Roa.Written.{family_contents, family_octets, list_octets, roa_contents}
use Rattle.rpki_routes.specs.Roa.Written.{roa_octets}
use Rattle.rpki_lists.proofs.Listed.{entries-held, entries-read, not-built}
use Rattle.rpki_routes.proofs.Origins.Chains.{later-first}
use Rattle.rpki_routes.proofs.Origins.Exact.{of-either, plain-part}
use Rattle.rpki_routes.proofs.Origins.Facts.{roa-facts}
use Rattle.rpki_routes.proofs.Origins.Written.{address-short, address-written}

-- ---- the checks

module _ (family : AddressFamily) where
  address-passes : (a : Address) → IsAddress family a → AllHold (address_checks family a)
  address-passes a h = (h.prefix.within, (h.longest, tt))

  -- addresses of the family pass the checks
  pub list-passes : (list : List Address) → All (IsAddress family) list
      → AllHold (list_checks family list)
  list-passes [] h = tt
  list-passes (a ∷ list) h =
      hold-join (address_checks family a) (list_checks family list) (
        address-passes a (All-head (IsAddress family) a list h),
        list-passes list (All-tail (IsAddress family) a list h),
      )

  -- a fault of an address is the first of all, where those before it are of the family
  pub first-at : (list : List Address) (i : ℕ) (d : Address) (fault : BuildFault) → i < length list
      → ((k : ℕ) → k < i → IsAddress family (get_or list k d))
      → IsFirstFault (address_checks family (get_or list i d)) fault
      → IsFirstFault (list_checks family list) fault
  first-at [] i d fault lt before h = absurd (omega (arith, lt))
  first-at (a ∷ list) zero d fault lt before h =
      first-join (address_checks family a) (list_checks family list) fault (inl h)
  first-at (a ∷ list) (suc i) d fault lt before h =
      first-join (address_checks family a) (list_checks family list) fault (inr (
        address-passes a (before 0 (omega arith)),
        first-at list i d fault (omega (arith, lt)) (λ k l. before (suc k) (omega (arith, l))) h,
      ))

-- the same, of an address that is read there
pub first-of : (family : AddressFamily) (list : List Address) (i : ℕ) (a : Address)
    (fault : BuildFault) → i < length list → a ≡ get_or list i a
    → ((k : ℕ) (d : Address) → k < i → IsAddress family (get_or list k d))
    → IsFirstFault (address_checks family a) fault → IsFirstFault (list_checks family list) fault
first-of family list i a fault lt same before h =
    first-at family list i a fault lt (λ k l. before k a l)
    (subst (λ (b : Address). IsFirstFault (address_checks family b) fault) same h)

-- what a ROA may say passes the checks
pub roa-passes : (r : Roa) → IsRoa r → AllHold (roa_checks r)
roa-passes r h = hold-join (list_checks Ipv4 r.v4) (list_checks Ipv6 r.v6)
    (list-passes Ipv4 r.v4 h.v4, list-passes Ipv6 r.v6 h.v6)

-- the first fault of the addresses of IPv4 is that of the content
pub first-front : (r s : Roa) (fault : BuildFault) → r ≡ s
    → IsFirstFault (list_checks Ipv4 r.v4) fault → IsFirstFault (roa_checks s) fault
first-front r s fault same h =
    subst (λ (t : Roa). IsFirstFault (roa_checks t) fault) same
    (first-join (list_checks Ipv4 r.v4) (list_checks Ipv6 r.v6) fault (inl h))

-- where those of IPv4 pass, what is answered of those of IPv6 is answered of the content
pub answers-later : (r s : Roa) (result : Result (Unit {0}) BuildFault) → r ≡ s
    → AllHold (list_checks Ipv4 r.v4) → AnswersFirstFault (list_checks Ipv6 r.v6) result
    → AnswersFirstFault (roa_checks s) result
answers-later r s result same held h =
    subst (λ (t : Roa). AnswersFirstFault (roa_checks t) result) same
    (later-first (list_checks Ipv4 r.v4) (list_checks Ipv6 r.v6) result held h)

-- what does not pass them is said by no content
pub not-said : (r : Roa) (fault : BuildFault) → IsFirstFault (roa_checks r) fault
    → (octets : List ℕ) → IsBytes octets → RoaForm octets r → ⊥
not-said r fault h octets bytes form =
    first-fails (roa_checks r) fault h (roa-passes r (roa-facts octets r bytes form))

-- ---- a list

-- addresses that are written are read
pub addresses-read : (family : AddressFamily) (list : List Address) → All (IsAddress family) list
    → all_of address_at Der (list_octets list) ≡ Some list
addresses-read family list h = entries-read plain-part address_octets list
    (λ i d l. (of-either family _ _ (address-written family _ (h i d l))).0)

-- a value has no fewer octets than its contents
contents-within : (tag : ℕ) (contents : List ℕ)
    → length contents ≤ length (value_octets tag contents)
contents-within tag contents =
    omega (arith, length-append (length_octets (length contents)) contents)

-- the octets of a list are not more than those of its family
list-in-family : (family : AddressFamily) (list : List Address)
    → length (list_octets list) ≤ length (family_octets family list)
list-in-family family [] = omega arith
list-in-family family (a ∷ list) = omega (
  arith,
  contents-within SEQUENCE (list_octets (a ∷ list)),
  length-append (value_octets OCTET_STRING (afi family))
      (value_octets SEQUENCE (list_octets (a ∷ list))),
  contents-within SEQUENCE (family_contents family (a ∷ list)),
)

-- where the content is short, so is each list
pub lists-short : (r : Roa) → length (roa_contents r) < 2 ^ 32
    → (length (list_octets r.v4) < 2 ^ 32) × (length (list_octets r.v6) < 2 ^ 32)
lists-short r short =
    let v4 = list-in-family Ipv4 r.v4 in
    let v6 = list-in-family Ipv6 r.v6 in
    let both = length-append (family_octets Ipv4 r.v4) (family_octets Ipv6 r.v6) in
    let families = contents-within SEQUENCE (families_octets r) in
    let fields =
    length-append (number_octets r.as_id) (value_octets SEQUENCE (families_octets r)) in (
      omega (arith, short, v4, both, families, fields),
      omega (arith, short, v6, both, families, fields),
    )

-- where each value is short, and the octets of all are few, they can be counted
pub each-short : (family : AddressFamily) (list : List Address) → All (IsAddress family) list
    → All (λ (a : Address). length (address_contents a) < 2 ^ 32) list
each-short family list h = All-weaker (IsAddress family)
    (λ (a : Address). length (address_contents a) < 2 ^ 32) (address-short family) list h

-- octets that are written of addresses, handed on as others, hold these
pub list-held : (family : AddressFamily) (octets : List ℕ) (l list : List Address)
    → octets ≡ list_octets l → l ≡ list → All (IsAddress family) list
    → HoldEntries address_at octets × (entries_of address_at octets ≡ list)
list-held family octets l list written same all =
    subst (λ (x : List Address). HoldEntries address_at octets
    × (entries_of address_at octets ≡ x)) same
    (entries-held address_at octets (list_octets l) l written
    (addresses-read family l (subst (All (IsAddress family)) (sym same) all)))

-- why addresses of a family are not written: they are too many, or memory ran out
unwritten : (family : AddressFamily) (l : List Address) (e : BuildError)
    → All (IsAddress family) l → IsNotBuilt [] (¬ Fits
    (All (λ (a : Address). length (address_contents a) < 2 ^ 32) l) (list_octets l)) e
    → IsNotBuilt [] (¬ (length (list_octets l) < 2 ^ 32)) e
unwritten family l e all h =
    not-built [] _ _ e tt
    (λ long short. long (each-short family l all, omega (arith, short))) h

pub list-unwritten : (family : AddressFamily) (l list : List Address) (e : BuildError)
    → l ≡ list → All (IsAddress family) list → IsNotBuilt [] (¬ Fits
    (All (λ (a : Address). length (address_contents a) < 2 ^ 32) l) (list_octets l)) e
    → IsNotBuilt [] (¬ (length (list_octets list) < 2 ^ 32)) e
list-unwritten family l list e same all h =
    subst (λ (x : List Address). IsNotBuilt [] (¬ (length (list_octets x) < 2 ^ 32)) e) same
    (unwritten family l e (subst (All (IsAddress family)) (sym same) all) h)

-- a content whose length is not found is too long
pub too-long : (r s : Roa) (e : EncodeError) → r ≡ s
    → IsLenOf (Unit {0}) (length (roa_contents r) < 2 ^ 32) (roa_octets r) (Err e)
    → length (roa_contents s) < 2 ^ 32 → ⊥
too-long r s NotDer same h short = h tt
too-long r s TooLong same h short =
    let few : length (roa_contents r) < 2 ^ 32 =
    subst (λ (t : Roa). length (roa_contents t) < 2 ^ 32) (sym same) short in
    h (few, omega (arith, few, length_value_octets_le SEQUENCE (roa_contents r)))
too-long r s Io same h short = h
too-long r s Memory same h short = h

-- ---- a claim

or-more : (a b : Bool) → (a || false) ≡ true → (a || b) ≡ true
or-more true b h = refl
or-more false b h = absurd cc

or-later : (a b : Bool) → b ≡ true → (a || b) ≡ true
or-later true b h = refl
or-later false b h = h

-- a set of the addresses of prefixes has each prefix
has-each : (list : List Address) (set : List (Block ℕ))
    → Covers (λ (m : ℕ). m) set (ranges_of list) → All (HasPrefix set) list
has-each [] set h = All-nil (HasPrefix set)
has-each (a ∷ list) set h =
    let others : List (Block ℕ) = ranges_of list in
    All-cons (HasPrefix set) a list
    (λ n i. h n (or-more (within (λ (m : ℕ). m) n (range_of a.prefix))
    (holds (λ (m : ℕ). m) others n) i))
    (has-each list set (λ n i. h n (or-later (within (λ (m : ℕ). m) n (range_of a.prefix))
    (holds (λ (m : ℕ). m) others n) i)))

stands-for : (s set : List (Block ℕ)) → HasBlocks (claim_of s) set → set ≡ s
stands-for [] set h = h
stands-for (b ∷ bs) set h = h

module _ (list : List Address) (claim : Claim (List (Block ℕ))) (set : List (Block ℕ))
    (h : IsClaimOf list claim) (blocks : HasBlocks claim set) where
  -- what is claimed is the set of its prefixes
  pub claim-same : set ≡ h.set
  claim-same = stands-for h.set set
      (subst (λ (c : Claim (List (Block ℕ))). HasBlocks c set) h.claimed blocks)

  -- what is claimed for prefixes has each of them
  pub claim-has : All (HasPrefix set) list
  claim-has = has-each list set (λ n i.
      subst (λ (s : List (Block ℕ)). Holds (λ (m : ℕ). m) s n) (sym claim-same)
      (h.addresses.same n ∙ i))

-- a prefix of a family has addresses of it
prefix-in : (family : AddressFamily) (p : Network) → IsPrefixOf family p
    → IsWithin family (range_of p)
prefix-in family p is =
    let most = max-most family in
    let host : ℕ = 128 - p.len in
    let size : ℕ = 2 ^ host in
    let q : ℕ = p.addr / size in
    let pos : 0 < size = pow_pos host in
    let low : q * size ≡ p.addr = omega (arith, div-add-mod' p.addr size, is.aligned) in
    let sum : p.len + host ≡ 128 = omega (arith, is.within, most) in
    let whole : 2 ^ p.len * size ≡ 2 ^ 128 =
    rw (← pow-add 2 p.len host) (ap (λ (k : ℕ). 2 ^ k) sum) in
    let few : q < 2 ^ p.len =
    div_below p.addr size (2 ^ p.len) pos (omega (arith, whole, is.address)) in
    let room : q * size + size ≤ 2 ^ 128 =
    room-below q p.len few (omega (arith, is.within, most)) in
    prefix-within family p.addr (last_of p.addr p.len) p.len
    (record {
      within = omega (arith, is.within, most);
      aligned = is.aligned;
      size = omega (arith, is.aligned, pos);
    })
    (omega (arith, room, low, pos, is.aligned)) is.within

ranges-within : (family : AddressFamily) (list : List Address) → All (IsAddress family) list
    → All (IsWithin family) (ranges_of list)
ranges-within family list h =
    All-map (IsWithin family) (λ (a : Address). range_of a.prefix) list
    (All-weaker (IsAddress family) (λ (a : Address). IsWithin family (range_of a.prefix))
    (λ (a : Address) is. prefix-in family a.prefix is.prefix) list h)

-- what is claimed for prefixes of a family are addresses of it
pub claim-within : (family : AddressFamily) (list : List Address)
    (claim : Claim (List (Block ℕ))) (set : List (Block ℕ)) → All (IsAddress family) list
    → IsClaimOf list claim → HasBlocks claim set → All (IsWithin family) set
claim-within family list claim set are h blocks =
    subst (λ (s : List (Block ℕ)). All (IsWithin family) s)
    (sym (claim-same list claim set h blocks))
    (built family (ranges_of list) h.set (ranges-within family list are) h.addresses.canonical
    h.addresses.same)
