-- The blocks of a set of addresses that is read are blocks of addresses of the family.
use Rattle.std.proofs.Common.{◌≡◌, ℕ, ◌+◌, ◌-◌, ◌*◌, ◌/◌, ◌%◌, ◌^◌, ◌<◌, ◌≤◌, List, [], ◌∷◌, ◌++◌}
use Rattle.std.proofs.Common.{length, All, min, max, inl, inr, sym, subst, arith}
use Rattle.std.proofs.Math.Nat.{mod-one, mul-mod_left}
use Rattle.std.proofs.lemmas.Bool.Decides.{leb_tells}
use Rattle.std.proofs.lemmas.Nat.{pow-add, pow_pos, div-add-mod'}
use Rattle.std.proofs.lemmas.List.{append-nil}
use Rattle.std.proofs.lemmas.List.Elements.{All-weaker}
use Rattle.rpki_der.specs.declared.mode.Mode.{Mode}
use Rattle.rpki_der.specs.Grammar.{IsBytes}
use Rattle.rpki_der.specs.Numbers.{number}
use Rattle.rpki_der.proofs.Reading.Exact.{IsBytes-left, IsBytes-right, IsBytes-contents}
use Rattle.rpki_resources.specs.declared.block.Block.{Block}
use Rattle.rpki_resources.specs.declared.family.AddressFamily.{AddressFamily}
use Rattle.rpki_resources.specs.declared.family.AddressFamily.TheVariants.{Ipv4, Ipv6}
use Rattle.rpki_resources.specs.Blocks.{IsBlock}
use Rattle.rpki_resources.specs.Family.{max_bits, IsWithin}
use Rattle.rpki_resources.specs.Ip.Form.{bit_count, bit_value, lowest, highest, IpAddress}
use Rattle.rpki_resources.specs.Ip.Form.{IpPrefixOrRange}
use Rattle.rpki_resources.specs.Ip.Form.{IpForm}
use Rattle.rpki_resources.specs.Joined.{merged, joined}
use Rattle.rpki_resources.specs.Prefix.{IsPrefix}
use Rattle.rpki_resources.proofs.Addresses.Bits.{small-more, value-below, room-below}
use Rattle.rpki_resources.proofs.Addresses.Exact.{item-block}
use Rattle.rpki_resources.proofs.Sets.Joining.{joined-all}
use Rattle.rpki_resources.proofs.Sets.Listed.{set-joined}
use Rattle.rpki_der.proofs.Form.Words.{items-all, items-bytes}
use Rattle.rpki_der.specs.Tags.{BIT_STRING, SEQUENCE}

-- ---- the ends

-- n digits to base 256 make a number of 8 * n bits
pub number-small : (a i : ℕ) (s : List ℕ) → a < 2 ^ (8 * i) → IsBytes s
    → number a s < 2 ^ (8 * (i + length s))
number-small a i [] l h = let e : i + 0 ≡ i = omega arith in rw e l
number-small a i (o ∷ s) l h =
    let e : i + length (o ∷ s) ≡ i + 1 + length s = omega arith in
    rw e (number-small (a * 256 + o) (i + 1) s (small-more a o i l h.0) h.1)

pub value-small : (bits : List ℕ × ℕ) → IsBytes bits.0 → bits.1 < 8
    → bit_value bits < 2 ^ bit_count bits
value-small bits h l =
    let e : 0 + length bits.0 ≡ length bits.0 = omega arith in
    value-below (length bits.0) bits.1 (number 0 bits.0) l
    (rw e at (number-small 0 0 bits.0 (omega arith) h))

-- after the bits of an address stand as many others as after all bits of the family, and more
multiple : (q len most : ℕ) → len ≤ most → most ≤ 128 → q * 2 ^ (128 - len) % 2 ^ (128 - most) ≡ 0
multiple q len most l h =
    let s : 128 - len ≡ (most - len) + (128 - most) = omega arith in
    let e : q * 2 ^ (128 - len) ≡ (q * 2 ^ (most - len)) * 2 ^ (128 - most) =
    rw (s, pow-add 2 (most - len) (128 - most)) (omega arith) in
    rw e (mul-mod_left (q * 2 ^ (most - len)) (2 ^ (128 - most)))

pub max-most : (family : AddressFamily) → max_bits family ≤ 128
max-most Ipv4 = omega arith
max-most Ipv6 = omega arith

-- ---- a block

address-bits : (mode : Mode) (most : ℕ) (o : List ℕ) (bits : List ℕ × ℕ) → IsBytes o
    → IpAddress most mode o bits → IsBytes bits.0 × (bits.1 < 8)
address-bits mode most o bits bytes h =
    let c : IsBytes h.0.0 =
    IsBytes-contents mode o o [] BIT_STRING h.0.0 (sym (append-nil o)) h.0.1 bytes in
    let all : IsBytes (bits.1 ∷ bits.0) = subst IsBytes h.0.2.0 c in
    (all.1, h.0.2.1.few)

-- from the addresses that begin with some bits to those that begin with others
abbrev spanned : List ℕ × ℕ → List ℕ × ℕ → Block ℕ
spanned lower upper = record { min = lowest lower; max = highest upper }

spanned-within : (family : AddressFamily) (mode : Mode) (o p : List ℕ) (lower upper : List ℕ × ℕ)
    → IsBytes o → IsBytes p
    → IpAddress (max_bits family) mode o lower → IpAddress (max_bits family) mode p upper
    → IsWithin family (spanned lower upper)
spanned-within family mode o p lower upper first second h k =
    let most = max-most family in
    let bits = address-bits mode (max_bits family) p upper second k in
    let small = value-small upper bits.0 bits.1 in
    let room = room-below (bit_value upper) (bit_count upper) small (omega (arith, most, k.1)) in
    let pos = pow_pos (128 - bit_count upper) in
    let next : highest upper + 1 ≡ (bit_value upper + 1) * 2 ^ (128 - bit_count upper) =
    omega (arith, pos) in
    record {
      lower = multiple (bit_value lower) (bit_count lower) (max_bits family) h.1 most;
      upper = rw next (multiple (bit_value upper + 1) (bit_count upper) (max_bits family) k.1 most);
      below = omega (arith, pos, room);
    }

item-within : (family : AddressFamily) (mode : Mode) (o : List ℕ) (b : Block ℕ)
    → IsBytes o × IpPrefixOrRange (max_bits family) mode o b → IsWithin family b
item-within family mode o b (bytes, inl h) =
    let c : IsBytes h.0.0 =
    IsBytes-contents mode o o [] SEQUENCE h.0.0 (sym (append-nil o)) h.0.1 bytes in
    let k = h.0.2 in
    let parts : IsBytes (k.0 ++ k.1) = subst IsBytes k.2 c in
    let second : IsBytes (k.4.0 ++ k.4.1) = subst IsBytes k.4.2 (IsBytes-right k.0 k.1 parts) in
    let is : b ≡ spanned k.3.0 k.4.3.0 = λ i. record { min = k.3.2 i; max = k.4.3.2 i } in
    subst (IsWithin family) (sym is) (spanned-within family mode k.0 k.4.0 k.3.0 k.4.3.0
    (IsBytes-left k.0 k.1 parts) (IsBytes-left k.4.0 k.4.1 second) k.3.1 k.4.3.1)
item-within family mode o b (bytes, inr h) =
    subst (IsWithin family) (sym h.2) (spanned-within family mode o o h.0 h.0 bytes bytes h.1 h.1)

-- ---- two that touch

either-one : (P : ℕ → Type 0) (a b : ℕ) → P a → P b → P (min a b) × P (max a b)
either-one P a b h k = elim (leb_tells a b) [
  | inl t ↦ let e : min a b ≡ a = omega (arith, t.1) in let d : max a b ≡ b = omega (arith, t.1) in
      rw (e, d) (h, k)
  | inr t ↦ let e : min a b ≡ b = omega (arith, t.1) in let d : max a b ≡ a = omega (arith, t.1) in
      rw (e, d) (k, h)
]

merged-within : (family : AddressFamily) (b c : Block ℕ) → IsWithin family b → IsWithin family c
    → IsWithin family (merged b c)
merged-within family b c h k = record {
  lower = (either-one (λ n. n % 2 ^ (128 - max_bits family) ≡ 0) b.min c.min h.lower k.lower).0;
  upper = (either-one (λ n. (n + 1) % 2 ^ (128 - max_bits family) ≡ 0)
      b.max c.max h.upper k.upper).1;
  below = omega (arith, h.below, k.below);
}

-- ---- a set

pub set-within : (family : AddressFamily) (mode : Mode) (o : List ℕ) (set : List (Block ℕ))
    → IsBytes o → IpForm family mode o set → All (IsWithin family) set
set-within family mode o set bytes h =
    let k = h.1 in
    let c : IsBytes k.0 =
    IsBytes-contents mode o o [] SEQUENCE k.0 (sym (append-nil o)) k.1 bytes in
    let most : ℕ = max_bits family in
    let blocks = items-all (IpPrefixOrRange most mode) (IsBlock (λ n. n))
    (item-block most mode) k.0 h.0 k.2 in
    let same : set ≡ joined h.0 = set-joined h.0 set blocks h.2 in
    let each = items-all (λ p b. IsBytes p × IpPrefixOrRange most mode p b) (IsWithin family)
    (item-within family mode)
    k.0 h.0 (items-bytes (IpPrefixOrRange most mode) k.0 h.0 c k.2) in
    rw same (joined-all (IsWithin family) (merged-within family) h.0 each)

-- each address of 128 bits is one of IPv6
six-within : (b : Block ℕ) → b.max < 2 ^ 128 → IsWithin Ipv6 b
six-within b h = record { lower = mod-one b.min; upper = mod-one (b.max + 1); below = h }

pub set-six : (set : List (Block ℕ)) → All (λ b. b.max < 2 ^ 128) set → All (IsWithin Ipv6) set
set-six set h = All-weaker (λ (b : Block ℕ). b.max < 2 ^ 128) (IsWithin Ipv6) six-within set h

-- the addresses of a prefix of no more bits than the family has are addresses of it
pub prefix-within : (family : AddressFamily) (lo hi len : ℕ) → IsPrefix lo hi len → hi < 2 ^ 128
    → len ≤ max_bits family → IsWithin family (record { min = lo; max = hi })
prefix-within family lo hi len p h l =
    let size : ℕ = 2 ^ (128 - len) in
    let q : ℕ = lo / size in
    let low : lo ≡ q * size = omega (arith, div-add-mod' lo size, p.aligned) in
    let high : hi + 1 ≡ (q + 1) * size = omega (arith, p.size, low) in
    record {
      lower = rw low (multiple q len (max_bits family) l (max-most family));
      upper = rw high (multiple (q + 1) len (max_bits family) l (max-most family));
      below = h;
    }
