-- What is written of a set of addresses is in its form.
use Rattle.std.proofs.Common.{◌≡◌, ℕ, ◌+◌, ◌-◌, ◌*◌, ◌/◌, ◌%◌, ◌^◌, ◌<◌, ◌≤◌, Option, None, Some}
use Rattle.std.proofs.Common.{List, [], ◌∷◌, ◌++◌, length, All, inl, inr, refl, sym, ap, arith}
use Rattle.std.proofs.Common.{length-append}
use Rattle.std.specs.List.{flat_map}
use Rattle.std.specs.Int.{w128, trailing_zeros, trailing_ones}
use Rattle.std.proofs.Math.Nat.{mod-eq_of_lt}
use Rattle.std.proofs.lemmas.Bool.Decides.{leb_tells}
use Rattle.std.proofs.lemmas.List.Elements.{All-head, All-tail}
use Rattle.std.proofs.lemmas.Nat.{pow_pos, pow_below, div-add-mod'}
use Rattle.rpki_der.specs.declared.mode.Mode.{Mode}
use Rattle.rpki_der.specs.declared.mode.Mode.TheVariants.{Der, Ber}
use Rattle.rpki_der.specs.Grammar.{Items}
use Rattle.rpki_der.specs.Write.Written.{value_octets}
use Rattle.rpki_der.proofs.Reading.Scan.{tag-sound}
use Rattle.rpki_der.proofs.Writing.Lengths.{value-written}
use Rattle.rpki_resources.specs.declared.block.Block.{Block}
use Rattle.rpki_resources.specs.declared.family.AddressFamily.{AddressFamily}
use Rattle.rpki_resources.specs.Blocks.{RisesFrom, IsCanonical}
use Rattle.rpki_resources.specs.Family.{max_bits, IsWithin}
use Rattle.rpki_resources.specs.Ip.Form.{IpAddress, IpRange, IpPrefixOrRange, IpForm, beginning}
use Rattle.rpki_resources.specs.Ip.Form.{bit_count, lowest, highest}
use Rattle.rpki_resources.specs.Ip.Read.{ip_blocks_at}
use Rattle.rpki_resources.specs.Ip.Written.{end_octets, lower_len, upper_len, contents_by, tag_by}
use Rattle.rpki_resources.specs.Ip.Written.{ip_octets}
use Rattle.rpki_resources.specs.Prefix.{IsPrefix, prefix_len}
use Rattle.rpki_resources.proofs.Addresses.FirstBits.{end_bits, end-count, end-written, end-short}
use Rattle.rpki_resources.proofs.Addresses.FirstBits.{lowest-end}
use Rattle.rpki_resources.proofs.Addresses.FirstBits.{highest-end}
use Rattle.rpki_resources.proofs.Addresses.Exact.{ip-part}
use Rattle.rpki_resources.proofs.Addresses.Within.{max-most}
use Rattle.rpki_resources.proofs.Prefixes.Lengths.{prefix_len-tells, prefix-order}
use Rattle.rpki_der.proofs.Reading.Unique.{part-reading}
use Rattle.rpki_der.specs.Form.Made.{Made}
use Rattle.rpki_der.specs.Tags.{SEQUENCE}
use Rattle.rpki_der.specs.Read.Exact.{IsReading}
use Rattle.std.proofs.lemmas.List.{append-nil}
use Rattle.rpki_resources.proofs.Addresses.Trailing.{lower-dropped, lower-at-least, lower-most}
use Rattle.rpki_resources.proofs.Addresses.Trailing.{upper-dropped}
use Rattle.rpki_resources.proofs.Addresses.Trailing.{upper-at-least, upper-most, other-multiple}

-- ---- ends

pub address-written : (most addr len : ℕ) → most ≤ 128 → len ≤ most
    → IpAddress most Der (end_octets addr len) (end_bits addr len)
address-written most addr len l h =
    (end-written addr len (omega arith), rw (end-count addr len (omega arith)) h)

-- ---- a prefix

-- no longer than an address of the family
prefix-fits : (lo hi len most : ℕ) → IsPrefix lo hi len → most ≤ 128 → lo % 2 ^ (128 - most) ≡ 0
    → (hi + 1) % 2 ^ (128 - most) ≡ 0 → len ≤ most
prefix-fits lo hi len most p l lower upper = elim (leb_tells len most) [
  | inl t ↦ t.1
  | inr t ↦
      let m : ℕ = 2 ^ (128 - most) in
      let size : ℕ = 2 ^ (128 - len) in
      let small : size < m = pow_below (128 - len) (128 - most) (omega (arith, t.1, p.within)) in
      let sum : size + lo ≡ (hi + 1) / m * m =
      omega (arith, p.size, div-add-mod' (hi + 1) m, upper) in
      let none : size % m ≡ 0 = other-multiple size lo ((hi + 1) / m) m sum lower in
      absurd (omega (arith, none, mod-eq_of_lt small, pow_pos (128 - len)))
]

prefix-written : (most : ℕ) (b : Block ℕ) (len : ℕ) → most ≤ 128 → len ≤ most → b.max < 2 ^ 128
    → IsPrefix b.min b.max len → Made beginning (IpAddress most Der) (end_octets b.min len) b
prefix-written most b len l h below p =
    let order = prefix-order b.min b.max len p in
    let pos : 0 < 2 ^ (128 - len) = pow_pos (128 - len) in
    let low : lowest (end_bits b.min len) ≡ b.min =
    lowest-end b.min len (omega arith) (omega arith) p.aligned in
    let after : 2 ^ (128 - bit_count (end_bits b.min len)) ≡ 2 ^ (128 - len) =
    ap (λ (n : ℕ). 2 ^ (128 - n)) (end-count b.min len (omega arith)) in
    let high : highest (end_bits b.min len) ≡ b.max = omega (arith, low, after, p.size) in (
      end_bits b.min len,
      address-written most b.min len l h,
      λ i. record { min = sym low i; max = sym high i },
    )

-- ---- a range

range-short : (lo hi k m : ℕ) → k ≤ 128 → m ≤ 128
    → length (end_octets lo k ++ end_octets hi m) < 2 ^ 32
range-short lo hi k m l h =
    omega (
      arith,
      length-append (end_octets lo k) (end_octets hi m),
      end-short lo k l,
      end-short hi m h,
    )

range-written : (most : ℕ) (b : Block ℕ) → most ≤ 128 → b.min ≤ b.max → b.max < 2 ^ 128
    → b.min % 2 ^ (128 - most) ≡ 0 → (b.max + 1) % 2 ^ (128 - most) ≡ 0
    → IpRange most Der (value_octets SEQUENCE
    (end_octets b.min (lower_len b.min) ++ end_octets b.max (upper_len b.max))) b
range-written most b l order below lower upper =
    let k : ℕ = lower_len b.min in
    let m : ℕ = upper_len b.max in
    let some = lower-most b.min in
    let others = upper-most b.max in
    let first : 128 - k ≡ trailing_zeros w128 b.min = omega arith in
    let second : 128 - m ≡ trailing_ones w128 b.max = omega arith in
    let low : lowest (end_bits b.min k) ≡ b.min =
    lowest-end b.min k (omega arith) (omega arith) (rw first (lower-dropped b.min)) in
    let high : highest (end_bits b.max m) ≡ b.max =
    highest-end b.max m (omega arith) below (rw second (upper-dropped b.max below)) in
    let o : List ℕ = end_octets b.min k in
    let p : List ℕ = end_octets b.max m in (
      (
        o ++ p,
        value-written SEQUENCE (o ++ p) (tag-sound SEQUENCE refl)
            (range-short b.min b.max k m (omega arith) (omega arith)),
        (
          o,
          p,
          refl,
          (
            end_bits b.min k,
            address-written most b.min k l
                (omega (arith, lower-at-least b.min (128 - most) (omega arith) lower)),
            sym low,
          ),
          (
            p,
            [],
            sym (append-nil p),
            (
              end_bits b.max m,
              address-written most b.max m l
                  (omega (arith, upper-at-least b.max (128 - most) below (omega arith) upper)),
              sym high,
            ),
            refl,
          ),
        ),
      ),
      order,
    )

-- ---- all of them

item-by : (family : AddressFamily) (o : Option ℕ) (b : Block ℕ) → prefix_len b.min b.max ≡ o
    → b.min ≤ b.max → IsWithin family b
    → IpPrefixOrRange (max_bits family) Der (value_octets (tag_by o) (contents_by o b)) b
item-by family None b e l w =
    inl (range-written (max_bits family) b (max-most family) l w.below w.lower w.upper)
item-by family (Some len) b e l w =
    let p = prefix_len-tells b.min b.max len e in
    inr (prefix-written (max_bits family) b len (max-most family)
    (prefix-fits b.min b.max len (max_bits family) p (max-most family) w.lower w.upper)
    w.below p)

items-written : (family : AddressFamily) (a : ℕ) (bs : List (Block ℕ)) → RisesFrom (λ n. n) a bs
    → All (IsWithin family) bs
    → Items (IpPrefixOrRange (max_bits family) Der) (flat_map ip_octets bs) bs
items-written family a [] r h = refl
items-written family a (b ∷ bs) r h = (
  ip_octets b,
  flat_map ip_octets bs,
  refl,
  item-by family (prefix_len b.min b.max) b refl r.1 (All-head (IsWithin family) b bs h),
  items-written family (b.max + 2) bs r.2 (All-tail (IsWithin family) b bs h),
)

-- the contents are those of a set
pub ip-written : (family : AddressFamily) (set : List (Block ℕ)) → IsCanonical (λ n. n) set
    → All (IsWithin family) set → length (flat_map ip_octets set) < 2 ^ 32
    → IpForm family Der (value_octets SEQUENCE (flat_map ip_octets set)) set
ip-written family set r h l =
    let contents : List ℕ = flat_map ip_octets set in (
      set,
      (
        contents,
        value-written SEQUENCE contents (tag-sound SEQUENCE refl) l,
        items-written family 0 set r h,
      ),
      record { canonical = r; same = λ n. refl },
    )

pub ip-reading : (family : AddressFamily)
    → IsReading (ip_blocks_at (max_bits family)) (IpForm family)
ip-reading family = part-reading (ip-part family) (λ mode o set h. (SEQUENCE, h.1.0, h.1.1))

ip-in : (family : AddressFamily) (mode : Mode) (o : List ℕ) (set : List (Block ℕ))
    → IpForm family Der o set
    → IpForm family mode o set
ip-in family Der o set h = h
ip-in family Ber o set h = (ip-reading family).relaxed o set h

pub ip-read : (family : AddressFamily) (mode : Mode) (set : List (Block ℕ)) (rest : List ℕ)
    → IsCanonical (λ n. n) set
    → All (IsWithin family) set → length (flat_map ip_octets set) < 2 ^ 32
    → ip_blocks_at (max_bits family) mode (value_octets SEQUENCE (flat_map ip_octets set) ++ rest)
    ≡ Some (set, rest)
ip-read family mode set rest r h l =
    let o : List ℕ = value_octets SEQUENCE (flat_map ip_octets set) in
    ((ip-reading family).exact mode).complete o set rest tt
    (ip-in family mode o set (ip-written family set r h l))
