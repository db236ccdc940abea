-- the first bits of an address, as a BIT STRING of them and as a number
use Rattle.std.proofs.Common.{◌≡◌, ℕ, zero, suc, ◌+◌, ◌-◌, ◌*◌, ◌/◌, ◌%◌, ◌^◌, ◌<◌, ◌≤◌, List, []}
use Rattle.std.proofs.Common.{◌∷◌, take, get_or, length, ap, refl, sym, subst, ◌∙◌, arith, add-one}
use Rattle.std.specs.Int.{w128, to_be_bytes, byte_at, bytes_high_first}
use Rattle.std.proofs.lemmas.Nat.{pow-add, pow_pos, shr-shr, shl-shr, shr_split, shr_high}
use Rattle.std.proofs.lemmas.Nat.{mod_below}
use Rattle.std.proofs.lemmas.List.{length-take-le}
use Rattle.rpki_der.specs.declared.mode.Mode.TheVariants.{Der}
use Rattle.rpki_der.specs.Bits.{IsBits}
use Rattle.rpki_der.specs.Grammar.{BitString}
use Rattle.rpki_der.specs.Numbers.{number}
use Rattle.rpki_der.specs.Write.Written.{value_octets, zero_bits, zero_last, unused_bits}
use Rattle.rpki_der.specs.Write.Written.{bit_string_contents, length_value_octets_le}
use Rattle.rpki_der.proofs.Writing.Strings.{length_zero_last, bits-written, unused-same}
use Rattle.rpki_resources.specs.Ip.Form.{bit_count, bit_value, lowest, highest}
use Rattle.rpki_resources.specs.Ip.Written.{octet_count, first_bits, end_octets}
use Rattle.rpki_resources.proofs.Addresses.Bits.{number-more}
use Rattle.rpki_resources.proofs.Addresses.Trailing.{zeros-after, ones-after}

pow-256-step : (i j : ℕ) → j ≡ i + 1 → 256 ^ i ≡ 2 ^ (8 * i) → 256 ^ j ≡ 2 ^ (8 * j)
pow-256-step i j e h =
    let d : 8 * (i + 1) ≡ 8 * i + 8 = omega arith in
    let two : 2 ^ (8 * (i + 1)) ≡ 2 ^ (8 * i) * 256 = rw d (pow-add 2 (8 * i) 8) in
    rw e (pow-add 256 i 1 ∙ (ap (λ (x : ℕ). x * 256) h ∙ sym two))

pow-256 : (i : ℕ) → 256 ^ i ≡ 2 ^ (8 * i)
pow-256 zero = refl
pow-256 (suc i) = pow-256-step i (suc i) (omega arith) (pow-256 i)

byte-of : (i n : ℕ) → byte_at i n ≡ n / 2 ^ (8 * i) % 256
byte-of zero n = let d : n / 2 ^ (8 * 0) ≡ n = omega arith in rw d refl
byte-of (suc i) n = rw (pow-256 (suc i)) refl

nth : (m k n : ℕ) → k < m → get_or (bytes_high_first m n) k 0 ≡ n / 2 ^ (8 * (m - 1 - k)) % 256
nth zero k n l = absurd (omega arith)
nth (suc m) zero n l = let e : suc m - 1 - 0 ≡ m = omega arith in rw e (byte-of m n)
nth (suc m) (suc k) n l = let e : suc m - 1 - suc k ≡ m - 1 - k = omega arith in
    rw e (nth m k n (omega arith))

-- one more octet
value-more : (k n v o : ℕ) → k < 16 → v ≡ n / 2 ^ (8 * (16 - k)) → o ≡ n / 2 ^ (8 * (15 - k)) % 256
    → v * 256 + o ≡ n / 2 ^ (8 * (15 - k))
value-more k n v o l e h =
    let y : ℕ = n / 2 ^ (8 * (15 - k)) in
    let d : 8 * (16 - k) ≡ 8 * (15 - k) + 8 = omega arith in
    let up : n / 2 ^ (8 * (16 - k)) ≡ n / 2 ^ (8 * (15 - k)) / 2 ^ 8 =
    rw d (sym (shr-shr n (8 * (15 - k)) 8)) in
    let w : v ≡ n / 2 ^ (8 * (15 - k)) / 256 = e ∙ up in
    omega (arith, w, h)

-- the number that the first octets are
value-of-octets : (k n : ℕ) → k ≤ 16 → n < 2 ^ 128
    → number 0 (take k (to_be_bytes w128 n)) ≡ n / 2 ^ (8 * (16 - k))
value-of-octets zero n l h = omega arith
value-of-octets (suc k) n l h =
    let ih = value-of-octets k n (omega arith) h in
    let here : get_or (to_be_bytes w128 n) k 0 ≡ n / 2 ^ (8 * (15 - k)) % 256 =
    nth 16 k n (omega arith) in
    let size : length (to_be_bytes w128 n) ≡ 16 = refl in
    let more = number-more (to_be_bytes w128 n) k (number 0 (take k (to_be_bytes w128 n)))
    (omega arith) refl in
    let e : 16 - suc k ≡ 15 - k = omega arith in
    rw e (rw add-one at (sym more)
    ∙ value-more k n (number 0 (take k (to_be_bytes w128 n))) (get_or (to_be_bytes w128 n) k 0)
    (omega arith) ih here)

-- ---- the bits that are not used

-- an octet without its lowest bits has the same bits above them
dropped-bits : (a o u : ℕ) → u < 8 → (a * 256 + zero_bits o u) / 2 ^ u ≡ (a * 256 + o) / 2 ^ u
dropped-bits a o u l =
    let q : ℕ = a * 2 ^ (8 - u) + o / 2 ^ u in
    let sum : 8 - u + u ≡ 8 = omega arith in
    let whole : a * (2 ^ (8 - u) * 2 ^ u) ≡ a * 256 =
    ap (λ (n : ℕ). a * n) (sym (pow-add 2 (8 - u) u) ∙ ap (λ (n : ℕ). 2 ^ n) sum) in
    let split = shr_split o u in
    let without : a * 256 + zero_bits o u ≡ q * 2 ^ u = omega (arith, whole, split) in
    let all : a * 256 + o ≡ q * 2 ^ u + o % 2 ^ u = omega (arith, whole, split) in
    rw (without, all) (shl-shr q u
    ∙ sym (shr_high q u (o % 2 ^ u) (mod_below o (2 ^ u) (pow_pos u))))

zeros-for-unused : (a : ℕ) (s : List ℕ) (u : ℕ) → u < 8
    → number a (zero_last s u) / 2 ^ u ≡ number a s / 2 ^ u
zeros-for-unused a [] u l = refl
zeros-for-unused a (o ∷ []) u l = dropped-bits a o u l
zeros-for-unused a (o ∷ p ∷ s) u l = zeros-for-unused (a * 256 + o) (p ∷ s) u l

-- ---- the first bits

-- the first len bits of an address
abbrev pub end_bits : ℕ → ℕ → List ℕ × ℕ
end_bits addr len = (
  zero_last (take (octet_count len) (to_be_bytes w128 addr))
      (8 * octet_count len - len),
  8 * octet_count len - len,
)

octets-len : (addr len : ℕ) → len ≤ 128
    → length (take (octet_count len) (to_be_bytes w128 addr)) ≡ octet_count len
octets-len addr len l =
    length-take-le (octet_count len) (to_be_bytes w128 addr)
    (let size : length (to_be_bytes w128 addr) ≡ 16 = refl in omega arith)

are-bits : (addr len : ℕ) → len ≤ 128
    → IsBits (take (octet_count len) (to_be_bytes w128 addr)) (8 * octet_count len - len)
are-bits addr len l =
    record { few = omega arith; none = λ e. omega (arith, e, octets-len addr len l) }

pub end-count : (addr len : ℕ) → len ≤ 128 → bit_count (end_bits addr len) ≡ len
end-count addr len l =
    omega (
      arith,
      length_zero_last (take (octet_count len) (to_be_bytes w128 addr))
          (8 * octet_count len - len),
      octets-len addr len l,
    )

pub end-value : (addr len : ℕ) → len ≤ 128 → addr < 2 ^ 128
    → bit_value (end_bits addr len) ≡ addr / 2 ^ (128 - len)
end-value addr len l h =
    let u : ℕ = 8 * octet_count len - len in
    let sum : 8 * (16 - octet_count len) + u ≡ 128 - len = omega arith in
    zeros-for-unused 0 (take (octet_count len) (to_be_bytes w128 addr)) u (omega arith)
    ∙ ap (λ (n : ℕ). n / 2 ^ u) (value-of-octets (octet_count len) addr (omega arith) h)
    ∙ shr-shr addr (8 * (16 - octet_count len)) u
    ∙ ap (λ (n : ℕ). addr / 2 ^ n) sum

-- what is written of them is a BIT STRING of them
pub end-written : (addr len : ℕ) → len ≤ 128
    → BitString Der (end_octets addr len) (end_bits addr len)
unfolding first_bits
end-written addr len l =
    let s : List ℕ = take (octet_count len) (to_be_bytes w128 addr) in
    let u : ℕ = 8 * octet_count len - len in
    let written = bits-written s u (omega (arith, octets-len addr len l)) in
    subst (λ (v : ℕ). BitString Der (value_octets 3 (bit_string_contents s u)) (zero_last s v, v))
    (unused-same s u (are-bits addr len l)) written

pub end-short : (addr len : ℕ) → len ≤ 128 → length (end_octets addr len) ≤ 23
unfolding first_bits
end-short addr len l =
    let s : List ℕ = take (octet_count len) (to_be_bytes w128 addr) in
    let u : ℕ = 8 * octet_count len - len in
    omega (
      arith,
      length_value_octets_le 3 (bit_string_contents s u),
      length_zero_last s (unused_bits s u),
      octets-len addr len l,
    )

-- ---- the addresses that begin with them

pub lowest-end : (addr len : ℕ) → len ≤ 128 → addr < 2 ^ 128 → addr % 2 ^ (128 - len) ≡ 0
    → lowest (end_bits addr len) ≡ addr
lowest-end addr len l h e =
    rw (end-value addr len l h, end-count addr len l) (zeros-after addr (128 - len) e)

pub highest-end : (addr len : ℕ) → len ≤ 128 → addr < 2 ^ 128 → (addr + 1) % 2 ^ (128 - len) ≡ 0
    → highest (end_bits addr len) ≡ addr
highest-end addr len l h e =
    rw (end-value addr len l h, end-count addr len l) (ones-after addr (128 - len) e)
