-- Numbers of many digits to base 256.
use Rattle.std.proofs.Common.{◌≡◌, ℕ, zero, suc, ◌+◌, ◌*◌, ◌^◌, ◌<◌, ◌≤◌, List, [], ◌∷◌, length}
use Rattle.std.proofs.Common.{get_or, ap, ◌∙◌, arith, inl, inr}
use Rattle.std.proofs.lemmas.List.{ext_get_or}
use Rattle.std.proofs.lemmas.Bool.{cases_lt}
use Rattle.std.proofs.lemmas.Nat.{mul-add-lt}
use Rattle.std.proofs.Math.Nat.{add-mul, mul_assoc, pow-suc, pow-succ', pow-le-pow_right}
use Rattle.rpki_der.specs.Numbers.{number}
use Rattle.rpki_der.specs.Grammar.{IsBytes}
use Rattle.rpki_der.proofs.Reading.Integers.{Holds}

pub number-from : (ds : List ℕ) (n : ℕ) → number n ds ≡ n * 256 ^ length ds + number 0 ds
number-from [] n = omega arith
number-from (d ∷ ds) n =
    let h : number (n * 256 + d) ds ≡ (n * 256 + d) * 256 ^ length ds + number 0 ds =
    number-from ds (n * 256 + d) in
    let k : number (0 * 256 + d) ds ≡ (0 * 256 + d) * 256 ^ length ds + number 0 ds =
    number-from ds (0 * 256 + d) in
    let p : n * 256 ^ suc (length ds) ≡ n * (256 * 256 ^ length ds) =
    ap (λ (x : ℕ). n * x) (pow-succ' 256 (length ds)) in
    let q : n * 256 * 256 ^ length ds ≡ n * (256 * 256 ^ length ds) =
    mul_assoc n 256 (256 ^ length ds) in
    let r : (n * 256 + d) * 256 ^ length ds ≡ n * 256 * 256 ^ length ds + d * 256 ^ length ds =
    add-mul (n * 256) d (256 ^ length ds) in
    let s : (0 * 256 + d) * 256 ^ length ds ≡ d * 256 ^ length ds =
    ap (λ (x : ℕ). x * 256 ^ length ds) (omega arith) in
    omega (arith, h, k, p, q, r, s)

pub number-head : (d : ℕ) (ds : List ℕ) → number 0 (d ∷ ds) ≡ d * 256 ^ length ds + number 0 ds
number-head d ds =
    number-from ds (0 * 256 + d) ∙ ap (λ (m : ℕ). m * 256 ^ length ds + number 0 ds) (omega arith)

pub number-below : (ds : List ℕ) → IsBytes ds → number 0 ds < 256 ^ length ds
number-below [] h = omega arith
number-below (d ∷ ds) h =
    let k : number 0 ds < 256 ^ length ds = number-below ds h.1 in
    let m : d * 256 ^ length ds + number 0 ds < 256 ^ length ds * 256 =
    mul-add-lt d (256 ^ length ds) (number 0 ds) 256 h.0 k in
    rw (number-head d ds, pow-suc 256 (length ds)) m

below20 : (ds : List ℕ) → IsBytes ds → length ds ≤ 20 → number 0 ds < 2 ^ 160
below20 ds h l =
    let a : number 0 ds < 256 ^ length ds = number-below ds h in
    let b : 256 ^ length ds ≤ 256 ^ 20 =
    pow-le-pow_right {n = 256} (omega arith) {i = length ds} {j = 20} l in
    omega (arith, a, b)

pub at_least : (d b : ℕ) → 1 ≤ d → b ≤ d * b
at_least d b h = grind arith

enough20 : (d : ℕ) (ds : List ℕ) → 1 ≤ d → number 0 (d ∷ ds) < 2 ^ 160 → length (d ∷ ds) ≤ 20
enough20 d ds h l = elim (cases_lt (length ds) 20) [
  | inl lt ↦ omega arith
  | inr ge ↦
      let b : 256 ^ 20 ≤ 256 ^ length ds =
      pow-le-pow_right {n = 256} (omega arith) {i = 20} {j = length ds} ge in
      let c : 256 ^ length ds ≤ d * 256 ^ length ds = at_least d (256 ^ length ds) h in
      let e : number 0 (d ∷ ds) ≡ d * 256 ^ length ds + number 0 ds = number-head d ds in
      absurd (omega (arith, b, c, e, l))
]

pub holds20 : Holds 20 (2 ^ 160)
holds20 = record { below = below20; enough = enough20 }

-- octets that begin with zeros and go on with these
pub record Padded (octets ds : List ℕ) (start : ℕ) : Type 0 where
  pub len : length octets ≡ start + length ds
  pub zeros : (k : ℕ) → k < start → get_or octets k 0 ≡ 0
  pub same : (k : ℕ) → k < length ds → get_or octets (start + k) 0 ≡ get_or ds k 0

pub padded-number : (start : ℕ) (octets ds : List ℕ) → Padded octets ds start
    → number 0 octets ≡ number 0 ds
padded-number zero octets ds p =
    ap (number 0) (ext_get_or 0 octets ds (p.len ∙ omega arith)
    (λ k l. ap (λ (i : ℕ). get_or octets i 0) (omega arith) ∙ p.same k (omega (arith, p.len))))
padded-number (suc start) [] ds p = absurd (let l : 0 ≡ suc start + length ds = p.len in
    omega arith)
padded-number (suc start) (o ∷ octets) ds p =
    let zero-is : o ≡ 0 = p.zeros 0 (omega arith) in
    let rest : Padded octets ds start = record {
      len = let l : suc (length octets) ≡ suc start + length ds = p.len in omega arith;
      zeros = λ k l. p.zeros (suc k) (omega arith);
      same = λ k l.
          ap (λ (i : ℕ). get_or (o ∷ octets) i 0)
          (let q : suc (start + k) ≡ suc start + k = omega arith in q)
          ∙ p.same k l;
    } in
    ap (λ (n : ℕ). number (0 * 256 + n) octets) zero-is ∙ padded-number start octets ds rest
