-- The number of an encoded message, piece by piece.
use Rattle.std.proofs.Common.{◌≡◌, ℕ, ◌-◌, ◌%◌, ◌<◌, List, [], ◌∷◌, ◌++◌, length}
use Rattle.std.proofs.Common.{get_or, replicate, append_assoc, refl, sym, ap, ◌∙◌, arith}
use Rattle.sha2.specs.Sha256.{sha256}
use Rattle.sha2.proofs.Facts256.{length-sha256}
use Rattle.rpki_der.specs.Numbers.{number}
use Rattle.rpki_der.specs.Tags.{SEQUENCE, OCTET_STRING}
use Rattle.rpki_der.specs.Write.Written.{length_octets, value_octets}
use Rattle.rpki_basics.specs.Algorithm.{sha_256, algorithm_and_null}
use Rattle.rpki_rsa.specs.Limbs.{value}
use Rattle.rpki_rsa.specs.Signature.{digest_info, encoded_message}
use Rattle.rpki_rsa.proofs.LimbFacts.{number-append, value_below-zero}
use Rattle.rpki_rsa.proofs.Remainders.{low-limb-all}

-- a DigestInfo up to its digest
abbrev pub digest_front : List ℕ
digest_front =
    0x30 ∷ 0x31 ∷ 0x30 ∷ 0x0D ∷ 0x06 ∷ 0x09 ∷ 0x60 ∷ 0x86 ∷ 0x48 ∷ 0x01 ∷ 0x65 ∷ 0x03 ∷ 0x04
    ∷ 0x02 ∷ 0x01 ∷ 0x05 ∷ 0x00 ∷ 0x04 ∷ 0x20 ∷ []

-- the same before the OCTET STRING
abbrev algorithm : List ℕ
algorithm =
    0x30 ∷ 0x0D ∷ 0x06 ∷ 0x09 ∷ 0x60 ∷ 0x86 ∷ 0x48 ∷ 0x01 ∷ 0x65 ∷ 0x03 ∷ 0x04 ∷ 0x02 ∷ 0x01
    ∷ 0x05 ∷ 0x00 ∷ []

algorithm-is : algorithm_and_null sha_256 ≡ algorithm
unfolding length_octets
algorithm-is = refl

digest-string : (d : List ℕ) → length d ≡ 32 → value_octets OCTET_STRING d ≡ 0x04 ∷ 0x20 ∷ d
unfolding length_octets
digest-string d e = ap (λ (n : ℕ). 0x04 ∷ (length_octets n ++ d)) e

info-with : (d : List ℕ) → length d ≡ 32
    → value_octets SEQUENCE (algorithm ++ (0x04 ∷ 0x20 ∷ d)) ≡ digest_front ++ d
unfolding length_octets
info-with d e =
    let whole : length (algorithm ++ (0x04 ∷ 0x20 ∷ d)) ≡ 0x31 = omega (arith, e) in
    ap (λ (n : ℕ). 0x30 ∷ (length_octets n ++ (algorithm ++ (0x04 ∷ 0x20 ∷ d)))) whole

pub digest_info-parts : (m : List ℕ) → digest_info m ≡ digest_front ++ sha256 m
unfolding digest_info
digest_info-parts m =
    let d = sha256 m in
    let len : length (sha256 m) ≡ 32 = length-sha256 m in
    ap (λ (a : List ℕ). value_octets SEQUENCE (a ++ value_octets OCTET_STRING (sha256 m)))
    algorithm-is
    ∙ ap (λ (s : List ℕ). value_octets SEQUENCE (algorithm ++ s)) (digest-string (sha256 m) len)
    ∙ info-with (sha256 m) len

pub encoded-parts : (k : ℕ) (m : List ℕ) → encoded_message k m
    ≡ (0x00 ∷ 0x01 ∷ []) ++ (replicate (k - 54) 0xFF
    ++ ((0x00 ∷ []) ++ (digest_front ++ sha256 m)))
unfolding encoded_message
encoded-parts k m =
    let t : List ℕ = digest_front ++ sha256 m in
    let few : k - length (digest_front ++ sha256 m) - 3 ≡ k - 54 =
    omega (arith, length-sha256 m) in
    ap (λ (i : List ℕ). (0x00 ∷ 0x01 ∷ []) ++ (replicate (k - length i - 3) 0xFF
    ++ ((0x00 ∷ []) ++ i))) (digest_info-parts m)
    ∙ ap (λ (j : ℕ). (0x00 ∷ 0x01 ∷ []) ++ (replicate j 0xFF ++ ((0x00 ∷ []) ++ t))) few

-- the number, piece by piece
pub encoded-number : (k : ℕ) (m : List ℕ) (v1 v2 v3 v4 v5 : ℕ) → v1 ≡ number 0 (0 ∷ 1 ∷ [])
    → v2 ≡ number v1 (replicate (k - 54) 0xFF) → v3 ≡ number v2 (0 ∷ [])
    → v4 ≡ number v3 digest_front → v5 ≡ number v4 (sha256 m)
    → v5 ≡ number 0 (encoded_message k m)
encoded-number k m v1 v2 v3 v4 v5 e1 e2 e3 e4 e5 =
    let d = sha256 m in
    let head = 0 ∷ 1 ∷ [] in
    let fill = replicate (k - 54) 0xFF in
    let zero_octet = 0 ∷ [] in
    let info = digest_front ++ d in
    e5 ∙ ap (λ v. number v d) e4 ∙ sym (number-append v3 digest_front d)
    ∙ ap (λ v. number v info) e3 ∙ sym (number-append v2 zero_octet info)
    ∙ ap (λ v. number v (zero_octet ++ info)) e2
    ∙ sym (number-append v1 fill (zero_octet ++ info))
    ∙ ap (λ v. number v (fill ++ (zero_octet ++ info))) e1
    ∙ sym (number-append 0 head (fill ++ (zero_octet ++ info)))
    ∙ ap (number 0) (sym (encoded-parts k m))

-- the pieces in their order
pub encoded-from : (k j : ℕ) (m padded info end : List ℕ) → j ≡ k - 52
    → padded ≡ (0x00 ∷ 0x01 ∷ []) ++ replicate (j - 2) 0xFF → info ≡ 0x00 ∷ digest_front
    → end ≡ sha256 m → (padded ++ info) ++ end ≡ encoded_message k m
encoded-from k j m padded info end e ep ei ee =
    let few : j - 2 ≡ k - 54 = omega (arith, e) in
    let front : List ℕ = 0x00 ∷ 0x01 ∷ replicate (k - 54) 0xFF in
    ap (λ (p : List ℕ). (p ++ info) ++ end) ep
    ∙ ap (λ (n : ℕ). ((0x00 ∷ 0x01 ∷ replicate n 0xFF) ++ info) ++ end) few
    ∙ ap (λ (i : List ℕ). (front ++ i) ++ end) ei
    ∙ ap (λ (d : List ℕ). (front ++ (0x00 ∷ digest_front)) ++ d) ee
    ∙ append_assoc front (0x00 ∷ digest_front) (sha256 m)
    ∙ sym (encoded-parts k m)

parity : (xs : List ℕ) → 0 < length xs → value xs % 2 ≡ get_or xs 0 0 % 2
parity xs h = omega (arith, (low-limb-all xs h).1)

-- an odd number has an odd lowest limb
pub odd-limb : (xs : List ℕ) → value xs % 2 ≡ 1 → get_or xs 0 0 % 2 ≡ 1
odd-limb [] h = absurd (omega (arith, h, value_below-zero []))
odd-limb (x ∷ xs) h = sym (parity (x ∷ xs) (omega arith)) ∙ h
