-- The sample's signature is one, step by step.
use Rattle.std.proofs.Common.{◌≡◌, ℕ, zero, suc, ◌+◌, ◌*◌, ◌%◌, ◌^◌, ◌<◌, List, [], ◌∷◌, ◌++◌}
use Rattle.std.proofs.Common.{Bool, true, length, replicate, codes, refl, sym}
use Rattle.std.proofs.Common.{ap, ◌∙◌, arith, subst}
use Rattle.std.specs.Prelude.{nat_lt, ◌&&◌}
use Rattle.std.proofs.lemmas.Bool.{leb-true, ltb-true, and_parts}
use Rattle.std.proofs.lemmas.Nat.{mul-mod_first, mul-mod, pow-add}
use Rattle.std.proofs.Math.Nat.{mod-mod, pow-suc}
use Rattle.sha2.proofs.Facts256.{digest_of_abc_256}
use Rattle.rpki_der.specs.Grammar.{IsBytes}
use Rattle.rpki_der.specs.Numbers.{number}
use Rattle.rpki_rsa.specs.Signature.{encoded_message, IsModulus, IsRsaSignature, HasOctets}
use Rattle.rpki_rsa.specs.KeyParts.{HasContents, HasDigits, IsModulusOf}
use Rattle.rpki_rsa.specs.Sample.{sample_modulus, sample_key, sample_signature}
use Rattle.rpki_rsa.proofs.EncodedParts.{digest_front, encoded-parts}
use Rattle.rpki_rsa.proofs.Remainders.{power-one}
use Rattle.rpki_rsa.proofs.KeyFacts.{key-whole, digits-put, is-modulus-of}

-- ---- a power by squares

square-of : ℕ → ℕ → ℕ
square-of n y = (y * y) % n

-- squared k times
squared : ℕ → ℕ → ℕ → ℕ
squared n x zero = x
squared n x (suc k) = square-of n (squared n x k)

square-same : (n x y : ℕ) → y % n ≡ x % n → square-of n y % n ≡ (x * x) % n
unfolding square-of
square-same n x y e =
    mod-mod (y * y) n ∙ mul-mod y y n ∙ ap (λ (t : ℕ). (t * t) % n) e ∙ sym (mul-mod x x n)

squared-is : (n x k : ℕ) → squared n x k % n ≡ (x ^ 2 ^ k) % n
unfolding squared
squared-is n x zero = ap (λ (t : ℕ). t % n) (sym (power-one x))
squared-is n x (suc k) =
    let twice : 2 ^ k + 2 ^ k ≡ 2 ^ suc k = omega (arith, pow-suc 2 k) in
    square-same n (x ^ 2 ^ k) (squared n x k) (squared-is n x k)
    ∙ ap (λ (t : ℕ). t % n) (sym (pow-add x (2 ^ k) (2 ^ k)) ∙ ap (λ (e : ℕ). x ^ e) twice)

power-is : (n x : ℕ) → (squared n x 16 * x) % n ≡ (x ^ 65537) % n
power-is n x =
    sym (mul-mod_first (squared n x 16) x n)
    ∙ ap (λ (t : ℕ). (t * x) % n) (squared-is n x 16)
    ∙ mul-mod_first (x ^ 2 ^ 16) x n
    ∙ ap (λ (t : ℕ). t % n) (sym (pow-suc x 65536))

-- ---- the sample

are-bytes : List ℕ → Bool
are-bytes [] = true
are-bytes (b ∷ bytes) = nat_lt b 256 && are-bytes bytes

bytes-are : (xs : List ℕ) → are-bytes xs ≡ true → IsBytes xs
unfolding are-bytes
bytes-are [] h = tt
bytes-are (x ∷ xs) h = (ltb-true _ _ (and_parts _ _ h).0, bytes-are xs (and_parts _ _ h).1)

contents : HasContents sample_key (0 ∷ sample_modulus)
unfolding sample_key sample_modulus
contents = key-whole sample_key 257 refl refl refl (omega arith) (omega arith)

octets : HasDigits (0 ∷ sample_modulus) sample_modulus
unfolding sample_modulus
octets = digits-put (0 ∷ sample_modulus) (omega arith) refl (leb-true _ _ refl)

bytes : IsBytes sample_modulus
unfolding sample_modulus are-bytes
bytes = bytes-are sample_modulus refl

modulus : IsModulus (number 0 sample_modulus)
unfolding sample_modulus
modulus = record { least = leb-true _ _ refl; most = ltb-true _ _ refl; odd = refl }

key : IsModulusOf sample_key sample_modulus
key = is-modulus-of sample_key (0 ∷ sample_modulus) sample_modulus contents octets bytes modulus

lengths : length sample_modulus ≡ length sample_signature
unfolding sample_modulus sample_signature
lengths = refl

below : number 0 sample_signature < number 0 sample_modulus
unfolding sample_modulus sample_signature
below = ltb-true _ _ refl

-- the encoded message of this digest
abbrev encoded_of : List ℕ → List ℕ
encoded_of digest =
    (0x00 ∷ 0x01 ∷ []) ++ (replicate 202 0xFF ++ ((0x00 ∷ []) ++ (digest_front ++ digest)))

abbrev digest_of_abc : List ℕ
digest_of_abc =
    0xBA ∷ 0x78 ∷ 0x16 ∷ 0xBF ∷ 0x8F ∷ 0x01 ∷ 0xCF ∷ 0xEA ∷ 0x41 ∷ 0x41 ∷ 0x40 ∷ 0xDE ∷ 0x5D ∷
    0xAE ∷ 0x22 ∷ 0x23 ∷ 0xB0 ∷ 0x03 ∷ 0x61 ∷ 0xA3 ∷ 0x96 ∷ 0x17 ∷ 0x7A ∷ 0x9C ∷ 0xB4 ∷ 0x10 ∷
    0xFF ∷ 0x61 ∷ 0xF2 ∷ 0x00 ∷ 0x15 ∷ 0xAD ∷ []

computed :
    (squared (number 0 sample_modulus)
    (number 0 sample_signature) 16 * number 0 sample_signature) % number 0 sample_modulus
    ≡ number 0 (encoded_of digest_of_abc)
unfolding sample_modulus sample_signature squared square-of
computed = refl

encoded : encoded_message (length sample_signature) (codes "abc") ≡ encoded_of digest_of_abc
unfolding sample_signature
encoded = encoded-parts 256 (codes "abc") ∙ ap encoded_of digest_of_abc_256

pub sample-signed : IsRsaSignature sample_key (codes "abc") sample_signature
sample-signed = record {
  n = number 0 sample_modulus;
  key_is = key.is_key;
  signed = record {
    long = subst (λ (k : ℕ). HasOctets (number 0 sample_modulus) k) lengths key.long;
    below = below;
    power = sym (power-is (number 0 sample_modulus) (number 0 sample_signature)) ∙ computed
        ∙ ap (number 0) (sym encoded);
  };
}
