-- Other octets are another number, and other digests another encoded message.
use Rattle.std.proofs.Common.{◌≡◌, ℕ, zero, suc, ◌-◌, List, [], ◌∷◌, ◌++◌}
use Rattle.std.proofs.Common.{length}
use Rattle.std.proofs.Common.{replicate, refl, sym, ap, subst, ◌∙◌, arith}
use Rattle.std.specs.Prelude.{slice_index}
use Rattle.std.specs.Int.{w32, to_be_bytes}
use Rattle.sha2.specs.Sha256.{sha256, digest_bytes, final_hash, initial_hash_256}
use Rattle.sha2.proofs.Facts256.{length-sha256}
use Rattle.rpki_der.specs.Grammar.{IsBytes}
use Rattle.rpki_der.specs.Numbers.{number}
use Rattle.rpki_rsa.specs.Signature.{encoded_message, IsSignatureOf, IsRsaSignature}
use Rattle.rpki_rsa.proofs.EncodedParts.{digest_front, encoded-parts, encoded-number}
use Rattle.rpki_rsa.proofs.KeyFacts.{one-modulus}
use Rattle.rpki_der.proofs.Reading.Unique.{bytes-both}
use Rattle.rpki_der.proofs.Writing.Numbers.{number-injective}

bytes-word : (x : ℕ) → IsBytes (to_be_bytes w32 x)
bytes-word x = (omega arith, (omega arith, (omega arith, (omega arith, tt))))

bytes-digest : (h : List ℕ) (n : ℕ) → IsBytes (digest_bytes h n)
unfolding digest_bytes
bytes-digest h zero = tt
bytes-digest h (suc n) =
    bytes-both (digest_bytes h n) (to_be_bytes w32 (slice_index h n)) (bytes-digest h n)
    (bytes-word (slice_index h n))

bytes-sha256 : (m : List ℕ) → IsBytes (sha256 m)
unfolding sha256
bytes-sha256 m = bytes-digest (final_hash initial_hash_256 m) 8

-- the number of an encoded message up to the digest
abbrev front_number : ℕ → ℕ
front_number k =
    number (number (number (number 0 (0 ∷ 1 ∷ [])) (replicate (k - 54) 0xFF)) (0 ∷ [])) digest_front

front-then : (k : ℕ) (m : List ℕ)
    → number (front_number k) (sha256 m) ≡ number 0 (encoded_message k m)
front-then k m = encoded-number k m _ _ _ _ _ refl refl refl refl refl

same-digest : (k : ℕ) (a b : List ℕ)
    → number 0 (encoded_message k a) ≡ number 0 (encoded_message k b) → sha256 a ≡ sha256 b
same-digest k a b e =
    (number-injective (sha256 a) (sha256 b) (front_number k) (front_number k)
    (length-sha256 a ∙ sym (length-sha256 b)) (bytes-sha256 a) (bytes-sha256 b)
    (front-then k a ∙ e ∙ sym (front-then k b))).1

pub message-digest : (key a b s : List ℕ) → IsRsaSignature key a s → IsRsaSignature key b s
    → sha256 a ≡ sha256 b
message-digest key a b s h i =
    let same : i.n ≡ h.n = one-modulus key i.n h.n i.key_is h.key_is in
    let other : IsSignatureOf h.n b s =
    subst (λ (n : ℕ). IsSignatureOf n b s) same i.signed in
    same-digest (length s) a b (sym h.signed.power ∙ other.power)

same-encoded : (k : ℕ) (a b : List ℕ) → sha256 a ≡ sha256 b
    → encoded_message k a ≡ encoded_message k b
same-encoded k a b e =
    encoded-parts k a
    ∙ ap (λ (d : List ℕ). (0x00 ∷ 0x01 ∷ []) ++ (replicate (k - 54) 0xFF
    ++ ((0x00 ∷ []) ++ (digest_front ++ d)))) e
    ∙ sym (encoded-parts k b)

pub digest-message : (key a b s : List ℕ) → sha256 a ≡ sha256 b → IsRsaSignature key a s
    → IsRsaSignature key b s
digest-message key a b s e h = record {
  n = h.n;
  key_is = h.key_is;
  signed = record {
    long = h.signed.long;
    below = h.signed.below;
    power = h.signed.power ∙ ap (number 0) (same-encoded (length s) a b e);
  };
}
