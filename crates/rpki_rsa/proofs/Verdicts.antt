-- The definitions of signatures as tests.
use Rattle.std.proofs.Common.{◌≡◌, ℕ, List, subst, sym}
use Rattle.std.specs.Prelude.{Decides}
use Rattle.std.proofs.lemmas.Bool.{leb-true, ltb-true, eqb-true, le-leb, lt-ltb, eq-eqb, and_from}
use Rattle.std.proofs.lemmas.Bool.{and_parts}
use Rattle.std.proofs.lemmas.Slice.Eq.{bytes_eq-Decides}
use Rattle.rpki_rsa.specs.Signature.{rsa_key_octets, modulus_in, IsRsaKey, IsSignatureOf}
use Rattle.rpki_rsa.specs.Signature.{IsRsaSignature, is_rsa_key, is_signature_of, is_rsa_signature}
use Rattle.rpki_rsa.proofs.KeyFacts.{modulus-is}

pub key-test : (key : List ℕ) (n : ℕ) → Decides (is_rsa_key key n) (IsRsaKey key n)
unfolding is_rsa_key
key-test key n = (
  λ t.
      let a = (and_parts _ _ t).1 in
      let b = (and_parts _ _ a).1 in
      record {
        octets = (bytes_eq-Decides key (rsa_key_octets n)).0 (and_parts _ _ t).0;
        modulus = record {
          least = leb-true _ _ (and_parts _ _ a).0;
          most = ltb-true _ _ (and_parts _ _ b).0;
          odd = eqb-true _ _ (and_parts _ _ b).1;
        };
      },
  λ h. and_from _ _ ((bytes_eq-Decides key (rsa_key_octets n)).1 h.octets)
      (and_from _ _ (le-leb _ _ h.modulus.least)
      (and_from _ _ (lt-ltb _ _ h.modulus.most) (eq-eqb _ _ h.modulus.odd))),
)

signed-test : (n : ℕ) (message signature : List ℕ)
    → Decides (is_signature_of n message signature) (IsSignatureOf n message signature)
unfolding is_signature_of
signed-test n message signature = (
  λ t.
      let a = (and_parts _ _ t).1 in
      let b = (and_parts _ _ a).1 in
      record {
        long = record {
          least = leb-true _ _ (and_parts _ _ t).0;
          most = ltb-true _ _ (and_parts _ _ a).0;
        };
        below = ltb-true _ _ (and_parts _ _ b).0;
        power = eqb-true _ _ (and_parts _ _ b).1;
      },
  λ h. and_from _ _ (le-leb _ _ h.long.least)
      (and_from _ _ (lt-ltb _ _ h.long.most)
      (and_from _ _ (lt-ltb _ _ h.below) (eq-eqb _ _ h.power))),
)

pub signature-test : (key message signature : List ℕ)
    → Decides (is_rsa_signature key message signature) (IsRsaSignature key message signature)
unfolding is_rsa_signature
signature-test key message signature = (
  λ t. record {
    n = modulus_in key;
    key_is = (key-test key (modulus_in key)).0 (and_parts _ _ t).0;
    signed = (signed-test (modulus_in key) message signature).0 (and_parts _ _ t).1;
  },
  λ h.
      let same : h.n ≡ modulus_in key = sym (modulus-is key h.n h.key_is) in
      and_from _ _
      ((key-test key (modulus_in key)).1 (subst (λ (m : ℕ). IsRsaKey key m) same h.key_is))
      ((signed-test (modulus_in key) message signature).1
      (subst (λ (m : ℕ). IsSignatureOf m message signature) same h.signed)),
)
