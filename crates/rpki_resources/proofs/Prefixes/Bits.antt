-- What is made of the bits in hand is what is read of a BIT STRING of them.
use Rattle.std.proofs.Common.{◌≡◌, ℕ, true, false, List, Some, None, refl}
use Rattle.std.proofs.Math.Nat.{lt_of_not-le}
use Rattle.std.proofs.lemmas.Bool.{le-leb, lt-leb}
use Rattle.std.specs.Prelude.{nat_le}
use Rattle.rpki_der.specs.declared.mode.Mode.{Mode}
use Rattle.rpki_der.specs.Bits.{IsBits}
use Rattle.rpki_der.specs.Read.Parse.{bits_at, tested}
use Rattle.rpki_resources.specs.declared.family.AddressFamily.{AddressFamily}
use Rattle.rpki_resources.specs.Family.{max_bits}
use Rattle.rpki_resources.specs.Ip.Form.{IsNetworkOf, bit_count, network}
use Rattle.rpki_resources.specs.Ip.Read.{ip_address_at, prefix_at}
use Rattle.rpki_resources.specs.Prefix.{Network}

module _ (family : AddressFamily) (mode : Mode) (octets rest : List ℕ) (bits : List ℕ × ℕ)
    (is : bits_at mode octets ≡ Some (bits, rest)) where
  pub network-read : (p : Network) → IsNetworkOf family bits p
      → prefix_at (max_bits family) mode octets ≡ Some (p, rest)
  unfolding ip_address_at tested
  network-read p h =
      let few : nat_le (bit_count bits) (max_bits family) ≡ true = le-leb _ _ h.most in
      rw (is, few, h.same) refl

  pub network-refused : IsBits bits.0 bits.1 → ((p : Network) → IsNetworkOf family bits p → ⊥)
      → prefix_at (max_bits family) mode octets ≡ None
  unfolding ip_address_at tested
  network-refused valid none =
      let many : nat_le (bit_count bits) (max_bits family) ≡ false = lt-leb _ _ (lt_of_not-le (λ le.
      none (network bits) (record { string = valid; most = le; same = refl }))) in
      rw (is, many) refl
