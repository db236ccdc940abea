-- the octets of an end
use Rattle.std.proofs.Common.{◌≡◌, ℕ, ◌-◌, ◌*◌, List, take, refl}
use Rattle.std.specs.Int.{w128, to_be_bytes}
use Rattle.rpki_der.specs.Write.Written.{value_octets, bit_string_contents}
use Rattle.rpki_resources.specs.Ip.Written.{octet_count, first_bits, end_octets}

pub end_octets-of : (tag : ℕ) (octets : List ℕ) (unused n addr len : ℕ) → tag ≡ 3
    → octets ≡ take n (to_be_bytes w128 addr) → n ≡ octet_count len
    → unused ≡ 8 * octet_count len - len
    → value_octets tag (bit_string_contents octets unused) ≡ end_octets addr len
unfolding first_bits
end_octets-of tag octets unused n addr len e h k u = rw (e, h, k, u) refl

pub first_bits-of : (octets : List ℕ) (unused n addr len : ℕ)
    → octets ≡ take n (to_be_bytes w128 addr) → n ≡ octet_count len
    → unused ≡ 8 * octet_count len - len
    → bit_string_contents octets unused ≡ first_bits addr len
unfolding first_bits
first_bits-of octets unused n addr len h k u = rw (h, k, u) refl
