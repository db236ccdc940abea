-- Prefixes, and sets of addresses, are read exactly.
use Rattle.std.proofs.Common.{ℕ, ◌-◌, List, inl, inr, refl, arith}
use Rattle.std.specs.Prelude.{nat_le}
use Rattle.std.proofs.lemmas.Bool.{leb-true, le-leb}
use Rattle.std.proofs.lemmas.Nat.{pow_pos}
use Rattle.rpki_der.specs.declared.mode.Mode.{Mode}
use Rattle.rpki_der.specs.Tags.{SEQUENCE, BIT_STRING}
use Rattle.rpki_der.specs.Read.Parse.{bits_at, bits_of}
use Rattle.rpki_der.specs.Form.Made.{made}
use Rattle.rpki_der.proofs.Reading.Skips.{Takes}
use Rattle.rpki_der.proofs.Reading.UpToEnd.{takes-in, takes-primitive}
use Rattle.rpki_der.proofs.Form.Taking.{takes-made, takes-tested, takes-choice}
use Rattle.rpki_der.specs.Form.Law.{nothing, is, or, IsPart}
use Rattle.rpki_der.specs.Form.Parts.{sequence_at}
use Rattle.rpki_der.proofs.Form.Fields.{field, guard, done, within-if}
use Rattle.rpki_der.proofs.Form.Words.{make, pass, choice}
use Rattle.rpki_der.proofs.Form.Kinds.{bits-part}
use Rattle.rpki_resources.specs.declared.block.Block.{Block}
use Rattle.rpki_resources.specs.declared.family.AddressFamily.{AddressFamily}
use Rattle.rpki_resources.specs.Blocks.{IsBlock}
use Rattle.rpki_resources.specs.Family.{max_bits}
use Rattle.rpki_resources.specs.Ip.Form.{bit_count, lowest, highest, beginning, network, IpAddress}
use Rattle.rpki_resources.specs.Ip.Form.{IpRange, IpPrefixOrRange, IpForm, PrefixForm}
use Rattle.rpki_resources.specs.Ip.Read.{ip_address_at, ip_ends_at, ip_item_at, ip_blocks_at}
use Rattle.rpki_resources.specs.Ip.Read.{ip_items_at, prefix_at}
use Rattle.rpki_resources.proofs.Sets.Listed.{set-part}

-- the bits of an end
pub address-part : (most : ℕ) → IsPart (is BIT_STRING) nothing (ip_address_at most) (IpAddress most)
unfolding ip_address_at
address-part most = pass (λ bits. nat_le (bit_count bits) most) bits-part
    (λ bits. (leb-true (bit_count bits) most, le-leb (bit_count bits) most))

-- a range
range : (most : ℕ) → IsPart (is SEQUENCE) nothing (sequence_at (ip_ends_at most)) (IpRange most)
unfolding ip_ends_at
range most = within-if SEQUENCE (
    field (λ b. b.min) (make lowest (address-part most)) (λ lower.
    field (λ b. b.max) (make highest (address-part most)) (λ upper.
    guard (nat_le lower upper) (λ b k. le-leb _ _ (rw (k.0.1, k.1) k.0.0)) (λ le.
    done (record { min = lower; max = upper }) ((leb-true _ _ le, refl), refl)
    (λ b k i. record { min = k.0.1 i; max = k.1 i }))) refl) refl)

-- a range, or a prefix
pub ip-item : (most : ℕ)
    → IsPart (or (is SEQUENCE) (is BIT_STRING)) nothing (ip_item_at most) (IpPrefixOrRange most)
ip-item most = choice SEQUENCE (range most) (make beginning (address-part most)) refl

beginning-block : (bits : List ℕ × ℕ) → IsBlock (λ n. n) (beginning bits)
beginning-block bits = let some = pow_pos (128 - bit_count bits) in omega (arith, some)

-- the lower end of a block is not above its upper end
pub item-block : (most : ℕ) (mode : Mode) (o : List ℕ) (b : Block ℕ) → IpPrefixOrRange most mode o b
    → IsBlock (λ n. n) b
item-block most mode o b (inl h) = h.1
item-block most mode o b (inr h) = rw h.2 (beginning-block h.0)

-- a set
pub ip-part : (family : AddressFamily)
    → IsPart (is SEQUENCE) nothing (ip_blocks_at (max_bits family)) (IpForm family)
unfolding ip_items_at
ip-part family = set-part (item-block (max_bits family)) (ip-item (max_bits family))

-- a prefix
pub prefix-part : (family : AddressFamily)
    → IsPart (is BIT_STRING) nothing (prefix_at (max_bits family)) (PrefixForm family)
prefix-part family = make network (address-part (max_bits family))

-- ---- each takes an octet at least

address-takes : (most : ℕ) (mode : Mode) → Takes (ip_address_at most mode)
unfolding ip_address_at
address-takes most mode = takes-tested (λ bits. nat_le (bit_count bits) most) bits_at mode
    (takes-primitive BIT_STRING bits_of mode)

pub ip-takes : (most : ℕ) (mode : Mode) → Takes (ip_item_at most mode)
ip-takes most mode = takes-choice SEQUENCE (sequence_at (ip_ends_at most))
    (made beginning (ip_address_at most)) mode
    (takes-in SEQUENCE (ip_ends_at most) mode)
    (takes-made beginning (ip_address_at most) mode (address-takes most mode))
