use Rattle.std.proofs.Common.{ℕ, ◌-◌, ◌*◌, ◌/◌, ◌^◌, length, refl}
use Rattle.std.proofs.Math.Nat.{mul-mod_left}
use Rattle.rpki_resources.proofs.Addresses.Bits.{value-below, shift-whole, room-below}
use Rattle.rpki_resources.proofs.address_bits.lowest_of.Goals as goal

pub returns-else-len-eq0-clause-value : goal.returns-else-len-eq0-clause-value
returns-else-len-eq0-clause-value c =
    let below = value-below
    (length c.args.octets.now)
    c.args.unused c.value_of.result c.requires.few c.value_of.ensures.small in
    rw c.bit_count-len.ensures
    (rw (shift-whole (c.value_of.result / 2 ^ c.args.unused)
    (8 * length c.args.octets.now - c.args.unused) below c.requires.most)
    (rw c.value_of.ensures.value refl))

pub returns-else-len-eq0-clause-room : goal.returns-else-len-eq0-clause-room
returns-else-len-eq0-clause-room c =
    let below = value-below
    (length c.args.octets.now)
    c.args.unused c.value_of.result c.requires.few c.value_of.ensures.small in
    rw c.bit_count-len.ensures
    (rw (shift-whole (c.value_of.result / 2 ^ c.args.unused)
    (8 * length c.args.octets.now - c.args.unused) below c.requires.most)
    (room-below (c.value_of.result / 2 ^ c.args.unused)
    (8 * length c.args.octets.now - c.args.unused) below c.requires.most))

pub returns-else-len-eq0-clause-aligned : goal.returns-else-len-eq0-clause-aligned
returns-else-len-eq0-clause-aligned c =
    let below = value-below
    (length c.args.octets.now)
    c.args.unused c.value_of.result c.requires.few c.value_of.ensures.small in
    let bits : ℕ = 8 * length c.args.octets.now - c.args.unused in
    rw c.bit_count-len.ensures
    (rw (shift-whole (c.value_of.result / 2 ^ c.args.unused) bits below c.requires.most)
    (mul-mod_left (c.value_of.result / 2 ^ c.args.unused) (2 ^ (128 - bits))))
