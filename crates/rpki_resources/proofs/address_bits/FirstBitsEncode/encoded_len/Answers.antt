use Rattle.std.proofs.Common.{ℕ, ◌≡◌, ◌<◌, ◌^◌, List, length, ◌∙◌, subst, refl, take}
use Rattle.std.specs.Int.{w128, to_be_bytes}
use Rattle.rpki_der.specs.Write.Encode.{IsLenOf}
use Rattle.rpki_der.specs.Write.Written.{value_octets, bit_string_contents}
use Rattle.rpki_resources.proofs.Addresses.Ends.{first_bits-of}
use Rattle.rpki_resources.proofs.address_bits.FirstBitsEncode.encoded_len.Goals as goal

pub returns : goal.returns
returns c =
    let octets : c.bit_string.result.contents.octets.now
    ≡ take c.octet_count.result (to_be_bytes w128 c.args.self.now.addr) =
    c.bit_string.ensures.octets
    ∙ rw (c.to_be_bytes-octets.ensures, c.to_bits.ensures) refl in
    let contents = first_bits-of c.bit_string.result.contents.octets.now
    c.bit_string.result.contents.unused c.octet_count.result c.args.self.now.addr
    c.args.self.now.len octets c.octet_count.ensures.value
    (c.bit_string.ensures.unused ∙ c.unused.ensures) in
    let written = bit_string_contents c.bit_string.result.contents.octets.now
    c.bit_string.result.contents.unused in
    subst (λ (o : List ℕ). IsLenOf (Unit {0}) (length o < 2 ^ 32)
    (value_octets 3 o) c.encoded_len.result) contents
    (subst (λ (t : ℕ). IsLenOf (Unit {0}) (length written < 2 ^ 32)
    (value_octets t written) c.encoded_len.result)
    c.bit_string.ensures.tag c.encoded_len.ensures)
