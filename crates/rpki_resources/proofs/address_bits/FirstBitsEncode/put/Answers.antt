use Rattle.std.proofs.Common.{ℕ, ◌≡◌, List, length, OnOk, OnErr, ◌∙◌, sym, subst, refl, take}
use Rattle.std.specs.Io.KnownBytes.{Appends}
use Rattle.std.specs.Int.{w128, to_be_bytes}
use Rattle.rpki_der.specs.Write.Sink.{AppendsFront}
use Rattle.rpki_resources.proofs.Addresses.Ends.{end_octets-of}
use Rattle.rpki_resources.proofs.address_bits.FirstBitsEncode.put.Goals as goal

-- the octets of the address
octets-are : (g : _) (c : goal.After-put g)
    → c.bit_string.result.contents.octets.now
    ≡ take c.octet_count.result (to_be_bytes w128 c.args.self.now.addr)
octets-are g c = c.bit_string.ensures.octets
    ∙ rw (c.to_be_bytes-octets.ensures, c.to_bits.ensures) refl

pub returns-clause-ok : goal.returns-clause-ok
returns-clause-ok g c =
    let e = end_octets-of c.bit_string.result.tag.octet c.bit_string.result.contents.octets.now
    c.bit_string.result.contents.unused c.octet_count.result c.args.self.now.addr
    c.args.self.now.len c.bit_string.ensures.tag
    (octets-are g c) c.octet_count.ensures.value
    (c.bit_string.ensures.unused ∙ c.unused.ensures) in
    subst (λ (o : List ℕ). OnOk c.put.result
    (Appends (g.W.Sink.taken c.args.out.now) (g.W.Sink.taken c.put.new.out) o))
    e c.put.ensures.ok

pub returns-clause-begun : goal.returns-clause-begun
returns-clause-begun g c =
    let e = end_octets-of c.bit_string.result.tag.octet c.bit_string.result.contents.octets.now
    c.bit_string.result.contents.unused c.octet_count.result c.args.self.now.addr
    c.args.self.now.len c.bit_string.ensures.tag
    (octets-are g c) c.octet_count.ensures.value
    (c.bit_string.ensures.unused ∙ c.unused.ensures) in
    subst (λ (o : List ℕ). OnErr c.put.result
    (AppendsFront (g.W.Sink.taken c.args.out.now) (g.W.Sink.taken c.put.new.out) o))
    e c.put.ensures.begun

pub put-requires-clause-len : goal.put-requires-clause-len
put-requires-clause-len g c =
    let octets : c.bit_string.result.contents.octets.now
    ≡ take c.octet_count.result (to_be_bytes w128 c.args.self.now.addr) =
    c.bit_string.ensures.octets
    ∙ rw (c.to_be_bytes-octets.ensures, c.to_bits.ensures) refl in
    let e = end_octets-of c.bit_string.result.tag.octet c.bit_string.result.contents.octets.now
    c.bit_string.result.contents.unused c.octet_count.result c.args.self.now.addr
    c.args.self.now.len c.bit_string.ensures.tag octets c.octet_count.ensures.value
    (c.bit_string.ensures.unused ∙ c.unused.ensures) in
    subst (λ (o : List ℕ). c.args.len ≡ length o) (sym e) c.requires.len
