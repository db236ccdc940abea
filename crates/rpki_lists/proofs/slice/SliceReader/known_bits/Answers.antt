use Rattle.rpki_lists.proofs.Known.{bits}
use Rattle.rpki_lists.proofs.slice.SliceReader.known_bits.Goals as goal

pub known_bits_of-requires : goal.known_bits_of-requires
known_bits_of-requires c = (bits _ _ _ c.requires c.known_contents.ensures).some

pub returns : goal.returns
returns c =
    rw (c.known_bits_of.ensures.octets, c.known_bits_of.ensures.unused)
    (bits _ _ _ c.requires c.known_contents.ensures).is
