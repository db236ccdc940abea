use Rattle.rpki_der.specs.declared.mode.Mode.TheVariants.{Der}
use Rattle.rpki_der.proofs.Form.Decoders.{decodes}
use Rattle.rpki_examples.specs.Peers.{PeerList}
use Rattle.rpki_examples.proofs.PeersExact.{peers-part}
use Rattle.rpki_examples.proofs.peers.PeerList.decode.Goals as goal

pub returns : goal.returns
returns c =
    decodes peers-part Der c.args.source (λ (p : PeerList). p) c.read_front.result
    (rw c.as_slice.ensures at c.slices_hold_octets.ensures.octets) c.read_front.ensures
