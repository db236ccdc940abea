use Rattle.std.proofs.Common.{length}
use Rattle.rpki_der.specs.Read.Parse.{optional}
use Rattle.rpki_der.specs.Tags.{SEQUENCE}
use Rattle.rpki_multi.specs.Signer.{id_rta}
use Rattle.rpki_sigobj.specs.SignerInfo.{KeptSigner, signer_info_at}
use Rattle.rpki_multi.proofs.Multis.Items.{ReadItems}
use Rattle.rpki_multi.proofs.multi.read.take_signer_items.Given as goal

abbrev pub invariant-loop-signers : goal.invariant-loop-signers
invariant-loop-signers l =
    ReadItems (λ (x : KeptSigner). x.signer) (λ x. x.mode)
    (optional SEQUENCE (signer_info_at id_rta)) l.signers.items l.fn.cons l.cons

abbrev pub decreases-loop-signers : goal.decreases-loop-signers
decreases-loop-signers l = length l.cons.rest
