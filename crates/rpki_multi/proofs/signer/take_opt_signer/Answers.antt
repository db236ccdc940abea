use Rattle.rpki_multi.proofs.Signers.{read-attested}
use Rattle.rpki_multi.proofs.signer.take_opt_signer.Goals as goal

pub of-requires : goal.of-requires
of-requires c =
    read-attested c.args.cons.now c.in-Some.said c.take_opt_from.new.cons c.holds_octets.ensures
    (rw (c.content_type-kind.ensures, c.in-Some.is) at c.in-Ok.ensures.reads)
    (rw c.in-Some.is at c.in-Ok.ensures.mode)
