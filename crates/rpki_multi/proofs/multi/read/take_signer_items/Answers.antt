use Rattle.std.proofs.Common.{Vec}
use Rattle.std.proofs.lemmas.Result.{err_from_is_err_and}
use Rattle.std.specs.declared.alloc.Global.{Global}
use Rattle.rpki_der.specs.Read.Parse.{optional}
use Rattle.rpki_der.specs.Tags.{SEQUENCE}
use Rattle.rpki_multi.specs.Signer.{id_rta}
use Rattle.rpki_sigobj.specs.SignerInfo.{KeptSigner, signer_info_at}
use Rattle.rpki_multi.proofs.Multis.Items.{items-start, items-more, items-end, items-err}
use Rattle.rpki_multi.proofs.multi.read.take_signer_items.Goals as goal

pub loop-signers-init : goal.loop-signers-init
loop-signers-init c =
    rw c.new-signers.ensures.items
    (items-start (λ (x : KeptSigner). x.signer) (λ x. x.mode)
    (optional SEQUENCE (signer_info_at id_rta)) c.args.cons.now)

pub loop-signers-preserved : goal.loop-signers-preserved
loop-signers-preserved c =
    rw c.in_ok-push.ensures.items
    (items-more (λ (x : KeptSigner). x.signer) (λ x. x.mode)
    (optional SEQUENCE (signer_info_at id_rta)) _ _ _ _ _ c.loop-signers.invariant
    (rw c.in-Some.is at c.in_ok-signer.ensures.reads)
    (rw c.in-Some.is at c.in_ok-signer.ensures.mode)
    (rw c.in-Some.is at c.in_ok-signer.ensures.shorter))

pub returns-in_err-signer-clause-reads : goal.returns-in_err-signer-clause-reads
returns-in_err-signer-clause-reads c =
    let p = err_from_is_err_and c.from_residual.result c.from_residual.ensures.1 in
    rw (p.1, p.2)
    (items-err (λ (x : KeptSigner). x.signer) (λ x. x.mode)
    (optional SEQUENCE (signer_info_at id_rta)) (λ (v : Vec KeptSigner Global). v.items) _ _ _ _
    c.take_opt_from.new.cons c.loop-signers.invariant c.in_err-signer.ensures.reads)

pub returns-clause-reads : goal.returns-clause-reads
returns-clause-reads c =
    items-end (λ (x : KeptSigner). x.signer) (λ x. x.mode)
    (optional SEQUENCE (signer_info_at id_rta)) (λ (v : Vec KeptSigner Global). v.items)
    c.loop-signers.signers _ _ _ c.loop-signers.invariant
    (rw c.in_default.is at c.in_ok-signer.ensures.reads)

pub returns-clause-mode : goal.returns-clause-mode
returns-clause-mode c = c.loop-signers.invariant.1
