use Rattle.std.proofs.Common.{sym, ◌∙◌}
use Rattle.rpki_sigobj.proofs.Objects.Kept.{kept-of}
use Rattle.rpki_sigobj.proofs.object.take_object.Goals as goal

pub of-requires-clause-form : goal.of-requires-clause-form
of-requires-clause-form c =
    kept-of c.args.cons.now c.in-Ok.contents c.in-Ok.captured c.take_kept.new.cons
    c.holds_octets.ensures c.in-Ok.ensures.reads c.in-Ok.ensures.mode

pub of-requires-clause-mode : goal.of-requires-clause-mode
of-requires-clause-mode c = c.in-Ok.ensures.cert_mode ∙ sym c.in-Ok.ensures.mode
