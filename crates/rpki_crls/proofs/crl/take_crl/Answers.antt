use Rattle.std.proofs.Common.{sym, ◌∙◌}
use Rattle.rpki_crls.proofs.Crls.Kept.{kept}
use Rattle.rpki_crls.proofs.crl.take_crl.Goals as goal

pub of-requires-clause-form : goal.of-requires-clause-form
of-requires-clause-form c =
    kept c.args.cons.now c.in-Ok.contents c.in-Ok.captured c.take_kept.new.cons
    c.holds_octets.ensures c.in-Ok.ensures.reads c.in-Ok.ensures.mode

pub of-requires-clause-name : goal.of-requires-clause-name
of-requires-clause-name c = c.in-Ok.ensures.name ∙ sym c.in-Ok.ensures.mode
