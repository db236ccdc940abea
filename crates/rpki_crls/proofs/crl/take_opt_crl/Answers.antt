use Rattle.std.proofs.Common.{sym, ◌∙◌}
use Rattle.rpki_crls.proofs.Crls.Kept.{kept-there}
use Rattle.rpki_crls.proofs.crl.take_opt_crl.Goals as goal

pub of-requires-clause-form : goal.of-requires-clause-form
of-requires-clause-form c =
    kept-there c.args.cons.now c.in-Some.contents c.in-Ok.captured c.take_opt_kept.new.cons
    c.holds_octets.ensures (rw c.in-Some.is at c.in-Ok.ensures.reads) c.in-Ok.ensures.mode

pub of-requires-clause-name : goal.of-requires-clause-name
of-requires-clause-name c =
    (rw c.in-Some.is at c.in-Ok.ensures.name) ∙ sym c.in-Ok.ensures.mode
