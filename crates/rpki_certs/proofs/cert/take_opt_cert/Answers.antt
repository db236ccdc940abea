use Rattle.std.proofs.Common.{ap, sym, ◌∙◌}
use Rattle.rpki_certs.specs.Cert.{both_in}
use Rattle.rpki_certs.proofs.Certs.Kept.{opt-kept-of}
use Rattle.rpki_certs.proofs.cert.take_opt_cert.Goals as goal

pub of-requires-clause-form : goal.of-requires-clause-form
of-requires-clause-form c =
    opt-kept-of c.args.cons.now c.in-Ok.contents c.in-Some.contents c.in-Ok.captured
    c.take_opt_kept.new.cons c.in-Some.is c.holds_octets.ensures c.in-Ok.ensures.reads
    c.in-Ok.ensures.mode

pub of-requires-clause-names : goal.of-requires-clause-names
of-requires-clause-names c =
    (rw c.in-Some.is at c.in-Ok.ensures.names) ∙ ap both_in (sym c.in-Ok.ensures.mode)
