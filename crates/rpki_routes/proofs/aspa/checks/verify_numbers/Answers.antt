use Rattle.std.proofs.Common.{sym, ◌∙◌}
use Rattle.rpki_routes.proofs.aspa.checks.verify_numbers.Goals as goal
use Rattle.rpki_routes.proofs.Attestations.Meaning.{explicit-first}

pub returns-in-Explicit : goal.returns-in-Explicit
returns-in-Explicit c =
    explicit-first c.args.customer c.args.cert.now.certificate.tbs.extensions.claims.as_numbers
    c.in-Explicit.set (sym (c.claim.ensures ∙ c.as_resources.ensures) ∙ c.in-Explicit.is) _
    c.verify_blocks.ensures
