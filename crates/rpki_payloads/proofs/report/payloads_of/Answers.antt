use Rattle.std.proofs.Common.{◌∙◌, ◌++◌, ℕ, List, ap, subst, sym}
use Rattle.rpki_payloads.specs.Formats.{IsPayloadsText}
use Rattle.rpki_payloads.proofs.report.payloads_of.Goals as goal

pub returns : goal.returns
returns c =
    let said = c.in_ok-push_payloads.ensures in
    subst (λ (t : List ℕ). IsPayloadsText c.args.exceptions.now c.args.format c.args.moment
    c.args.found.now t)
    (sym (said.1 ∙ ap (λ z. z ++ said.0) c.new-text.ensures.bytes)) said.2
