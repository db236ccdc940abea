use Rattle.std.proofs.Common.{ap, ◌∙◌}
use Rattle.std.proofs.lemmas.Bool.Decides.{same_from_decides}
use Rattle.rpki_verdicts.specs.Listed.{is_listed}
use Rattle.rpki_verdicts.proofs.Listed.{listed-decided}
use Rattle.rpki_verdicts.proofs.crypto.VerdictsCrypto.verify.Goals as goal

pub returns : goal.returns
returns c =
    let lines = c.args.self.now in
    let message = c.args.message.now in
    let signature = c.value.result.now in
    same_from_decides _ _ c.is_listed.ensures
    (listed-decided lines c.bits.result.now message signature)
    ∙ ap (λ key. is_listed lines key message signature) c.bits.ensures
    ∙ ap (λ s. is_listed lines c.args.key.now message s) c.value.ensures
