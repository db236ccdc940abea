use Rattle.std.proofs.Common.{ap, ◌∙◌}
use Rattle.std.proofs.lemmas.Bool.Decides.{same_from_decides}
use Rattle.rpki_rsa.specs.Signature.{is_rsa_signature}
use Rattle.rpki_rsa.proofs.Verdicts.{signature-test}
use Rattle.rpki_rsa.proofs.rsa.RsaCrypto.verify.Goals as goal

pub returns : goal.returns
returns c =
    let message = c.args.message.now in
    let signature = c.value.result.now in
    same_from_decides _ _ c.is_signed_by.ensures
    (signature-test c.bits.result.now message signature)
    ∙ ap (λ key. is_rsa_signature key message signature) c.bits.ensures
    ∙ ap (λ s. is_rsa_signature c.args.key.now message s) c.value.ensures
