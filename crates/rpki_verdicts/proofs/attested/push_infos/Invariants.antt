use Rattle.std.proofs.Common.{string_bytes}
use Rattle.rpki_verdicts.specs.Attested.{certificates, info_questions}
use Rattle.rpki_verdicts.proofs.Carrying.{IsGrownTo}
use Rattle.rpki_verdicts.proofs.attested.push_infos.Given as goal

-- the lines of the signers so far are there
abbrev pub invariant-loop-info : goal.invariant-loop-info
invariant-loop-info g l =
    IsGrownTo (g.C.Crypto.is_signed l.crypto) (info_questions (certificates l.carried))
    (λ x. x.signer) l.infos l.info-index (string_bytes l.fn.text) (string_bytes l.text)
