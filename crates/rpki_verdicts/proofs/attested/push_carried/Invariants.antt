use Rattle.std.proofs.Common.{◌++◌, string_bytes}
use Rattle.rpki_verdicts.specs.Attested.{carried_questions, certificates}
use Rattle.rpki_verdicts.proofs.Carrying.{IsGrownTo}
use Rattle.rpki_verdicts.proofs.attested.push_carried.Given as goal

-- the lines of the certificates so far are there
abbrev pub invariant-loop-cert : goal.invariant-loop-cert
invariant-loop-cert g l =
    IsGrownTo (g.C.Crypto.is_signed l.crypto)
    (carried_questions (certificates l.carried ++ certificates l.supplied)) (λ c. c.certificate)
    l.carried l.cert-index (string_bytes l.fn.text) (string_bytes l.text)
