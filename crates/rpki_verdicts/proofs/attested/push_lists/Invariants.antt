use Rattle.std.proofs.Common.{string_bytes}
use Rattle.rpki_verdicts.specs.Attested.{certificates, list_questions}
use Rattle.rpki_verdicts.proofs.Carrying.{IsGrownTo}
use Rattle.rpki_verdicts.proofs.attested.push_lists.Given as goal

-- the lines of the revocation lists so far are there
abbrev pub invariant-loop-crl : goal.invariant-loop-crl
invariant-loop-crl g l =
    IsGrownTo (g.C.Crypto.is_signed l.crypto) (list_questions (certificates l.carried))
    (λ x. x.list) l.crls l.crl-index (string_bytes l.fn.text) (string_bytes l.text)
