use Rattle.std.proofs.Common.{string_bytes}
use Rattle.rpki_verdicts.specs.Attested.{named_question}
use Rattle.rpki_verdicts.proofs.Carrying.{IsGrownTo}
use Rattle.rpki_verdicts.proofs.lines.push_named.Given as goal

-- the lines of the certificates so far are there
abbrev pub invariant-loop-cert : goal.invariant-loop-cert
invariant-loop-cert g l =
    IsGrownTo (g.C.Crypto.is_signed l.crypto) (named_question l.id l.message l.signature)
    (λ c. c.certificate) l.certs l.cert-index (string_bytes l.fn.text) (string_bytes l.text)
