-- A handle stands for its certificate, and a refused one is not good.
use Rattle.rpki_rta.proofs.Entering.{refused-bad, seen-same}
use Rattle.rpki_rta.proofs.unchecked.UncheckedCertCandidateCarried.admit.Goals as goal

pub returns-clause-seen : goal.returns-clause-seen
returns-clause-seen g c =
    seen-same g.C.Crypto.is_signed c.args.self.now.cert.now c.args.self.now.crypto.now c.new.result
    c.new.ensures.cert c.new.ensures.crypto c.new.ensures.crl

pub returns-clause-refused : goal.returns-clause-refused
returns-clause-refused g c =
    refused-bad c.args.self.now.cert.now.certificate.tbs c.args.self.now.now.now (λ _. Unit {0})
    c.new.result c.new.ensures.checks
