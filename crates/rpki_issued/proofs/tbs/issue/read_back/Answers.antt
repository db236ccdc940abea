use Rattle.std.proofs.Common.{List, ℕ, sym, subst}
use Rattle.rpki_der.specs.declared.mode.Mode.TheVariants.{Der}
use Rattle.rpki_certs.specs.Cert.{CertForm}
use Rattle.rpki_der.proofs.Form.ReadBack.{only-front, refuses-memory}
use Rattle.rpki_issued.proofs.tbs.issue.read_back.Goals as goal

pub returns-in-Ok-clause-certificate : goal.returns-in-Ok-clause-certificate
returns-in-Ok-clause-certificate c = λ x h.
    only-front (CertForm Der) c.in_ok-source.source c.in-Ok.cert.certificate x
    c.in-Ok.ensures.decodes.0 c.in-Ok.ensures.decodes.1
    (subst (λ (o : List ℕ). CertForm Der o x) (sym c.in_ok-source.ensures.ok) h)

pub only_memory-requires : goal.only_memory-requires
only_memory-requires c =
    refuses-memory (CertForm Der) c.in_ok-source.source c.requires.0 c.in-Err.fault
    c.in-Err.ensures.decodes
    (subst (λ (o : List ℕ). CertForm Der o c.requires.0) (sym c.in_ok-source.ensures.ok)
    c.requires.1)
