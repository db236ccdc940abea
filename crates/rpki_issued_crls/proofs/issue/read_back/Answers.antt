use Rattle.std.proofs.Common.{List, ℕ, sym, subst}
use Rattle.rpki_der.specs.declared.mode.Mode.TheVariants.{Der}
use Rattle.rpki_crls.specs.Crl.{CrlForm}
use Rattle.rpki_der.proofs.Form.ReadBack.{only-front, refuses-memory}
use Rattle.rpki_issued_crls.proofs.issue.read_back.Goals as goal

pub returns-in-Ok-clause-list : goal.returns-in-Ok-clause-list
returns-in-Ok-clause-list c = λ x h.
    only-front (CrlForm Der) c.in_ok-source.source c.in-Ok.list.list x
    c.in-Ok.ensures.decodes.0 c.in-Ok.ensures.decodes.1
    (subst (λ (o : List ℕ). CrlForm Der o x) (sym c.in_ok-source.ensures.ok) h)

pub only_memory-requires : goal.only_memory-requires
only_memory-requires c =
    refuses-memory (CrlForm Der) c.in_ok-source.source c.requires.0 c.in-Err.fault
    c.in-Err.ensures.decodes
    (subst (λ (o : List ℕ). CrlForm Der o c.requires.0) (sym c.in_ok-source.ensures.ok)
    c.requires.1)
