use Rattle.std.proofs.Common.{List, ℕ, sym, subst}
use Rattle.rpki_der.specs.declared.mode.Mode.TheVariants.{Der}
use Rattle.rpki_sigobj.specs.Object.{SignedForm}
use Rattle.rpki_der.proofs.Form.ReadBack.{only-front, refuses-memory}
use Rattle.rpki_signing.proofs.object.read_back.Goals as goal

pub returns-in-Ok-clause-object : goal.returns-in-Ok-clause-object
returns-in-Ok-clause-object c = λ x h.
    only-front (SignedForm Der) c.in_ok-source.source c.in-Ok.object.object x
    c.in-Ok.ensures.decodes.0 c.in-Ok.ensures.decodes.1
    (subst (λ (o : List ℕ). SignedForm Der o x) (sym c.in_ok-source.ensures.ok) h)

pub only_memory-requires : goal.only_memory-requires
only_memory-requires c =
    refuses-memory (SignedForm Der) c.in_ok-source.source c.requires.0 c.in-Err.fault
    c.in-Err.ensures.decodes
    (subst (λ (o : List ℕ). SignedForm Der o c.requires.0) (sym c.in_ok-source.ensures.ok)
    c.requires.1)
