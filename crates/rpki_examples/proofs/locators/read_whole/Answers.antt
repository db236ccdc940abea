use Rattle.std.proofs.Common.{ℕ, List, Option, subst}
use Rattle.rpki_tal.specs.Read.{ReadsTal}
use Rattle.rpki_examples.proofs.Cut.{cut-off}
use Rattle.rpki_examples.proofs.locators.read_whole.Goals as goal

pub returns-clause-cut : goal.returns-clause-cut
returns-clause-cut g c = λ text list left comments ends.
    cut-off c.faults_are_no_locators.ensures c.faults_are_one.ensures text list
    (g.S.Source.left c.read_named.new.source) comments ends c.read_named.result
    (subst (λ (o : Option (List ℕ)). ReadsTal o (g.S.Source.left c.read_named.new.source)
    c.read_named.result) left c.read_named.ensures.read)
