use Rattle.std.proofs.Common.{ap, ◌∙◌, codes}
use Rattle.rpki_relying_party.specs.Names.{without_end}
use Rattle.rpki_relying_party.proofs.Endings.{cut, kept}
use Rattle.rpki_relying_party.proofs.folder.names.locator_name.Goals as goal

pub returns-in-Some : goal.returns-in-Some
returns-in-Some c =
    cut (codes ".tal") c.last_name-file.result.now _ c.in-Some.ensures.cases
    ∙ ap (without_end (codes ".tal")) c.last_name-file.ensures

pub returns-in-None : goal.returns-in-None
returns-in-None c =
    kept (codes ".tal") c.last_name-file.result.now c.in-None.ensures.cases
    ∙ ap (without_end (codes ".tal")) c.last_name-file.ensures
