use Rattle.rpki_relying_party.specs.Steps.{has_key}
use Rattle.rpki_program.specs.Verify.Files.{folder_with}
use Rattle.rpki_program.proofs.Foldered.{unnamed-is}
use Rattle.rpki_program.proofs.verify.folders.state_unnamed.Goals as goal

pub returns-clause-state : goal.returns-clause-state
returns-clause-state g c =
    unnamed-is (folder_with (g.S.Store.told c.args.store.now) c.args.folder) c.args.hash.now
    (has_key c.in_ok-made.made.known) c.in_ok-made.made.unread c.in_ok-made.ensures.digests
    c.state-state.result c.state-state.ensures
