use Rattle.rpki_relying_party.proofs.folder.FolderCopy.read_anchor.Goals as goal

pub returns : goal.returns
returns g c = rw (c.deref.ensures.value, c.in_ok-name.ensures) at c.read_below.ensures
