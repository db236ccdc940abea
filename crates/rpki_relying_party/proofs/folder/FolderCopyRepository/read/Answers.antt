use Rattle.std.proofs.Common.{◌≡◌, rules, true, false}
use Rattle.rpki_relying_party.specs.Folders.{is_kept}
use Rattle.rpki_relying_party.proofs.Copies.{of-kept, of-path}
use Rattle.rpki_relying_party.proofs.folder.FolderCopyRepository.read.Goals as goal

pub returns-then-is_kept : goal.returns-then-is_kept
returns-then-is_kept g c =
    let kept : is_kept c.args.uri.now ≡ true = search rules in
    of-kept (g.F.Folders.finds c.args.self.now.folders.now c.args.self.now.folder.now)
    c.args.self.now.name.now c.args.uri.now c.args.most c.read_anchor.result kept
    c.read_anchor.ensures

pub returns-else-is_kept : goal.returns-else-is_kept
returns-else-is_kept g c =
    let other : is_kept c.args.uri.now ≡ false = search rules in
    of-path (g.F.Folders.finds c.args.self.now.folders.now c.args.self.now.folder.now)
    c.args.self.now.name.now c.args.uri.now c.args.most c.read_below.result other
    (rw c.path_of.ensures at c.read_below.ensures)
