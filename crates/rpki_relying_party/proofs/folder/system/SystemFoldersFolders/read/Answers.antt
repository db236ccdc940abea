-- A file may have more octets than are asked for.
use Rattle.std.proofs.Common.{◌≡◌, ◌<◌, ℕ, List, length, replicate, arith, rules}
use Rattle.std.proofs.lemmas.List.{length-replicate}
use Rattle.rpki_relying_party.specs.Folders.{HasFewParts}
use Rattle.rpki_relying_party.proofs.folder.system.SystemFoldersFolders.read.Goals as goal

pub returns-in-Err-Larger : goal.returns-in-Err-Larger
returns-in-Err-Larger g c =
    let max_file = c.args.self.now.max_file in
    let zeros : List ℕ = replicate max_file 0 in
    let many : length zeros ≡ max_file = length-replicate {A = ℕ} max_file 0 in
    let more : c.args.most < max_file =
    (rw c.in-Err-Larger.field-0-is at c.in-Err-Larger.ensures.lack) in
    let few : HasFewParts c.args.name.now = search rules in
    (zeros, (omega (arith, many), few), omega (arith, many, more))
