use Rattle.std.proofs.Common.{map, string_bytes}
use Rattle.rpki_program.specs.Verify.Files.{checked, folder_of}
use Rattle.rpki_program.specs.declared.verify.request.FileKind.TheVariants as kinds
use Rattle.rpki_program.proofs.Filing.{object-filed}
use Rattle.rpki_program.proofs.verify.files.checklist.Goals as goal

pub returns-in-Ok : goal.returns-in-Ok
returns-in-Ok g c =
    let told = g.S.Store.told c.args.store.now in
    let content = c.in-Ok.checklist in
    object-filed c.args.request.now c.args.grounds.now
    (folder_of told c.args.request.now (map string_bytes c.args.found.now.names.items)) kinds.Checklist
    c.args.octets.now (checked content) (λ S such. (content, c.in-Ok.ensures, such))
    c.compared_checklist-report.result c.compared_checklist-report.ensures
