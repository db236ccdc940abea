use Rattle.std.proofs.Common.{map, string_bytes, subst}
use Rattle.rpki_program.specs.Verify.Files.{folder_of}
use Rattle.rpki_program.specs.Verify.Kinds.{IsNameOf}
use Rattle.rpki_program.specs.declared.verify.request.FileKind.{FileKind}
use Rattle.rpki_program.specs.declared.verify.request.FileKind.TheVariants as kinds
use Rattle.rpki_program.proofs.Filing.{judged-filed}
use Rattle.rpki_program.proofs.verify.files.judge_object.Goals as goal

pub returns-in-Some-Checklist : goal.returns-in-Some-Checklist
returns-in-Some-Checklist g c =
    let told = g.S.Store.told c.args.store.now in
    let r = c.args.request.now in
    judged-filed r c.args.grounds.now
    (folder_of told r (map string_bytes c.args.found.now.names.items)) kinds.Checklist
    c.args.octets.now
    (subst (λ (k : FileKind). IsNameOf r.object.now k) c.in-Some-Checklist.field-0-is
    c.in-Some-Checklist.ensures) c.checklist.result c.checklist.ensures
