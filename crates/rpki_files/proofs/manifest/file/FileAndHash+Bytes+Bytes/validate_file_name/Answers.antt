use Rattle.std.proofs.Common.{◌≡◌, true, false, sym, ◌∙◌}
use Rattle.rpki_files.proofs.Names.Decided.{name-decides}
use Rattle.rpki_files.proofs.manifest.file.FileAndHash+Bytes+Bytes.validate_file_name.Goals as goal

pub returns-then-is_file_name : goal.returns-then-is_file_name
returns-then-is_file_name c =
    (name-decides c.args.name.now).0 (sym c.is_file_name.ensures ∙ c.if-is_file_name.true)

pub returns-else-is_file_name : goal.returns-else-is_file_name
returns-else-is_file_name c = λ h.
    absurd (let never : true ≡ false = sym ((name-decides c.args.name.now).1 h)
    ∙ sym c.is_file_name.ensures ∙ c.if-is_file_name.false in cc)
