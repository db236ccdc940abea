use Rattle.rpki_der.specs.declared.mode.Mode.TheVariants.{Der}
use Rattle.rpki_files.specs.Manifest.{ManifestForm}
use Rattle.rpki_files.specs.Manifest.Checks.{manifest_kind}
use Rattle.rpki_check.specs.Files.{listed_files}
use Rattle.rpki_check.specs.Grounds.{manner_in}
use Rattle.rpki_check.proofs.Answered.{files-tell}
use Rattle.rpki_check.proofs.exports.rpki_check_manifest.Goals as goal

pub returns-clause-tells : goal.returns-clause-tells
returns-clause-tells c =
    files-tell manifest_kind (λ q. ManifestForm (manner_in q).names Der) listed_files
    c.args.question.now c.args.object.now c.args.room.now c.files_in.new.room c.files_in.new.count
    c.args.octets.now c.files_in.new.place c.files_in.new.len c.files_in.result c.files_in.ensures
