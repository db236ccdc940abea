use Rattle.std.proofs.Common.{List, All, subst}
use Rattle.rpki_files.specs.Name.{IsFileName}
use Rattle.rpki_files.specs.Manifest.Files.{File}
use Rattle.rpki_files.proofs.Manifests.Named.{files-named}
use Rattle.rpki_files.proofs.manifest.files.files_of.Goals as goal

pub returns-clause-names : goal.returns-clause-names
returns-clause-names c =
    subst (λ (fs : List File). All (λ (f : File). IsFileName f.file) fs) c.reader.ensures.list
    (files-named c.reader.result c.reader.ensures.entries)
