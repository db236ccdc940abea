use Rattle.std.proofs.Common.{Some, ap, map, rules}
use Rattle.rpki_files.specs.Manifest.Files.{File}
use Rattle.rpki_check.proofs.Tables.{all-files, none-yet, one-file}
use Rattle.rpki_check.proofs.files.listed_files.Goals as goal

pub loop-file-init : goal.loop-file-init
loop-file-init c = none-yet _ _ _ (search rules) (search rules) (search rules)

pub loop-file-preserved : goal.loop-file-preserved
loop-file-preserved c =
    one-file c.loop-file.table _ _ _ _ _
    (ap (map (λ (f : File). (Some f.file, f.hash))) c.in-Some.ensures.steps)
    c.loop-file.invariant c.in_ok-push_file.ensures

pub returns : goal.returns
returns c =
    all-files c.loop-file.table _ _
    (ap (map (λ (f : File). (Some f.file, f.hash))) c.in-None.ensures.steps.0)
    c.loop-file.invariant
