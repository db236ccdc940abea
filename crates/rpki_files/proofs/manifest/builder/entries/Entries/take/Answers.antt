use Rattle.rpki_files.proofs.manifest.builder.entries.Entries.take.Goals as goal

pub loop-file-init : goal.loop-file-init
loop-file-init g c = c.new-entries.ensures c.args.rule
