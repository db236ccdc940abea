use Rattle.std.proofs.Common.{◌≡◌, ap}
use Rattle.rpki_files.specs.Manifest.Files.{File}
use Rattle.rpki_examples.proofs.Search.{left-more, told-apart}
use Rattle.rpki_examples.proofs.files.names_file.Goals as goal
use Rattle.rpki_examples.proofs.files.names_file.Goals.{else-eq-via-then-eq+else-eq-2}
use Rattle.rpki_examples.proofs.files.names_file.Goals.{else-eq-via-else-eq}

pub loop-file-preserved : goal.loop-file-preserved
loop-file-preserved c =
    let x : File = record { file = c.in-Some.file.file.now; hash = c.in-Some.file.hash.now } in
    left-more (λ (f : File). f ≡ record { file = c.args.name.now; hash = c.args.hash.now })
    c.args.manifest.now.files c.loop-file.files c.next.new.self x c.loop-file.invariant
    c.in-Some.ensures.steps
    (λ e. elim c.else-eq.branch [
      | else-eq-via-then-eq+else-eq-2 w ↦ told-apart x.hash c.args.hash.now w.if-eq-2.ensures
          (ap (λ (f : File). f.hash) e)
      | else-eq-via-else-eq w ↦ told-apart x.file c.args.name.now w.if-eq.ensures
          (ap (λ (f : File). f.file) e)
    ])
