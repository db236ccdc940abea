use Rattle.std.proofs.Common.{◌≡◌}
use Rattle.rpki_lists.specs.Slice.{seen}
use Rattle.rpki_files.specs.Checklist.Files.{Checked}
use Rattle.rpki_examples.proofs.Search.{found, left-more, say-yes, told-same, told-apart}
use Rattle.rpki_examples.proofs.files.has_hash.Goals as goal

pub returns-then-eq : goal.returns-then-eq
returns-then-eq c =
    let x : Checked = record {
      file_name = seen (λ n. n.now) c.in-Some.file.file_name;
      hash = c.in-Some.file.hash.now;
    } in
    say-yes (found (λ (f : Checked). f.hash ≡ c.args.hash.now) c.args.checklist.now.files
    c.loop-file.files c.next.new.self x c.loop-file.invariant c.in-Some.ensures.steps
    (told-same c.in-Some.file.hash.now c.args.hash.now c.if-eq.ensures))

pub loop-file-preserved : goal.loop-file-preserved
loop-file-preserved c =
    let x : Checked = record {
      file_name = seen (λ n. n.now) c.in-Some.file.file_name;
      hash = c.in-Some.file.hash.now;
    } in
    left-more (λ (f : Checked). f.hash ≡ c.args.hash.now) c.args.checklist.now.files
    c.loop-file.files c.next.new.self x c.loop-file.invariant c.in-Some.ensures.steps
    (told-apart c.in-Some.file.hash.now c.args.hash.now c.if-eq.ensures)
