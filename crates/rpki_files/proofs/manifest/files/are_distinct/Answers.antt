use Rattle.std.proofs.Common.{refl, sym, ◌∙◌}
use Rattle.std.proofs.lemmas.Bool.{not-true, not-false}
use Rattle.rpki_files.specs.Manifest.Files.{File, name_of}
use Rattle.rpki_files.proofs.Manifests.Distinct.{seen-none, seen-again, seen-more}
use Rattle.rpki_files.proofs.manifest.files.are_distinct.Goals as goal

pub loop-file-init : goal.loop-file-init
loop-file-init c = seen-none name_of c.new-seen.result _ c.new-seen.ensures.empty

pub returns-then-not-branch : goal.returns-then-not-branch
returns-then-not-branch c =
    let x : File = record { file = c.in-Some.file.file.now; hash = c.in-Some.file.hash.now } in
    sym (seen-again name_of _ c.loop-file.files c.loop-file.seen x c.next.new.self
    c.in-Some.file.file.now c.loop-file.invariant c.in-Some.ensures.steps refl
    (not-false _ (sym c.in_ok-insert.ensures.added ∙ c.if-not-branch.true)))

pub loop-file-preserved : goal.loop-file-preserved
loop-file-preserved c =
    let x : File = record { file = c.in-Some.file.file.now; hash = c.in-Some.file.hash.now } in
    seen-more name_of c.loop-file.seen c.insert.new.self c.in-Some.file.file
    c.in_ok-insert.ensures.updates _ c.loop-file.files x c.next.new.self c.loop-file.invariant
    c.in-Some.ensures.steps refl
    (not-true _ (sym c.in_ok-insert.ensures.added ∙ c.if-not-branch.false))
