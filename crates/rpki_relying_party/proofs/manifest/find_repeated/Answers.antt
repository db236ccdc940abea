-- One file more is new, or an earlier one has its name.
use Rattle.std.proofs.Common.{sym, subst, List, ℕ, ◌∙◌}
use Rattle.std.proofs.lemmas.Bool.{not-true, not-false}
use Rattle.rpki_files.specs.Manifest.Uris.{uris_of}
use Rattle.rpki_relying_party.specs.Lacks.{IsFirstRepeated}
use Rattle.rpki_relying_party.proofs.Repeating.{none-met, named, one-met, met-twice, all-met}
use Rattle.rpki_relying_party.proofs.manifest.find_repeated.Goals as goal

pub loop-file-init : goal.loop-file-init
loop-file-init c =
    none-met c.new-names.result c.args.manifest.now.files c.iter-files.result
    c.iter-files.ensures.files c.new-names.ensures.empty

pub loop-file-preserved : goal.loop-file-preserved
loop-file-preserved c =
    one-met c.args.folder.now c.loop-file.names c.args.manifest.now.files c.loop-file.files
    c.next.new.self c.in-Some.file.file c.in-Some.file.hash.now c.loop-file.invariant
    c.in-Some.ensures.steps c.insert.new.self c.in_ok-insert.ensures.updates
    (not-true _ (sym c.in_ok-insert.ensures.added ∙ c.if-not-branch.false))

pub uri_below-requires : goal.uri_below-requires
uri_below-requires c =
    named c.args.folder.now c.loop-file.names c.args.manifest.now.files c.loop-file.files
    c.next.new.self c.in-Some.file.file c.in-Some.file.hash.now c.loop-file.invariant
    c.in-Some.ensures.steps c.iter-files.ensures.names

pub returns-then-not-branch : goal.returns-then-not-branch
returns-then-not-branch c =
    subst (λ (u : List ℕ). IsFirstRepeated (uris_of c.args.folder.now c.args.manifest.now.files) u)
    (sym c.in_ok-uri_below.ensures)
    (met-twice c.args.folder.now c.loop-file.names c.args.manifest.now.files c.loop-file.files
    c.next.new.self c.in-Some.file.file c.in-Some.file.hash.now c.loop-file.invariant
    c.in-Some.ensures.steps
    (not-false _ (sym c.in_ok-insert.ensures.added ∙ c.if-not-branch.true)))

pub returns : goal.returns
returns c =
    all-met c.args.folder.now c.loop-file.names c.args.manifest.now.files c.loop-file.files
    c.loop-file.invariant c.in_default.ensures.steps.0
