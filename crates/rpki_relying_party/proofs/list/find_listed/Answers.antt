-- One file more has another name, or one has it.
use Rattle.std.proofs.Common.{List, ℕ, Contains, sym, subst, ap}
use Rattle.rpki_files.specs.Manifest.Files.{File}
use Rattle.rpki_files.specs.Manifest.Uris.{uris_of}
use Rattle.rpki_relying_party.proofs.Crls.{none-before, is-nowhere, is-elsewhere, is-named}
use Rattle.rpki_relying_party.proofs.Crls.{is-other}
use Rattle.rpki_relying_party.proofs.list.find_listed.Goals as goal

pub loop-file-init : goal.loop-file-init
loop-file-init c =
    none-before c.args.uri.now (uris_of c.args.folder.now c.args.manifest.now.files)
    (uris_of c.args.folder.now c.iter-files.result)
    (ap (λ (l : List File). uris_of c.args.folder.now l) c.iter-files.ensures.files)

pub loop-file-preserved : goal.loop-file-preserved
loop-file-preserved c =
    is-other c.args.folder.now c.args.uri.now c.args.manifest.now.files c.loop-file.files
    c.next.new.self c.in-Some-next.file.file.now c.in-Some.name.now c.in-Some-next.file.hash.now
    c.in-Some.ensures c.loop-file.invariant c.in-Some-next.ensures.steps c.if-eq.ensures

pub returns-then-eq : goal.returns-then-eq
returns-then-eq c =
    subst (λ (h : List ℕ). Contains (uris_of c.args.folder.now c.args.manifest.now.files)
    (c.args.uri.now, h)) (sym c.in_ok-copy_hash.ensures)
    (is-named c.args.folder.now c.args.uri.now c.args.manifest.now.files c.loop-file.files
    c.next.new.self c.in-Some-next.file.file.now c.in-Some.name.now c.in-Some-next.file.hash.now
    c.in-Some.ensures c.loop-file.invariant c.in-Some-next.ensures.steps c.if-eq.ensures)

pub returns : goal.returns
returns c =
    is-nowhere c.args.uri.now (uris_of c.args.folder.now c.args.manifest.now.files)
    (uris_of c.args.folder.now c.loop-file.files) c.loop-file.invariant
    (ap (λ (l : List File). uris_of c.args.folder.now l) c.in_default-next.ensures.steps.0)

pub returns-in_default : goal.returns-in_default
returns-in_default c =
    is-elsewhere c.args.folder.now c.args.uri.now c.args.manifest.now.files c.in_default.ensures
