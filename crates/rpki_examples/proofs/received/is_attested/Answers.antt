use Rattle.std.proofs.Common.{◌↔◌, IsTrue, Bool, ◌≡◌}
use Rattle.std.specs.List.{Any}
use Rattle.rpki_der.specs.declared.mode.Mode.TheVariants.{Der}
use Rattle.rpki_files.specs.Checklist.Files.{Checked}
use Rattle.rpki_files.specs.Checklist.{Checklist, ChecklistForm}
use Rattle.rpki_files.specs.Checklist.Checks.{checklist_kind}
use Rattle.rpki_examples.proofs.ByList.{looked, refused}
use Rattle.rpki_examples.proofs.received.is_attested.Goals as goal

pub returns-in-Err : goal.returns-in-Err
returns-in-Err g c =
    refused checklist_kind (ChecklistForm Der) (g.C.Crypto.digest_of c.args.crypto.now)
    (g.C.Crypto.is_signed c.args.crypto.now) c.args.issuer.now c.args.now c.args.octets
    c.args.list.now.list
    (λ (yes : Bool) (l : Checklist). IsTrue yes ↔ Any (λ (file : Checked).
    file.hash ≡ g.C.Crypto.digest_of c.args.crypto.now c.args.document.now) l.files)
    c.in-Err.e c.in-Err.ensures

pub returns-in-Ok : goal.returns-in-Ok
returns-in-Ok g c =
    looked checklist_kind (ChecklistForm Der) (g.C.Crypto.digest_of c.args.crypto.now)
    (g.C.Crypto.is_signed c.args.crypto.now) c.args.issuer.now c.args.now c.args.octets
    c.args.list.now.list
    (λ (yes : Bool) (l : Checklist). IsTrue yes ↔ Any (λ (file : Checked).
    file.hash ≡ g.C.Crypto.digest_of c.args.crypto.now c.args.document.now) l.files)
    (c.in-Ok.cert, c.in-Ok.checklist) c.attests-is_listed.result
    c.in-Ok.ensures c.attests-is_listed.ensures
