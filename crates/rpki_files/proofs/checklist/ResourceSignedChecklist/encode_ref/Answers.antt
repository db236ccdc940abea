use Rattle.std.proofs.Common.{◌<◌, ◌^◌, List, All, length, subst}
use Rattle.rpki_der.specs.declared.mode.Mode.TheVariants.{Der}
use Rattle.rpki_files.specs.Checklist.Files.{Checked, IsNamed}
use Rattle.rpki_files.specs.Checklist.{Checklist, ChecklistForm, checklist_contents}
use Rattle.rpki_files.specs.Checklist.{checklist_octets}
use Rattle.rpki_files.proofs.Checklists.Exact.{checklist-part}
use Rattle.rpki_files.proofs.Checklists.Named.{checked-named}
use Rattle.rpki_files.proofs.Checklists.Written.{checklist-written}
use Rattle.rpki_basics.proofs.Algorithms.Written.{digest-written}
use Rattle.rpki_files.proofs.checklist.ResourceSignedChecklist.encode_ref.Goals as goal

pub returns-clause-written : goal.returns-clause-written
returns-clause-written c =
    let named = subst (λ (fs : List Checked). All IsNamed fs)
    c.reader.ensures.list (checked-named c.reader.result c.reader.ensures.entries) in
    let l : Checklist = record {
      as_resources = c.self.inside.as_resources;
      v4_resources = c.self.inside.v4_resources;
      v6_resources = c.self.inside.v6_resources;
      files = c.self.inside.files;
    } in
    subst (λ (l : Checklist). length (checklist_contents l) < 2 ^ 32
    → ChecklistForm Der (checklist_octets l) l) c.self.view_is
    (checklist-written l (record {
      numbers = c.encode_ref.ensures.written;
      v4 = c.encode_ref-2.ensures.written c.self.invariant;
      v6 = c.encode_ref-3.ensures.written c.encode_ref-3.ensures.addresses;
    }) named digest-written)

pub returns-clause-read : goal.returns-clause-read
returns-clause-read c = λ short rest.
    (checklist-part.exact Der).complete (checklist_octets c.args.self.now) c.args.self.now rest
    tt (returns-clause-written c short)
