use Rattle.rpki_der.specs.Tags.{SEQUENCE}
use Rattle.rpki_lists.proofs.Known.{value-around}
use Rattle.rpki_files.specs.Checklist.Files.{checked_fields_at}
use Rattle.rpki_files.proofs.Checklists.Known.{name-in-front, hash-in-front, file-known}
use Rattle.rpki_files.proofs.checklist.checked.CheckedEntrySliceEntry.read.Goals as goal

pub known_sequence-fields-requires : goal.known_sequence-fields-requires
known_sequence-fields-requires c = value-around SEQUENCE checked_fields_at _ c.requires

pub known_opt_contents-file_name-requires : goal.known_opt_contents-file_name-requires
known_opt_contents-file_name-requires c =
    name-in-front _ c.requires _ _ c.known_sequence-fields.ensures

pub known_contents-hash-requires : goal.known_contents-hash-requires
known_contents-hash-requires c =
    hash-in-front _ c.requires _ _ c.known_sequence-fields.ensures _ _
    c.known_opt_contents-file_name.ensures

pub returns : goal.returns
returns c =
    file-known _ c.requires _ _ c.known_sequence-fields.ensures _ _ _ _
    c.known_opt_contents-file_name.ensures c.known_contents-hash.ensures
