use Rattle.rpki_der.specs.Tags.{SEQUENCE}
use Rattle.rpki_lists.proofs.Known.{value-around}
use Rattle.rpki_files.specs.Manifest.Files.{file_fields_at}
use Rattle.rpki_files.proofs.Manifests.Known.{name-in-front, hash-in-front, file-known}
use Rattle.rpki_files.proofs.manifest.files.FileEntrySliceEntry.read.Goals as goal

pub known_sequence-fields-requires : goal.known_sequence-fields-requires
known_sequence-fields-requires c = value-around SEQUENCE file_fields_at _ c.requires

pub known_contents-file-requires : goal.known_contents-file-requires
known_contents-file-requires c = name-in-front _ c.requires _ _ c.known_sequence-fields.ensures

pub known_bits-bits-requires : goal.known_bits-bits-requires
known_bits-bits-requires c =
    hash-in-front _ c.requires _ _ c.known_sequence-fields.ensures _ _ c.known_contents-file.ensures

pub returns : goal.returns
returns c =
    file-known _ c.requires _ _ c.known_sequence-fields.ensures _ _ _ _ _
    c.known_contents-file.ensures c.known_bits-bits.ensures
