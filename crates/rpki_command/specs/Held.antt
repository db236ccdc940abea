-- The lines of the files that a manifest holds.
use Rattle.std.specs.Prelude.{ℕ, List, ◌++◌, codes}
use Rattle.std.specs.List.{flat_map}
use Rattle.rpki_files.specs.Manifest.Files.{File}
use Rattle.rpki_files.specs.Manifest.{Manifest}
use Rattle.rpki_signed.specs.Walk.{AtHand, walk_of}
use Rattle.rpki_sigobj.specs.Verify.{Digester}
use Rattle.rpki_show.specs.Ia5.{ia5_text}

-- the line of an entry that is held: its name
abbrev pub held_line : File → List ℕ
held_line f = codes "held " ++ (ia5_text f.file ++ codes "\n")

-- a line for each entry of a manifest that these files hold, in its order (RFC 9286, section 6.5)
abbrev pub held_text : Digester → List AtHand → Manifest → List ℕ
held_text digest hand m = flat_map held_line (walk_of digest hand m.files)
