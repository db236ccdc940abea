-- The lines of the content of a manifest.
use Rattle.std.specs.Prelude.{ℕ, List, ◌++◌, codes}
use Rattle.std.specs.List.{flat_map}
use Rattle.rpki_der.specs.Text.Hex.{hex}
use Rattle.rpki_basics.specs.Moment.{Moment}
use Rattle.rpki_basics.specs.Time.Form.{iso_text}
use Rattle.rpki_files.specs.Manifest.Files.{File}
use Rattle.rpki_files.specs.Manifest.{Manifest}
use Rattle.rpki_show.specs.Ia5.{ia5_text}
use Rattle.rpki_show.specs.Texts.Serial.{hexadecimal}
use Rattle.rpki_show.specs.declared.texts.serial.Hexadecimal.{Hexadecimal}

-- the line of the manifest's number
abbrev pub number_line : Hexadecimal → ℕ → List ℕ
number_line way n = codes "number " ++ (hexadecimal way n ++ codes "\n")

-- the line of the moment at which the manifest was made (thisUpdate)
unfoldable pub this_line : Moment → List ℕ
this_line m = codes "this " ++ (iso_text m ++ codes "\n")

-- the line of the moment at which the next one is due
unfoldable pub next_line : Moment → List ℕ
next_line m = codes "next " ++ (iso_text m ++ codes "\n")

-- the line of a file: its name, and its hash in lower hexadecimal
abbrev pub file_line : File → List ℕ
file_line f = codes "file " ++ (ia5_text f.file ++ (codes " " ++ (hex f.hash ++ codes "\n")))

-- the name of the kind, the number, both moments, and a line for each file
abbrev pub manifest_text : Hexadecimal → Manifest → List ℕ
manifest_text way m = codes "manifest\n" ++ (number_line way m.number ++ (this_line m.this_update
    ++ (next_line m.next_update ++ flat_map file_line m.files)))
