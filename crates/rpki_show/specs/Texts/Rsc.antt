-- The lines of the content of a signed checklist.
use Rattle.std.specs.Prelude.{ℕ, List, ◌++◌, Option, Some, None, codes}
use Rattle.std.specs.List.{flat_map}
use Rattle.rpki_der.specs.Text.Hex.{hex}
use Rattle.rpki_files.specs.Checklist.Files.{Checked}
use Rattle.rpki_files.specs.Checklist.{Checklist}
use Rattle.rpki_show.specs.Ia5.{ia5_text}
use Rattle.rpki_show.specs.Texts.Blocks.{as_lines, v4_lines, v6_lines}

-- what stands before a hash: the name of its file, if it has one
abbrev pub name_text : Option (List ℕ) → List ℕ
name_text (Some name) = codes "named " ++ (ia5_text name ++ codes " ")
name_text None = codes "unnamed "

-- the line of a file: its name, if it has one, and its hash in lower hexadecimal
abbrev pub checked_line : Checked → List ℕ
checked_line f = name_text f.file_name ++ (hex f.hash ++ codes "\n")

-- the name of the kind, a line for each block of AS numbers, of IPv4 and of IPv6 addresses, and one
-- for each file
abbrev pub rsc_text : Checklist → List ℕ
rsc_text l = codes "rsc\n" ++ (as_lines l.as_resources ++ (v4_lines l.v4_resources
    ++ (v6_lines l.v6_resources ++ flat_map checked_line l.files)))
