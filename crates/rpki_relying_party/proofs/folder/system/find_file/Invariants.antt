use Rattle.std.proofs.Common.{◌≡◌, length}
use denote.Text.{Utf8}
use denote.Shadow.{shadow}
use Rattle.std.specs.String.{string_bytes}
use Rattle.rpki_relying_party.specs.Folders.{path_below}
use Rattle.rpki_relying_party.proofs.folder.system.find_file.Given as goal

-- the path, and the parts of the name that are left
abbrev pub invariant-loop-part : goal.invariant-loop-part
invariant-loop-part g l = shadow (Utf8 l.rest)
    × (path_below (string_bytes l.path) l.rest ≡ path_below l.fn.folder l.fn.name)

abbrev pub decreases-loop-part : goal.decreases-loop-part
decreases-loop-part g l = length l.rest
