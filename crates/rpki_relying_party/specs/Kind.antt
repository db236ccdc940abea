-- Kinds of files in a publication point.
use Rattle.std.specs.Prelude.{ℕ, ◌-◌, List, length, drop, codes, if◌then◌else◌}
use Rattle.rpki_files.specs.Name.{is_type}
use Rattle.rpki_relying_party.specs.declared.kind.ListedKind.{ListedKind}
use Rattle.rpki_relying_party.specs.declared.kind.ListedKind.TheVariants.{Roa, Aspa, Ca, Other}

-- the last three letters
abbrev pub letters_of : List ℕ → List ℕ
letters_of name = drop (length name - 3) name

-- The kind of a file, by the last three letters of its name (RFC 9286, section 4.2.2). The URI of a
-- file ends with its name. That these letters may stand in any case is this project's own rule.
abbrev pub kind_of : List ℕ → ListedKind
kind_of name =
    if is_type (letters_of name) (codes "roa") then Roa else
    (if is_type (letters_of name) (codes "asa") then Aspa else
    (if is_type (letters_of name) (codes "cer") then Ca else Other))
