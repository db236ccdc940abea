-- Files by name, and what each holds or why it is not read.
use Rattle.std.specs.Prelude.{ℕ, List, [], ◌∷◌, Result, Ok, Err, bytes_eq, if◌then◌else◌}
use Rattle.std.specs.Borrow.{Bor}
use Rattle.rpki_relying_party.specs.declared.copy.NoFile.{NoFile}
use Rattle.rpki_relying_party.specs.declared.copy.NoFile.TheVariants.{Missing}

-- what a file holds, or why it is not read
abbrev pub file_of : Result (Bor (List ℕ)) NoFile → Result (List ℕ) NoFile
file_of (Ok octets) = Ok octets.now
file_of (Err why) = Err why

-- that of the first file with this name
abbrev pub found_in : List (Bor (List ℕ) × Result (Bor (List ℕ)) NoFile) → List ℕ
    → Result (List ℕ) NoFile
found_in [] name = Err Missing
found_in (f ∷ files) name =
    if bytes_eq name f.0.now then file_of f.1 else found_in files name
