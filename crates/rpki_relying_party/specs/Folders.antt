-- What reads of a folder may find, as a copy of the repositories: octets, or why there is no file.
use Rattle.std.specs.Prelude.{◌≡◌, ◌⊎◌, ◌<◌, ◌≤◌, ℕ, List, ◌++◌, codes, Result, Err, Bool}
use Rattle.std.specs.Prelude.{◌==◌, if◌then◌else◌, length}
use Rattle.std.specs.List.{slice_split, starts_with}
use Rattle.std.specs.Fs.{metadata_len, file_type, IsFile, IsDir, IsSymlink}
use Rattle.std.specs.declared.fs.attrs.Metadata.{Metadata}
use Rattle.rpki_relying_party.specs.Names.{IsBelow, is_slash, path_of, anchor_name}
use Rattle.rpki_relying_party.specs.declared.copy.NoFile.{NoFile}
use Rattle.rpki_relying_party.specs.declared.copy.NoFile.TheVariants.{Missing, NotRegular, TooLarge}
use Rattle.rpki_relying_party.specs.declared.folder.system.Bounds.{Bounds}
use Rattle.rpki_relying_party.specs.declared.folder.system.Lack.{Lack}
use Rattle.rpki_relying_party.specs.declared.folder.system.Lack.TheVariants as lacks

-- What may be found under a name: what a read of it may find, where it leads to a file below the
-- folder. Under any other name there is no file.
abbrev pub FindsBelow : (List ℕ → Result (List ℕ) NoFile → Type 0) → List ℕ
    → Result (List ℕ) NoFile → Type 0
FindsBelow finds name found =
    (IsBelow name × finds name found) ⊎ ((¬ IsBelow name) × (found ≡ Err Missing))

-- it is asked for what is kept as the certificate of a trust anchor
abbrev pub is_kept : List ℕ → Bool
is_kept uri = starts_with (λ a b. a == b) uri (codes "ta:")

-- The name of the file of a URI, under the locator with this name: the host and the path of the
-- URI; after `ta:` it is `ta/NAME/LAST`, where NAME is the name of the locator, and LAST what stands
-- after the last slash of the URI.
abbrev pub file_name : List ℕ → List ℕ → List ℕ
file_name name uri = if is_kept uri then anchor_name name uri else path_of uri

-- What may be found for a URI, under the locator with this name.
abbrev pub FindsIn : (List ℕ → Result (List ℕ) NoFile → Type 0) → List ℕ → List ℕ
    → Result (List ℕ) NoFile → Type 0
FindsIn finds name uri found = FindsBelow finds (file_name name uri) found

-- ---- folders of the system

-- the path of the file with this name below a folder
abbrev pub path_below : List ℕ → List ℕ → List ℕ
path_below folder name = folder ++ (codes "/" ++ name)

-- A name is looked up: it has at most 64 parts, with a slash between each two, which is this
-- project's own rule.
abbrev pub HasFewParts : List ℕ → Type 0
HasFewParts name = length (slice_split is_slash name) ≤ 64

-- A file of so many octets is read: it may have as many, and as many are asked for.
abbrev pub IsFew : Bounds → ℕ → Type 0
IsFew b n = (n ≤ b.max_file) × (n ≤ b.most)

-- why it is not read: it is too large; or it may be as large, and has more than are asked for
abbrev pub WhyMany : Bounds → ℕ → Lack → Type 0
WhyMany b n (lacks.NoFile TooLarge) = b.max_file < n
WhyMany b n lacks.Larger = (n ≤ b.max_file) × (b.most < n)
WhyMany b n lack = ⊥

-- a file is read: it is a regular one of few enough octets
abbrev pub IsReadable : Bounds → Metadata → Type 0
IsReadable b m = IsFile (file_type m) × IsFew b (metadata_len m)

-- why a file is not read
abbrev pub WhyUnread : Bounds → Metadata → Lack → Type 0
WhyUnread b m (lacks.NoFile NotRegular) = ¬ IsFile (file_type m)
WhyUnread b m lack = IsFile (file_type m) × WhyMany b (metadata_len m) lack

-- What may be wanting: a file has more octets than are asked for only where it may have as many.
abbrev pub MayLack : Bounds → Lack → Type 0
MayLack b lacks.Larger = b.most < b.max_file
MayLack b lack = Unit {0}

-- why what stands on the way is no folder: a symbolic link is not followed, and below anything else
-- there is no file
abbrev pub WhyNoFolder : Metadata → NoFile → Type 0
WhyNoFolder m NotRegular = IsSymlink (file_type m)
WhyNoFolder m Missing = (¬ IsDir (file_type m)) × (¬ IsSymlink (file_type m))
WhyNoFolder m why = ⊥
