-- Which entries of a manifest are held by files at hand. The section is that of RFC 9286.
use Rattle.std.specs.Prelude.{◌≡◌, ◌≢◌, ◌++◌, ◌∷◌, ℕ, List, Bool, false, Option, None, Some, All}
use Rattle.std.specs.Prelude.{map}
use Rattle.std.specs.Iterator.{Drains}
use Rattle.std.specs.List.{filter}
use Rattle.std.specs.Str.{bytes_eq}
use Rattle.rpki_der.specs.Form.Keyed.{with_key}
use Rattle.rpki_sigobj.specs.Verify.{Digester}
use Rattle.rpki_files.specs.Manifest.Files.{File, name_of}

-- a file at hand: its name and its octets
abbrev pub AtHand : Type 0
AtHand = List ℕ × List ℕ

-- what a pair means, by what its parts mean
abbrev pub at_hand : {N O : Type 0} → (N → List ℕ) → (O → List ℕ) → N × O → AtHand
at_hand name octets pair = (name pair.0, octets pair.1)

-- These are the octets of the first file at hand with this name.
abbrev pub IsFirstNamed : List AtHand → List ℕ → List ℕ → Type 0
IsFirstNamed files name octets =
    (before after : List AtHand) × (files ≡ before ++ (name, octets) ∷ after)
    × All (λ file. file.0 ≢ name) before

-- An entry is held: the first file at hand with its name has its hash (section 6.5).
abbrev pub IsHeld : Digester → List AtHand → File → Type 0
IsHeld digest files f =
    (octets : List ℕ) × IsFirstNamed files (name_of f) octets × (digest octets ≡ f.hash)

-- An iterator whose calls are these, in this state, gives all of this, in order, and then nothing;
-- view tells what an item says.
abbrev pub GivesAll : {S A X : Type 0} → (S → Option A → S → Type 0) → (A → X) → S → List X
    → Type 0
GivesAll {A = A} steps view state all =
    (items : List A) → Drains steps state items → map view items ≡ all

-- ---- as functions

-- whether a file was found, and has this hash
abbrev pub has_hash : Digester → List ℕ → Option AtHand → Bool
has_hash digest hash None = false
has_hash digest hash (Some file) = bytes_eq (digest file.1) hash

-- whether an entry is held
abbrev pub is_held : Digester → List AtHand → File → Bool
is_held digest files f = has_hash digest f.hash (with_key (λ file. file.0) (name_of f) files)

-- the entries that are held, in the order of the manifest
abbrev pub walk_of : Digester → List AtHand → List File → List File
walk_of digest files entries = filter (is_held digest files) entries
