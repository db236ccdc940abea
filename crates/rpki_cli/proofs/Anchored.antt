-- The words of anchors.
use Rattle.std.proofs.Common.{◌≡◌, ◌==◌, ◌&&◌, ◌++◌, ◌∙◌, ℕ, List, [], ◌∷◌, Bool, true, false, not}
use Rattle.std.proofs.Common.{refl, sym, ap, length}
use Rattle.std.specs.Prelude.{if◌then◌else◌}
use Rattle.std.specs.List.{slice_split, flat_map, list_all}
use Rattle.rpki_cli.specs.Words.{are_named, is_colon, is_locator, path_in, files_of_anchor}

-- the files of an anchor that is no locator
pub chain-files : (word path : List ℕ) (b : Bool) → b ≡ is_locator word → b ≡ false
    → path ≡ path_in word → slice_split is_colon path ≡ files_of_anchor word
chain-files word path b e f p =
    ap (λ (x : List ℕ). slice_split is_colon x) p
    ∙ ap (λ (x : Bool). if x then path_in word ∷ [] else slice_split is_colon (path_in word))
    (sym f ∙ e)

-- whether a file has a name
abbrev pub has_name : List ℕ → Bool
has_name file = not (length file == 0)

pub named-all : (files : List (List ℕ)) → are_named files ≡ list_all has_name files
named-all [] = refl
named-all (file ∷ files) = ap (λ (b : Bool). has_name file && b) (named-all files)

and-assoc : (a b c : Bool) → (a && (b && c)) ≡ ((a && b) && c)
and-assoc true b c = refl
and-assoc false b c = refl

-- what is named by two lists
pub named-append : (a b : List (List ℕ)) → are_named (a ++ b) ≡ (are_named a && are_named b)
named-append [] b = refl
named-append (x ∷ a) b =
    ap (λ (r : Bool). has_name x && r) (named-append a b)
    ∙ and-assoc (has_name x) (are_named a) (are_named b)

-- what is named by lists of files
pub named-each : {T : Type 0} (files : T → List (List ℕ)) (words : List T)
    → are_named (flat_map files words) ≡ list_all (λ w. are_named (files w)) words
named-each files [] = refl
named-each files (word ∷ words) =
    named-append (files word) (flat_map files words)
    ∙ ap (λ (b : Bool). are_named (files word) && b) (named-each files words)
