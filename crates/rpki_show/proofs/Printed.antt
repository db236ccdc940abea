-- Names that are printed as they are.
use Rattle.std.proofs.Common.{arith, ◌≡◌, ℕ, ◌<◌, List, [], ◌∷◌, ◌++◌, Bool, true, refl, sym}
use Rattle.std.proofs.Common.{ap, ◌∙◌}
use Rattle.std.specs.Prelude.{encode_utf8}
use Rattle.std.specs.List.{list_all}
use Rattle.std.proofs.lemmas.Str.{encode_ascii}
use Rattle.std.proofs.lemmas.List.Concat.{flat_map-append}
use Rattle.std.proofs.lemmas.Bool.{and_parts}
use Rattle.rpki_show.specs.Ia5.{ia5_text}
use Rattle.rpki_files.specs.Name.{IsFileName, is_letter, is_stem}
use Rattle.rpki_files.specs.Checklist.Files.{is_portable, is_portable_name}

-- what passes the test is below 128
abbrev pub IsIa5Test : (ℕ → Bool) → Type 0
IsIa5Test p = (b : ℕ) → p b ≡ true → b < 128

letters : IsIa5Test is_letter
letters b e = grind arith

stems : IsIa5Test is_stem
stems b e = grind arith

portables : IsIa5Test is_portable
portables b e = grind arith

same : (p : ℕ → Bool) → IsIa5Test p → (name : List ℕ) → list_all p name ≡ true
    → ia5_text name ≡ name
same p h [] e = refl
same p h (b ∷ bs) e =
    let k = and_parts (p b) (list_all p bs) e in
    rw (encode_ascii b (h b k.0), same p h bs k.1) refl

pub portable-printed : (name : List ℕ) → is_portable_name name ≡ true → ia5_text name ≡ name
portable-printed name e = same is_portable portables name e

pub file-printed : (name : List ℕ) → IsFileName name → ia5_text name ≡ name
file-printed name h =
    let front = same is_stem stems h.stem h.characters in
    let back : ia5_text (0x2E ∷ h.ending) ≡ 0x2E ∷ h.ending =
    rw (encode_ascii 0x2E (omega arith), same is_letter letters h.ending h.letters) refl in
    let whole : ia5_text (h.stem ++ (0x2E ∷ h.ending)) ≡ h.stem ++ (0x2E ∷ h.ending) =
    rw (flat_map-append encode_utf8 h.stem (0x2E ∷ h.ending), front, back) refl in
    ap ia5_text h.parts ∙ whole ∙ sym h.parts
