-- The words after the program's name, one by one.
use Rattle.std.proofs.Common.{◌≡◌, ℕ, zero, suc, ◌+◌, ◌<◌, ◌≤◌, List, [], ◌∷◌, ◌++◌, length, get_or}
use Rattle.std.proofs.Common.{take, drop, map, None, Some, Ok, Err, String, Global, string_bytes}
use Rattle.std.proofs.Common.{All, refl, sym, ap, subst, ◌∙◌, arith}
use Rattle.std.specs.Str.{IsUtf8}
use Rattle.std.proofs.lemmas.List.{take_more, map-append}
use Rattle.std.proofs.lemmas.List.Elements.{All-push}
use Rattle.rpki_cli.specs.Arguments.{ToldArguments, IsWordAt, IsText, Follow, AreWords}
use Rattle.rpki_cli.specs.declared.arguments.WordsError.{WordsError}
use Rattle.rpki_cli.specs.declared.arguments.WordsError.TheVariants.{NoText, Memory}

-- these are the first n words after the program's name
abbrev pub AreFirst : ToldArguments → ℕ → List (List ℕ) → Type 0
AreFirst None n words = Unit {0}
AreFirst (Some arguments) n words = words ≡ take n (drop 1 arguments)

pub none-yet : (told : ToldArguments) → AreFirst told 0 []
none-yet None = tt
none-yet (Some arguments) = refl

all-taken : (n : ℕ) (xs : List (List ℕ)) → length xs ≤ n → take n xs ≡ xs
all-taken zero [] l = refl
all-taken zero (x ∷ xs) l = absurd (omega (arith, l))
all-taken (suc n) [] l = refl
all-taken (suc n) (x ∷ xs) l =
    ap (λ (rest : List (List ℕ)). x ∷ rest) (all-taken n xs (omega (arith, l)))

-- the place of a word, with the program's name in front
at-next : (name : List ℕ) (rest : List (List ℕ)) (n : ℕ) (d : List ℕ)
    → get_or (name ∷ rest) (n + 1) d ≡ get_or rest n d
at-next name rest n d =
    let e : suc n ≡ n + 1 = omega arith in
    subst (λ (place : ℕ). get_or (name ∷ rest) place d ≡ get_or rest n d) e refl

no-text : (arguments : List (List ℕ)) (n : ℕ) → n + 1 < length arguments
    → ((d : List ℕ) → ¬ IsUtf8 (get_or arguments (n + 1) d)) → ¬ All IsUtf8 (drop 1 arguments)
no-text [] n l none all = absurd (omega (arith, l))
no-text (name ∷ rest) n l none all =
    none name (subst IsUtf8 (sym (at-next name rest n name)) (all n name (omega (arith, l))))

pub no-words : (told : ToldArguments) (n : ℕ) (error : WordsError)
    → IsWordAt told (n + 1) (Err error)
    → AreWords told (Err error)
no-words None n NoText h = tt
no-words None n Memory h = tt
no-words (Some arguments) n NoText h = no-text arguments n h.0 h.1
no-words (Some arguments) n Memory h = tt

all-first : (arguments words : List (List ℕ)) (n : ℕ) → length arguments ≤ n + 1
    → words ≡ take n (drop 1 arguments)
    → words ≡ drop 1 arguments
all-first [] words n l e = e ∙ all-taken n [] (omega arith)
all-first (name ∷ rest) words n l e = e ∙ all-taken n rest (omega (arith, l))

pub no-more : (told : ToldArguments) (n : ℕ) (words : List (List ℕ))
    → IsWordAt told (n + 1) (Ok None)
    → AreFirst told n words → Follow told words
no-more None n words l e = tt
no-more (Some arguments) n words l e = all-first arguments words n l e

one-more : (arguments words : List (List ℕ)) (n : ℕ) (word : List ℕ) → n + 1 < length arguments
    → ((d : List ℕ) → word ≡ get_or arguments (n + 1) d) → words ≡ take n (drop 1 arguments)
    → words ++ word ∷ [] ≡ take (n + 1) (drop 1 arguments)
one-more [] words n word l is e = absurd (omega (arith, l))
one-more (name ∷ rest) words n word l is e =
    let more = take_more rest n name (omega (arith, l)) in
    let it : word ≡ get_or rest n name = is name ∙ at-next name rest n name in
    ap (λ (w : List (List ℕ)). w ++ word ∷ []) e
    ∙ ap (λ (w : List ℕ). take n rest ++ w ∷ []) it ∙ sym more

pub next-word : (told : ToldArguments) (n : ℕ) (words : List (String Global)) (word : String Global)
    → IsWordAt told (n + 1) (Ok (Some word))
    → AreFirst told n (map string_bytes words)
    → AreFirst told (n + 1) (map string_bytes (words ++ word ∷ []))
next-word None n words word is e = tt
next-word (Some arguments) n words word is e =
    map-append string_bytes words (word ∷ [])
    ∙ one-more arguments (map string_bytes words) n (string_bytes word) is.0 is.1 e

-- these words are texts
pub record AreUtf8 (words : List (String Global)) : Type 0 where
  pub each : All IsUtf8 (map string_bytes words)

pub next-text : (words : List (String Global)) (word : String Global)
    → IsText (Ok (Some word)) → AreUtf8 words → AreUtf8 (words ++ word ∷ [])
next-text words word is h = record {
  each = subst (λ (all : List (List ℕ)). All IsUtf8 all)
      (sym (map-append string_bytes words (word ∷ [])))
      (All-push IsUtf8 (map string_bytes words) (string_bytes word) h.each is);
}

-- what a loop over the words asks of them
pub ruleset word_by_word = (no-words, next-word, next-text)
