-- What the arguments of a program tell, and the words that they are.
use Rattle.std.specs.Prelude.{◌≡◌, ℕ, ◌<◌, ◌≤◌, List, length, drop, map, slice_index_or, Option}
use Rattle.std.specs.Prelude.{None, Some, Result, Ok, Err, Vec, String, string_bytes, All, codes}
use Rattle.std.specs.Str.{IsUtf8}
use Rattle.std.specs.declared.alloc.Global.{Global}
use Rattle.rpki_cli.specs.Answer.{memory_text}
use Rattle.rpki_cli.specs.declared.arguments.WordsError.{WordsError}
use Rattle.rpki_cli.specs.declared.arguments.WordsError.TheVariants.{NoText, Memory}

-- What is told of the arguments: nothing, or the octets of each, the program's name first.
abbrev pub ToldArguments : Type 0
ToldArguments = Option (List (List ℕ))

-- What a call for the argument at a place gives: its octets, or nothing where no argument stands
-- there. Where the arguments are not told, it may be anything.
abbrev pub IsArgument : ToldArguments → ℕ → Option (Vec ℕ Global) → Type 0
IsArgument None place argument = Unit {0}
IsArgument (Some arguments) place None = length arguments ≤ place
IsArgument (Some arguments) place (Some octets) =
    (place < length arguments) × ((d : List ℕ) → octets.items ≡ slice_index_or arguments place d)

-- What a call for the word at a place gives: the argument as a text, nothing where no argument
-- stands there, or the fault that it is no text or that memory ran out. Where the arguments are
-- not told, it may be anything.
abbrev pub IsWordAt : ToldArguments → ℕ → Result (Option (String Global)) WordsError → Type 0
IsWordAt None place word = Unit {0}
IsWordAt (Some arguments) place (Ok None) = length arguments ≤ place
IsWordAt (Some arguments) place (Ok (Some word)) =
    (place < length arguments)
    × ((d : List ℕ) → string_bytes word ≡ slice_index_or arguments place d)
IsWordAt (Some arguments) place (Err NoText) =
    (place < length arguments) × ((d : List ℕ) → ¬ IsUtf8 (slice_index_or arguments place d))
IsWordAt (Some arguments) place (Err Memory) = Unit {0}

-- The words follow the program's name. Where the arguments are not told, they may be any.
abbrev pub Follow : ToldArguments → List (List ℕ) → Type 0
Follow None words = Unit {0}
Follow (Some arguments) words = words ≡ drop 1 arguments

-- The words follow the program's name (`Follow`), and each is a text (UTF-8).
pub record AreTexts (told : ToldArguments) (words : List (List ℕ)) : Type 0 where
  pub follow : Follow told words
  pub texts : All IsUtf8 words

-- the word that is given, if there is one, is a text
abbrev pub IsText : Result (Option (String Global)) WordsError → Type 0
IsText (Ok (Some word)) = IsUtf8 (string_bytes word)
IsText other = Unit {0}

-- One of the arguments after the program's name is no text, or the arguments are not told.
abbrev pub HaveNoText : ToldArguments → Type 0
HaveNoText None = Unit {0}
HaveNoText (Some arguments) = ¬ All IsUtf8 (drop 1 arguments)

-- what is given of the words
abbrev pub AreWords : ToldArguments → Result (Vec (String Global) Global) WordsError → Type 0
AreWords told (Ok words) = AreTexts told (map string_bytes words.items)
AreWords told (Err NoText) = HaveNoText told
AreWords told (Err Memory) = Unit {0}

-- why there are no words, as a text
abbrev pub words_error_text : WordsError → List ℕ
words_error_text NoText = codes "argument that is no text"
words_error_text Memory = memory_text
