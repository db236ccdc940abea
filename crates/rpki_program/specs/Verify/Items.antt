-- What the words after a command are: options, with values or without, and operands
-- (POSIX.1-2017, Base Definitions, section 12.2, Guidelines 9, 10 and 13).
use Rattle.std.specs.Prelude.{◌≡◌, ℕ, List, [], ◌∷◌, ◌++◌, Bool, true, false, not, ◌&&◌, ◌==◌}
use Rattle.std.specs.Prelude.{length, map, codes, if◌then◌else◌, Option, None, Some}
use Rattle.std.specs.List.{flat_map, list_any}
use Rattle.rpki_program.specs.Verify.Words.{IsWordOf, takes_value, is_same}
use Rattle.rpki_program.specs.declared.verify.items.Item.{Item}
use Rattle.rpki_program.specs.declared.verify.items.Item.TheVariants.{Flag, Value, Operand}
use Rattle.rpki_program.specs.declared.verify.items.Part.{Part}
use Rattle.rpki_program.specs.declared.verify.items.Part.TheVariants as parts
use Rattle.rpki_program.specs.declared.verify.options.OptionName.{OptionName}

-- Whether a word begins with `-` and is not `-`. The word `-` alone is an operand, and names the
-- standard input (Guideline 13).
abbrev pub is_dashed : List ℕ → Bool
is_dashed [] = false
is_dashed (first ∷ rest) = (first == 0x2D) && not (length rest == 0)

-- The word is that of an option, `=`, and the value.
pub record IsJoined (word : List ℕ) (n : OptionName) (value : List ℕ) : Type 0 where
  pub front : List ℕ
  pub parts : word ≡ front ++ (codes "=" ++ value)
  pub option : IsWordOf front n
  pub takes : takes_value n ≡ true

-- The words are this item: a flag is its word; an option that takes a value is its word and the
-- next, whatever that is, or both in one; an operand is a word that is not dashed.
abbrev pub AreItem : List (List ℕ) → Item → Type 0
AreItem (word ∷ []) (Flag n) = IsWordOf word n × (takes_value n ≡ false)
AreItem (word ∷ []) (Value n value) = IsJoined word n value
AreItem (word ∷ next ∷ []) (Value n value) =
    IsWordOf word n × (takes_value n ≡ true) × (value ≡ next)
AreItem (word ∷ []) (Operand operand) = (operand ≡ word) × (is_dashed word ≡ false)
AreItem words item = ⊥

-- The words are these items, one after the other. Options stand anywhere, and after `--` each word
-- is an operand.
pub data AreItems : List (List ℕ) → List Item → Type 0 where
  no_more : AreItems [] []
  next : (these words : List (List ℕ)) {item : Item} {items : List Item} → AreItem these item
      → AreItems words items → AreItems (these ++ words) (item ∷ items)
  ended : {words : List (List ℕ)} → AreItems (codes "--" ∷ words) (map Operand words)

-- whether an item is this flag
abbrev pub is_flag : OptionName → Item → Bool
is_flag n (Flag m) = is_same m n
is_flag n item = false

-- whether a flag stands among items
abbrev pub is_set : OptionName → List Item → Bool
is_set n items = list_any (is_flag n) items

-- the value that an item gives to this option, if it gives one
abbrev pub value_in : OptionName → Item → List (List ℕ)
value_in n (Value m value) = if is_same m n then value ∷ [] else []
value_in n item = []

-- the values of an option, in their order
abbrev pub values : OptionName → List Item → List (List ℕ)
values n items = flat_map (value_in n) items

-- the operand that an item is, if it is one
abbrev pub operand_in : Item → List (List ℕ)
operand_in (Operand word) = word ∷ []
operand_in item = []

-- the operands, in their order
abbrev pub operands : List Item → List (List ℕ)
operands items = flat_map operand_in items

-- what a word is where an item begins
abbrev pub IsPart : List ℕ → Part → Type 0
IsPart word (parts.Whole item) = AreItem (word ∷ []) item
IsPart word (parts.Name n) = IsWordOf word n × (takes_value n ≡ true)
IsPart word parts.End = word ≡ codes "--"
IsPart word (parts.Wrong fault) = Unit {0}

-- The word and those after it begin with this item, which is so many words; there is none at `--`.
abbrev pub IsNext : List ℕ → List (List ℕ) → Option (Item × ℕ) → Type 0
IsNext word rest None = word ≡ codes "--"
IsNext word rest (Some found) = (these after : List (List ℕ)) × AreItem these found.0
    × (word ∷ rest ≡ these ++ after) × (found.1 ≡ length these)
