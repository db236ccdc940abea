-- What words ask for.
use Rattle.std.specs.Prelude.{◌≡◌, ℕ, List, true}
use Rattle.rpki_cli.specs.Words.{with_options, are_named}
use Rattle.rpki_cli.specs.declared.words.Order.{Order}

-- How the orders of a program are written: its commands, the words of each, which follow the
-- options, the files that these name, in the order of the words, and what else is asked of a
-- command.
pub record Language : Type 1 where
  pub Command : Type 0
  pub words : Command → List (List ℕ)
  pub files : Command → List (List ℕ)
  pub IsFit : Command → Type 0

-- the words, without the program's name, that an order is written as
abbrev pub order_words : (l : Language) → Order l.Command → List (List ℕ)
order_words l o = with_options o.options (l.words o.command)

-- The words ask for this: they are its words, each file has a name, and its command is fit. So a
-- moment that is named is one of the calendar.
abbrev pub IsAsked : (l : Language) → List (List ℕ) → Order l.Command → Type 0
IsAsked l words o =
    (words ≡ order_words l o) × (are_named (l.files o.command) ≡ true) × l.IsFit o.command

-- The words ask for no order, as `IsAsked` says: they are those of none, or only of one in which a
-- file has no name or the command is not fit.
abbrev pub AskForNothing : Language → List (List ℕ) → Type 0
AskForNothing l words = (o : Order l.Command) → IsAsked l words o → ⊥
