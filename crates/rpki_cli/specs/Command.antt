-- What a program answers to its words, and what a run of it does. What `old` and `new` are is said
-- with `Names` (specs/Store.antt).
use Rattle.std.specs.Prelude.{◌≡◌, ℕ, ◌⊎◌, List, [], ◌∷◌, ◌++◌, take, map, Some, Result, Ok}
use Rattle.std.specs.Prelude.{Err, Vec}
use Rattle.std.specs.declared.alloc.Global.{Global}
use Rattle.rpki_cli.specs.Answer.{Run, Output, IsSaid, cannot_read, out_of_memory, malformed, shown}
use Rattle.rpki_cli.specs.Shown.{HasNoLines, IsShown}
use Rattle.rpki_cli.specs.Language.{Language, IsAsked, AskForNothing}
use Rattle.rpki_cli.specs.Store.{Told, Names, IsRead, AreRead, with_octets}
use Rattle.rpki_cli.specs.Words.{command_words, files_of, IsProper}
use Rattle.rpki_cli.specs.declared.causes.Causes.TheVariants.{Omitted}
use Rattle.rpki_cli.specs.declared.store.Reason.{Reason}
use Rattle.rpki_cli.specs.declared.store.StoreError.{StoreError}
use Rattle.rpki_cli.specs.declared.store.StoreError.TheVariants.{Unreadable, Memory}
use Rattle.rpki_cli.specs.declared.store.Unread.{Unread}
use Rattle.rpki_cli.specs.declared.store.Unread.TheVariants as reads
use Rattle.rpki_cli.specs.declared.words.Command.{Command}
use Rattle.rpki_cli.specs.declared.words.Options.{Options}
use Rattle.rpki_cli.specs.declared.words.Order.{Order}

-- what is said where a read of a file fails
abbrev pub unread : List ℕ → StoreError → Output
unread name (Unreadable reason) = cannot_read name
unread name Memory = out_of_memory

-- what is said where a read of a file answers this
abbrev pub IsOfRead : List ℕ → (List ℕ → Output → Type 0) → Result (List ℕ) StoreError → Output
    → Type 0
IsOfRead name P (Ok octets) s = P octets s
IsOfRead name P (Err error) s = s ≡ unread name error

-- what is said of a file in a store that tells this, where `P` says what is said of its octets
abbrev pub IsOfFile : Told → List ℕ → (List ℕ → Output → Type 0) → Output → Type 0
IsOfFile told name P s = (read : Result (List ℕ) StoreError)
    × IsRead (told name) read × IsOfRead name P read s

-- What an order comes to.
pub data Task : Type 1 where
  -- to show the lines of what stands in a file
  ShowLines : (file : List ℕ) (lines_of : List ℕ → List ℕ → Type 0) → Task
  -- to read these files, in this order, and to say what is said of their octets, or which can't be
  -- read
  CheckFiles : (files : List (List ℕ)) (answers : List (List ℕ) → Output → Type 0) → Task

-- A program: how its orders are written, what a command comes to with options, and what is said to
-- words that ask for nothing.
pub record Program : Type 1 where
  pub language : Language
  pub task : Options → language.Command → Task
  pub wrong : Output

-- what an order comes to
abbrev pub order_task : (p : Program) → Order p.language.Command → Task
order_task p o = p.task o.options o.command

-- how the orders of the program with verdicts are written
abbrev pub objects_language : Language
objects_language = record {
  Command = Command;
  words = command_words;
  files = files_of;
  IsFit = IsProper;
}

-- what is said where reads of files answer this
abbrev pub IsOfReads : (List (List ℕ) → Output → Type 0) → Result (Vec (List ℕ) Global) Unread
    → Output → Type 0
IsOfReads P (Ok files) s = P files.items s
IsOfReads P (Err (reads.Unreadable name reason)) s = s ≡ cannot_read name.now
IsOfReads P (Err reads.Memory) s = s ≡ out_of_memory

-- What is said of files in a store that tells this, and which of them are read for it, in their
-- order, each once. Where all are read, it is what `P` says of their octets. Where one can't be
-- read, it is that, and none is read after it. Where memory runs out, it is that: none is read, or
-- those up to some place, and none after one that is told to be unreadable.
abbrev pub IsOfFiles : Told → Names → (List (List ℕ) → Output → Type 0) → Names → Names → Output
    → Type 0
IsOfFiles told files P old new s =
    ((s ≡ out_of_memory) × (new ≡ old))
    ⊎ ((read : Result (Vec (List ℕ) Global) Unread)
    × AreRead told files old new read × IsOfReads P read s)

-- What is said for a task; for `CheckFiles`, together with which of the files are read for that.
-- What the other task reads, `HasRead` says.
abbrev pub IsTaskAnswer : Told → Task → Names → Names → Output → Type 0
IsTaskAnswer told (ShowLines file lines_of) old new s =
    IsOfFile told file (IsShown Omitted lines_of) s
IsTaskAnswer told (CheckFiles files P) old new s = IsOfFiles told files P old new s

-- None, some or all of these files are read: those up to some place, in their order, each once, and
-- no other.
pub record AreReadAtMost (files old new : Names) : Type 0 where
  pub many : ℕ
  pub reads : new ≡ old ++ take many files

-- Which files a task reads. For `CheckFiles`, `IsTaskAnswer` says more: which of them are read for
-- what is said.
abbrev pub HasRead : Task → Names → Names → Type 0
HasRead (ShowLines file lines_of) old new = new ≡ old ++ file ∷ []
HasRead (CheckFiles files P) old new = AreReadAtMost files old new

-- What is said for the order that the words ask for, or that they are wrong where they ask for
-- none; for `CheckFiles`, together with which of the files are read for that.
abbrev pub IsAnswer : Program → Told → List (List ℕ) → Names → Names → Output → Type 0
IsAnswer p told words old new s =
    ((o : Order p.language.Command) × IsAsked p.language words o
    × IsTaskAnswer told (order_task p o) old new s)
    ⊎ (AskForNothing p.language words × (s ≡ p.wrong))

-- this is said, unless memory runs out
abbrev pub OrOutOfMemory : Output → Run → Type 0
OrOutOfMemory s run = IsSaid out_of_memory run ⊎ IsSaid s run

-- The run shows what stands in a file, where the store tells the file.
pub record Shows (told : Told) (file : List ℕ) (lines_of : List ℕ → List ℕ → Type 0) (run : Run)
    : Type 0 where
  -- a file that can't be read, whatever the reason
  pub unreadable : (reason : Reason) → told file ≡ Some (Err reason)
      → OrOutOfMemory (cannot_read file) run
  -- octets that have no lines
  pub malformed : (octets : List ℕ) → told file ≡ Some (Ok octets) → HasNoLines lines_of octets
      → OrOutOfMemory malformed run
  -- octets that have lines
  pub shown : (octets lines : List ℕ) → told file ≡ Some (Ok octets) → lines_of octets lines
      → OrOutOfMemory (shown lines) run

-- the store tells these octets of these files
abbrev pub AreTold : Told → List (List ℕ) → List (List ℕ) → Type 0
AreTold told files octets = map told files ≡ map with_octets octets

-- The run checks files, where the store tells them, unless memory runs out.
pub record ChecksFiles (told : Told) (files : Names) (P : List (List ℕ) → Output → Type 0)
    (old new : Names) (run : Run) : Type 0 where
  -- files that can be read: they are read in their order, each once, and no other, and what is to
  -- be said of them is said
  pub checked : (octets : List (List ℕ)) → AreTold told files octets
      → IsSaid out_of_memory run
      ⊎ ((new ≡ old ++ files) × (s : Output) × P octets s × IsSaid s run)
  -- a file that can't be read, whatever the reason, after any number that can: these are read in
  -- their order, each once, then it, and no other, and it is said that it can't be read
  pub unreadable : (before after octets : List (List ℕ)) (file : List ℕ) (reason : Reason)
      → files ≡ before ++ file ∷ after → AreTold told before octets
      → told file ≡ Some (Err reason)
      → IsSaid out_of_memory run
      ⊎ ((new ≡ old ++ (before ++ file ∷ [])) × IsSaid (cannot_read file) run)

-- the run does a task
abbrev pub IsTaskDone : Told → Task → Names → Names → Run → Type 0
IsTaskDone told (ShowLines file lines_of) old new run = Shows told file lines_of run
IsTaskDone told (CheckFiles files P) old new run = ChecksFiles told files P old new run

-- What a run of a program does, where the store tells this of each file by its name.
pub record IsRunOf (p : Program) (told : Told) (words : List (List ℕ)) (old new : Names)
    (run : Run) : Type 0 where
  -- words that ask for nothing
  pub wrong : AskForNothing p.language words → IsSaid p.wrong run
  -- words that ask for this
  pub done : (o : Order p.language.Command) → IsAsked p.language words o
      → IsTaskDone told (order_task p o) old new run
  -- whatever the store tells, one answer is said
  pub answered : (s : Output) × IsAnswer p told words old new s × IsSaid s run

-- Which files a run asks the store for: none for words that ask for nothing, and for others those
-- that their task reads.
pub record HaveRead (p : Program) (words : List (List ℕ)) (old new : Names) : Type 0 where
  pub wrong : AskForNothing p.language words → new ≡ old
  pub done : (o : Order p.language.Command) → IsAsked p.language words o
      → HasRead (order_task p o) old new
