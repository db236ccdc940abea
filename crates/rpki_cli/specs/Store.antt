-- What a store tells of a file, and what a read of it answers.
use Rattle.std.specs.Prelude.{◌≡◌, ℕ, ◌+◌, ◌<◌, List, [], ◌++◌, take, length, slice_index_or, codes}
use Rattle.std.specs.Prelude.{Option, None, Some, Result, Ok, Err, Vec}
use Rattle.std.specs.declared.alloc.Global.{Global}
use Rattle.rpki_cli.specs.Answer.{memory_text}
use Rattle.rpki_cli.specs.declared.store.Reason.{Reason}
use Rattle.rpki_cli.specs.declared.store.Reason.TheVariants.{NotFound, NotPermitted, Folder, Untold}
use Rattle.rpki_cli.specs.declared.store.StoreError.{StoreError}
use Rattle.rpki_cli.specs.declared.store.StoreError.TheVariants.{Unreadable, Memory}
use Rattle.rpki_cli.specs.declared.store.Unread.{Unread}
use Rattle.rpki_cli.specs.declared.store.Unread.TheVariants as unread

-- What a read of a file may answer. Of the file the store tells its octets, or why it can't be
-- read, or nothing. The answer is what is told, and any where nothing is; and it may always be that
-- memory ran out.
abbrev pub IsRead : Option (Result (List ℕ) Reason) → Result (List ℕ) StoreError → Type 0
IsRead told (Err Memory) = Unit {0}
IsRead None (Ok octets) = Unit {0}
IsRead None (Err (Unreadable reason)) = Unit {0}
IsRead (Some (Ok file)) (Ok octets) = octets ≡ file
IsRead (Some (Ok file)) (Err (Unreadable reason)) = ⊥
IsRead (Some (Err told)) (Ok octets) = ⊥
IsRead (Some (Err told)) (Err (Unreadable reason)) = reason ≡ told

-- Names of files, in an order; where one stands twice, these are two. As `old` and `new` they are
-- those of all files that a store was ever asked for, in the order of asking: `old` where a call
-- begins, and `new` where it has ended. A file is read, here, where the store is asked for it,
-- whatever it answers.
abbrev pub Names : Type 0
Names = List (List ℕ)

-- What a store tells of each file, by its name: its octets, why it can't be read, or nothing.
abbrev pub Told : Type 0
Told = List ℕ → Option (Result (List ℕ) Reason)

-- what a store tells of a file that has these octets
abbrev pub with_octets : List ℕ → Option (Result (List ℕ) Reason)
with_octets octets = Some (Ok octets)

-- For each of the first `n` names, the octets at its place are an answer that a read of the file of
-- this name may give.
abbrev pub AreReadTo : Told → Names → ℕ → List (List ℕ) → Type 0
AreReadTo told names n files = (k : ℕ) (d e : List ℕ) → k < n
    → IsRead (told (slice_index_or names k d)) (Ok (slice_index_or files k e))

-- Each file is read, in the order of the names, once, and no other. For each there are octets,
-- which are an answer that its read may give.
pub record AreAllRead (told : Told) (names old new : Names) (files : List (List ℕ))
    : Type 0 where
  pub count : length files ≡ length names
  pub each : AreReadTo told names (length names) files
  pub reads : new ≡ old ++ names

-- Of none of the first `n` names is it told that the file can't be read, whatever the reason.
abbrev pub NoneIsUnreadable : Told → Names → ℕ → Type 0
NoneIsUnreadable told names n = (k : ℕ) (d : List ℕ) (why : Reason) → k < n
    → told (slice_index_or names k d) ≡ Some (Err why) → ⊥

-- The read of the file of this name may answer that it can't be read, for this reason, and none
-- before it is told to be such. Those up to it are read, it too, in the order of the names, each
-- once, and no other.
pub record IsFirstUnreadable (told : Told) (names old new : Names) (name : List ℕ)
    (reason : Reason) : Type 0 where
  pub place : ℕ
  pub there : place < length names
  pub named : (d : List ℕ) → slice_index_or names place d ≡ name
  pub unreadable : IsRead (told name) (Err (Unreadable reason))
  pub before : NoneIsUnreadable told names place
  pub reads : new ≡ old ++ take (place + 1) names

-- Memory runs out. The files up to some place are read, one at least, in the order of the names,
-- each once, and no other; of those before the last of them none is told to be unreadable.
pub record AreSomeRead (told : Told) (names old new : Names) : Type 0 where
  pub place : ℕ
  pub there : place < length names
  pub before : NoneIsUnreadable told names place
  pub reads : new ≡ old ++ take (place + 1) names

-- What a read of several files answers: all of them, or the first that can't be read, or want of
-- memory; and which files are read for it.
abbrev pub AreRead : Told → Names → Names → Names → Result (Vec (List ℕ) Global) Unread → Type 0
AreRead told names old new (Ok files) = AreAllRead told names old new files.items
AreRead told names old new (Err (unread.Unreadable name reason)) =
    IsFirstUnreadable told names old new name.now reason
AreRead told names old new (Err unread.Memory) = AreSomeRead told names old new

-- why a file can't be read, after its name, where the system tells it
abbrev pub reason_text : Reason → List ℕ
reason_text NotFound = codes ": no such file"
reason_text NotPermitted = codes ": permission denied"
reason_text Folder = codes ": is a folder"
reason_text Untold = []

-- that a file can't be read, as a text
abbrev pub unreadable_text : List ℕ
unreadable_text = codes "unreadable file"

-- The text that says why a read of a file failed.
abbrev pub store_error_text : StoreError → List ℕ
store_error_text (Unreadable reason) = unreadable_text ++ reason_text reason
store_error_text Memory = memory_text

-- The text that says why a read of several files failed.
abbrev pub unread_text : Unread → List ℕ
unread_text (unread.Unreadable name reason) =
    unreadable_text ++ (codes " " ++ (name.now ++ reason_text reason))
unread_text unread.Memory = memory_text
