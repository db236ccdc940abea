-- What is said of files, by steps.
use Rattle.std.proofs.Common.{◌≡◌, ◌+◌, ◌≤◌, ℕ, List, ◌++◌, Ok, Err, Vec, Global, inr, subst, sym}
use Rattle.std.proofs.Common.{ap, ◌∙◌, arith, length}
use Rattle.std.proofs.lemmas.List.{append-nil, length-append, length-map, map-append, take_all}
use Rattle.std.specs.Borrow.{Bor}
use Rattle.rpki_cli.specs.Answer.{Output, cannot_read, out_of_memory}
use Rattle.rpki_cli.specs.Command.{AreReadAtMost, IsOfFiles}
use Rattle.rpki_cli.specs.Store.{Told, Names, AreAllRead, IsFirstUnreadable, AreSomeRead}
use Rattle.rpki_cli.specs.Words.{texts, chain_in, paths_in, others_in}
use Rattle.rpki_cli.specs.declared.store.Reason.{Reason}
use Rattle.rpki_cli.specs.declared.store.Unread.TheVariants as reads

-- the same names
pub of-same : (told : Told) (seen names all : List (Bor (List ℕ)))
    (P : List (List ℕ) → Output → Type 0) (old new : Names) (s : Output)
    → IsOfFiles told (texts seen) P old new s → names ≡ all → seen ≡ names
    → IsOfFiles told (texts all) P old new s
of-same told seen names all P old new s h e d =
    subst (λ (ns : List (Bor (List ℕ))). IsOfFiles told (texts ns) P old new s) (d ∙ e) h

pub read-same : (seen names all : List (Bor (List ℕ))) (old new : Names)
    → AreReadAtMost (texts seen) old new → names ≡ all → seen ≡ names
    → AreReadAtMost (texts all) old new
read-same seen names all old new h e d =
    subst (λ (ns : List (Bor (List ℕ))). AreReadAtMost (texts ns) old new) (d ∙ e) h

-- as many names as there are first ones and others
pub more-names : (n : ℕ) (seen names first others : List (Bor (List ℕ)))
    → n ≤ length first + length others → names ≡ first ++ others → seen ≡ names → n ≤ length seen
more-names n seen names first others l e d =
    omega (arith, l, ap length d, ap length e, length-append first others)

-- ---- files that the words after a trust anchor name

texts-append : (first others : List (Bor (List ℕ))) (names : List (List ℕ))
    → texts others ≡ names → texts (first ++ others) ≡ texts first ++ names
texts-append first others names e =
    map-append (λ (x : Bor (List ℕ)). x.now) first others
    ∙ ap (λ (ns : List (List ℕ)). texts first ++ ns) e

-- the same names
pub of-tail : (told : Told) (first others seen : List (Bor (List ℕ))) (names : List (List ℕ))
    (P : List (List ℕ) → Output → Type 0) (old new : Names) (s : Output)
    → IsOfFiles told (texts (first ++ seen)) P old new s → texts others ≡ names
    → seen ≡ others → IsOfFiles told (texts first ++ names) P old new s
of-tail told first others seen names P old new s h e d =
    subst (λ (ns : List (List ℕ)). IsOfFiles told ns P old new s)
    (texts-append first seen names (ap texts d ∙ e)) h

pub read-tail : (first others seen : List (Bor (List ℕ))) (names : List (List ℕ))
    (old new : Names) → AreReadAtMost (texts (first ++ seen)) old new
    → texts others ≡ names → seen ≡ others
    → AreReadAtMost (texts first ++ names) old new
read-tail first others seen names old new h e d =
    subst (λ (ns : List (List ℕ)). AreReadAtMost ns old new)
    (texts-append first seen names (ap texts d ∙ e)) h

-- as many names as there are first ones and certificates of CAs
pub tail-names : (n : ℕ) (first others seen : List (Bor (List ℕ))) (tail : List (List ℕ))
    → n ≤ length first + length (chain_in tail) → texts others ≡ others_in tail → seen ≡ others
    → n ≤ length first + length seen
tail-names n first others seen tail l e d =
    omega (
      arith,
      l,
      ap length d,
      ap length e,
      length-append (chain_in tail) (paths_in tail),
      length-map others (λ (x : Bor (List ℕ)). x.now),
    )

-- as many names as there are first ones and those of anchors
pub anchor-names : (n : ℕ) (first others seen : List (Bor (List ℕ))) (names : List (List ℕ))
    → n ≤ length first + length names → texts others ≡ names → seen ≡ others
    → n ≤ length first + length seen
anchor-names n first others seen names l e d =
    omega (
      arith,
      l,
      ap length d,
      ap length e,
      length-map others (λ (x : Bor (List ℕ)). x.now),
    )

-- the first file that can't be read
pub of-unreadable : (told : Told) (names : List (List ℕ))
    (P : List (List ℕ) → Output → Type 0) (old new : Names) (name : Bor (List ℕ))
    (reason : Reason) (s : Output)
    → IsFirstUnreadable told names old new name.now reason → s ≡ cannot_read name.now
    → IsOfFiles told names P old new s
of-unreadable told names P old new name reason s u e =
    inr (Err (reads.Unreadable name reason), u, e)

-- some are read, until memory runs out
pub of-some-read : (told : Told) (names : List (List ℕ)) (P : List (List ℕ) → Output → Type 0)
    (old new : Names) (s : Output) → AreSomeRead told names old new → s ≡ out_of_memory
    → IsOfFiles told names P old new s
of-some-read told names P old new s a e = inr (Err reads.Memory, a, e)

-- all are read
pub of-all-read : (told : Told) (names : List (List ℕ)) (P : List (List ℕ) → Output → Type 0)
    (old new : Names) (files : Vec (List ℕ) Global) (seen : List (List ℕ)) (s : Output)
    → AreAllRead told names old new files.items → P seen s → seen ≡ files.items
    → IsOfFiles told names P old new s
of-all-read told names P old new files seen s a h e = inr (
  Ok files,
  a,
  subst (λ (fs : List (List ℕ)). P fs s) e h,
)

-- no file is read
pub none-at-most : (files names : Names) → AreReadAtMost files names names
none-at-most files names = record { many = 0; reads = sym (append-nil names) }

-- all are read, and no other
pub all-at-most : (told : Told) (names : Names) (old new : Names) (files : List (List ℕ))
    → AreAllRead told names old new files → AreReadAtMost names old new
all-at-most told names old new files a = record {
  many = length names;
  reads = a.reads ∙ ap (λ (ns : Names). old ++ ns)
      (sym (take_all (length names) names (omega arith)));
}

-- those up to the first that can't be read
pub first-at-most : (told : Told) (names : Names) (old new : Names) (name : List ℕ)
    (reason : Reason) → IsFirstUnreadable told names old new name reason
    → AreReadAtMost names old new
first-at-most told names old new name reason u = record { many = u.place + 1; reads = u.reads }

-- those up to one of them
pub some-at-most : (told : Told) (names : Names) (old new : Names)
    → AreSomeRead told names old new → AreReadAtMost names old new
some-at-most told names old new a = record { many = a.place + 1; reads = a.reads }

-- as many files as names
pub as-many-files : (n : ℕ) (names : List (Bor (List ℕ))) (files seen : List (List ℕ))
    → length files ≡ length (texts names) → seen ≡ files → n ≤ length names → n ≤ length seen
as-many-files n names files seen e d l =
    omega (arith, e, l, ap length d, length-map names (λ (x : Bor (List ℕ)). x.now))

pub ruleset by_names = (of-same, read-same, none-at-most, more-names)

pub ruleset by_tail = (of-tail, read-tail, none-at-most, tail-names, anchor-names)

pub ruleset by_reads = (
  of-unreadable,
  of-some-read,
  of-all-read,
  as-many-files,
  all-at-most,
  first-at-most,
  some-at-most,
)
