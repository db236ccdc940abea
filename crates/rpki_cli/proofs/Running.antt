-- What a run of the program does, from what it says.
use Rattle.std.proofs.Common.{◌≡◌, ℕ, List, Option, Some, Result, Ok, Err, Vec, Global}
use Rattle.std.proofs.Common.{sym, subst, inl, inr, refl, arith, ◌<◌, [], ◌∷◌, zero, suc, length}
use Rattle.std.proofs.Common.{map, get_or, ◌++◌, ◌∙◌, ◌+◌, ap, take}
use Rattle.std.proofs.Math.Seq.{get_or-append_seam}
use Rattle.std.proofs.lemmas.Bool.{cases_order}
use Rattle.std.proofs.lemmas.List.{append_assoc, get_or_append_left, length-append, take_at}
use Rattle.std.specs.Prelude.{◌⊎◌}
use Rattle.rpki_cli.specs.Answer.{Run, Output, IsSaid, cannot_read, out_of_memory, malformed, shown}
use Rattle.rpki_cli.specs.Command.{IsOfRead, IsOfFile, Task, ShowLines, CheckFiles, Program}
use Rattle.rpki_cli.specs.Command.{order_task, IsOfReads, IsOfFiles, AreTold, ChecksFiles}
use Rattle.rpki_cli.specs.Command.{IsTaskAnswer, IsAnswer, OrOutOfMemory, Shows, IsTaskDone}
use Rattle.rpki_cli.specs.Command.{HasRead, IsRunOf, HaveRead}
use Rattle.rpki_cli.specs.Shown.{HasNoLines, IsSaidOf, IsShown}
use Rattle.rpki_cli.specs.Store.{Told, Names, IsRead, AreRead, AreReadTo, AreAllRead}
use Rattle.rpki_cli.specs.Store.{IsFirstUnreadable, with_octets}
use Rattle.rpki_cli.specs.Language.{Language, IsAsked, AskForNothing}
use Rattle.rpki_cli.specs.declared.causes.Causes.TheVariants.{Omitted}
use Rattle.rpki_cli.specs.declared.store.Reason.{Reason}
use Rattle.rpki_cli.specs.declared.store.Unread.{Unread}
use Rattle.rpki_cli.specs.declared.store.Unread.TheVariants as reads
use Rattle.rpki_cli.specs.declared.store.StoreError.{StoreError}
use Rattle.rpki_cli.specs.declared.store.StoreError.TheVariants.{Unreadable, Memory}
use Rattle.rpki_cli.specs.declared.words.Order.{Order}

said-as : (s is : Output) (run : Run) → s ≡ is → IsSaid s run → IsSaid is run
said-as s is run e h = subst (λ (x : Output). IsSaid x run) e h

-- ---- a file that is shown

module _ (lines_of : List ℕ → List ℕ → Type 0) (s : Output) (run : Run) (h : IsSaid s run) where
  unreadable-said : (file : List ℕ) (why : Reason) (P : List ℕ → Output → Type 0)
      (read : Result (List ℕ) StoreError) → IsRead (Some (Err why)) read
      → IsOfRead file P read s → OrOutOfMemory (cannot_read file) run
  unreadable-said file why P (Ok octets) r o = absurd r
  unreadable-said file why P (Err Memory) r o = inl (said-as s out_of_memory run o h)
  unreadable-said file why P (Err (Unreadable reason)) r o =
      inr (said-as s (cannot_read file) run o h)

  malformed-said : (octets : List ℕ) → HasNoLines lines_of octets
      → IsSaidOf Omitted lines_of octets s → OrOutOfMemory malformed run
  malformed-said octets none (inl e) = inl (said-as s out_of_memory run e h)
  malformed-said octets none (inr (inl m)) = inr (said-as s malformed run m.0 h)
  malformed-said octets none (inr (inr f)) = absurd (none f.0 (f.1).these)

  shown-said : (octets lines : List ℕ) → lines_of octets lines → IsSaidOf Omitted lines_of octets s
      → OrOutOfMemory (shown lines) run
  shown-said octets lines is (inl e) = inl (said-as s out_of_memory run e h)
  shown-said octets lines is (inr (inl m)) = absurd (m.1 lines is)
  shown-said octets lines is (inr (inr f)) =
      inr (subst (λ (l : List ℕ). IsSaid (shown l) run) (sym ((f.1).only lines is))
      (said-as s (shown f.0) run f.2 h))

  of-octets : (file octets : List ℕ) (Q : Type 0) (read : Result (List ℕ) StoreError)
      → IsRead (Some (Ok octets)) read → IsOfRead file (IsShown Omitted lines_of) read s
      → (IsShown Omitted lines_of octets s → IsSaid out_of_memory run ⊎ Q)
      → IsSaid out_of_memory run ⊎ Q
  of-octets file octets Q (Ok v) r o k =
      k (subst (λ (b : List ℕ). IsShown Omitted lines_of b s) r o)
  of-octets file octets Q (Err Memory) r o k = inl (said-as s out_of_memory run o h)
  of-octets file octets Q (Err (Unreadable reason)) r o k = absurd r

  shows : (told : Told) (file : List ℕ) → IsOfFile told file (IsShown Omitted lines_of) s
      → Shows told file lines_of run
  shows told file a =
      let tells : (t : Option (Result (List ℕ) Reason)) → told file ≡ t → IsRead t a.0 =
      λ t e. subst (λ (t : Option (Result (List ℕ) Reason)). IsRead t a.0) e a.1 in
      record {
        unreadable = λ why e. unreadable-said file why (IsShown Omitted lines_of) a.0
            (tells (Some (Err why)) e) a.2;
        malformed = λ octets e none. of-octets file octets (IsSaid malformed run) a.0
            (tells (Some (Ok octets)) e) a.2 (λ h. malformed-said octets none h.said);
        shown = λ octets lines e is. of-octets file octets (IsSaid (shown lines) run) a.0
            (tells (Some (Ok octets)) e) a.2 (λ h. shown-said octets lines is h.said);
      }

-- ---- files that are checked

told-octets : (told : Told) (names files octets : List (List ℕ)) → length files ≡ length names
    → AreReadTo told names (length names) files → AreTold told names octets
    → files ≡ octets
told-octets told [] [] [] e a t = refl
told-octets told [] [] (o ∷ os) e a t = absurd cc
told-octets told [] (f ∷ fs) octets e a t = absurd (omega (arith, e))
told-octets told (n ∷ ns) [] octets e a t = absurd (omega (arith, e))
told-octets told (n ∷ ns) (f ∷ fs) [] e a t = absurd cc
told-octets told (n ∷ ns) (f ∷ fs) (o ∷ os) e a t =
    let first : told n ≡ Some (Ok o) = cc in
    let others : map told ns ≡ map with_octets os = cc in
    let is : f ≡ o =
    subst (λ (x : Option (Result (List ℕ) Reason)). IsRead x (Ok f)) first
    (a 0 n f (omega arith)) in
    let rest : fs ≡ os = told-octets told ns fs os (omega (arith, e))
    (λ k d x l. a (suc k) d x (omega (arith, l))) others in
    cc

told-at : (told : Told) (names octets : List (List ℕ)) (k : ℕ) (d : List ℕ) → k < length names
    → AreTold told names octets → (o : List ℕ) × (told (get_or names k d) ≡ Some (Ok o))
told-at told [] octets k d l t = absurd (omega (arith, l))
told-at told (n ∷ ns) [] k d l t = absurd cc
told-at told (n ∷ ns) (o ∷ os) zero d l t = (o, cc)
told-at told (n ∷ ns) (o ∷ os) (suc k) d l t =
    told-at told ns os k d (omega (arith, l)) cc

readable : (told : Told) (names octets : List (List ℕ)) (old new : Names) (name : List ℕ)
    (reason : Reason) → IsFirstUnreadable told names old new name reason
    → AreTold told names octets → ⊥
readable told names octets old new name reason u t =
    let at = told-at told names octets u.place [] u.there t in
    let same : told name ≡ Some (Ok at.0) =
    subst (λ (n : List ℕ). told n ≡ Some (Ok at.0)) (u.named []) at.1 in
    subst (λ (x : Option (Result (List ℕ) Reason)). IsRead x (Err (Unreadable reason))) same
    u.unreadable

-- the place of a file after others
at-file : (before after : List (List ℕ)) (file : List ℕ) (d : List ℕ)
    → get_or (before ++ file ∷ after) (length before) d ≡ file
at-file before after file d = get_or-append_seam before file after d

-- the files up to one
up-to : (before after : Names) (file : List ℕ)
    → take (length before + 1) (before ++ file ∷ after) ≡ before ++ file ∷ []
up-to before after file =
    ap (λ (ns : Names). take (length before + 1) ns) (sym (append_assoc before (file ∷ []) after))
    ∙ take_at (before ++ file ∷ []) after (length before + 1)
    (omega (arith, length-append before (file ∷ [])))

-- not all are read where one of them can't be
one-unread : (told : Told) (before after : List (List ℕ)) (file : List ℕ) (why : Reason)
    (old new : Names) (files : List (List ℕ))
    → AreAllRead told (before ++ file ∷ after) old new files → told file ≡ Some (Err why) → ⊥
one-unread told before after file why old new [] a u =
    absurd (omega (arith, a.count, length-append before (file ∷ after)))
one-unread told before after file why old new (f ∷ fs) a u =
    let there : length before < length (before ++ file ∷ after) =
    omega (arith, length-append before (file ∷ after)) in
    let here : told (get_or (before ++ file ∷ after) (length before) []) ≡ Some (Err why) =
    subst (λ (n : List ℕ). told n ≡ Some (Err why)) (sym (at-file before after file [])) u in
    subst (λ (x : Option (Result (List ℕ) Reason)).
    IsRead x (Ok (get_or (f ∷ fs) (length before) f))) here
    (a.each (length before) [] f there)

-- the first file that can't be read is the one after those that can
first-is : (told : Told) (before after octets : List (List ℕ)) (file : List ℕ) (why : Reason)
    (old new : Names) (name : List ℕ) (reason : Reason)
    → IsFirstUnreadable told (before ++ file ∷ after) old new name reason
    → AreTold told before octets → told file ≡ Some (Err why)
    → (name ≡ file) × (new ≡ old ++ (before ++ file ∷ []))
first-is told before after octets file why old new name reason u t e =
    elim (cases_order u.place (length before)) [
      | inl same ↦ (
        subst (λ (n : ℕ). name ≡ get_or (before ++ file ∷ after) n []) same (sym (u.named []))
            ∙ at-file before after file [],
        u.reads
            ∙ ap (λ (n : ℕ). old ++ take (n + 1) (before ++ file ∷ after)) same
            ∙ ap (λ (ns : Names). old ++ ns) (up-to before after file),
      )
      | inr (inl l) ↦
          let at = told-at told before octets u.place [] l t in
          let is : get_or before u.place [] ≡ name =
          sym (get_or_append_left before (file ∷ after) [] u.place l) ∙ u.named [] in
          let same : told name ≡ Some (Ok at.0) =
          subst (λ (n : List ℕ). told n ≡ Some (Ok at.0)) is at.1 in
          absurd (subst (λ (x : Option (Result (List ℕ) Reason)).
          IsRead x (Err (Unreadable reason))) same u.unreadable)
      | inr (inr l) ↦
          absurd (u.before (length before) [] why l
          (subst (λ (n : List ℕ). told n ≡ Some (Err why)) (sym (at-file before after file [])) e))
    ]

module _ (told : Told) (P : List (List ℕ) → Output → Type 0) (old new : Names)
    (s : Output) (run : Run) (h : IsSaid s run) where
  of-reads : (names octets : List (List ℕ)) → AreTold told names octets
      → (read : Result (Vec (List ℕ) Global) Unread) → AreRead told names old new read
      → IsOfReads P read s
      → IsSaid out_of_memory run
      ⊎ ((new ≡ old ++ names) × (x : Output) × P octets x × IsSaid x run)
  of-reads names octets t (Ok files) a o = inr (
    a.reads,
    s,
    subst (λ (os : List (List ℕ)). P os s)
        (told-octets told names files.items octets a.count a.each t) o,
    h,
  )
  of-reads names octets t (Err (reads.Unreadable name reason)) a o =
      absurd (readable told names octets old new name.now reason a t)
  of-reads names octets t (Err reads.Memory) a o = inl (said-as s out_of_memory run o h)

  of-unread : (before after octets : List (List ℕ)) (file : List ℕ) (why : Reason)
      → AreTold told before octets → told file ≡ Some (Err why)
      → (read : Result (Vec (List ℕ) Global) Unread)
      → AreRead told (before ++ file ∷ after) old new read → IsOfReads P read s
      → IsSaid out_of_memory run
      ⊎ ((new ≡ old ++ (before ++ file ∷ [])) × IsSaid (cannot_read file) run)
  of-unread before after octets file why t e (Ok files) a o =
      absurd (one-unread told before after file why old new files.items a e)
  of-unread before after octets file why t e (Err (reads.Unreadable name reason)) a o =
      let first = first-is told before after octets file why old new name.now reason a t e in
      inr (
        first.1,
        said-as s (cannot_read file) run (o ∙ ap (λ (n : List ℕ). cannot_read n) first.0) h,
      )
  of-unread before after octets file why t e (Err reads.Memory) a o =
      inl (said-as s out_of_memory run o h)

  all-told : (names octets : List (List ℕ)) → AreTold told names octets
      → IsOfFiles told names P old new s
      → IsSaid out_of_memory run
      ⊎ ((new ≡ old ++ names) × (x : Output) × P octets x × IsSaid x run)
  all-told names octets t (inl m) = inl (said-as s out_of_memory run m.0 h)
  all-told names octets t (inr r) = of-reads names octets t r.0 r.1 r.2

  one-told : (before after octets : List (List ℕ)) (file : List ℕ) (why : Reason)
      → AreTold told before octets → told file ≡ Some (Err why)
      → IsOfFiles told (before ++ file ∷ after) P old new s
      → IsSaid out_of_memory run
      ⊎ ((new ≡ old ++ (before ++ file ∷ [])) × IsSaid (cannot_read file) run)
  one-told before after octets file why t e (inl m) = inl (said-as s out_of_memory run m.0 h)
  one-told before after octets file why t e (inr r) =
      of-unread before after octets file why t e r.0 r.1 r.2

  checks : (names : List (List ℕ)) → IsOfFiles told names P old new s
      → ChecksFiles told names P old new run
  checks names is = record {
    checked = λ octets t. all-told names octets t is;
    unreadable = λ before after octets file why e t u. one-told before after octets file why t u
        (subst (λ (ns : List (List ℕ)). IsOfFiles told ns P old new s) e is);
  }

-- ---- the whole

module _ (told : Told) (old new : Names) (s : Output) (run : Run) (h : IsSaid s run) where
  task-done : (task : Task) → IsTaskAnswer told task old new s → IsTaskDone told task old new run
  task-done (ShowLines file lines_of) a = shows lines_of s run h told file a
  task-done (CheckFiles files P) a = checks told P old new s run h files a

-- no words ask a program for two things
abbrev pub IsAskedOnce : Language → Type 0
IsAskedOnce l = (words : List (List ℕ)) (a b : Order l.Command) → IsAsked l words a
    → IsAsked l words b → a ≡ b

module _ (p : Program) (once : IsAskedOnce p.language) (told : Told) (old new : Names)
    (words : List (List ℕ)) where
  module _ (s : Output) (is : IsAnswer p told words old new s) (run : Run) (h : IsSaid s run) where
    order-done : (o : Order p.language.Command) → IsAsked p.language words o
        → IsAnswer p told words old new s → IsTaskDone told (order_task p o) old new run
    order-done o asked (inl a) =
        task-done told old new s run h (order_task p o)
        (subst (λ (q : Order p.language.Command). IsTaskAnswer told (order_task p q) old new s)
        (once words a.0 o a.1 asked) a.2)
    order-done o asked (inr a) = absurd (a.0 o asked)

    wrong-said : AskForNothing p.language words → IsAnswer p told words old new s
        → IsSaid p.wrong run
    wrong-said nothing (inl a) = absurd (nothing a.0 a.1)
    wrong-said nothing (inr a) = said-as s p.wrong run a.1 h

    pub run-said : IsRunOf p told words old new run
    run-said = record {
      wrong = λ nothing. wrong-said nothing is;
      done = λ o asked. order-done o asked is;
      answered = (s, is, h);
    }

  -- the reads of an order that is asked are those of what the words ask for
  pub read-once : (o : Order p.language.Command) → IsAsked p.language words o
      → HasRead (order_task p o) old new → HaveRead p words old new
  read-once o asked has = record {
    wrong = λ nothing. absurd (nothing o asked);
    done = λ other also. subst
        (λ (q : Order p.language.Command). HasRead (order_task p q) old new)
        (once words o other asked also) has;
  }
