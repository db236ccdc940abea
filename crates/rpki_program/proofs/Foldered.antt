-- What a folder has of files, one after the other.
use Rattle.std.proofs.Common.{◌≡◌, ◌∙◌, ◌++◌, ◌+◌, ◌<◌, ◌≤◌, ◌⊎◌, ℕ, zero, suc, List, [], ◌∷◌, All}
use Rattle.std.proofs.Common.{Bool, Option, None, Some, Ok, Err, ap, arith, get_or, inl, inr, length}
use Rattle.std.proofs.Common.{map, refl, subst, sym, take}
use Rattle.std.proofs.lemmas.List.Elements.{All-push}
use Rattle.std.proofs.lemmas.List.Quantifiers.{Any-push}
use Rattle.std.proofs.lemmas.Bool.{true≢false}
use Rattle.std.specs.Prelude.{Any, IfSome, IsTrue, OnOk, Result}
use Rattle.std.specs.declared.alloc.AllocError.{AllocError}
use Rattle.sha2.specs.Sha256.{sha256}
use Rattle.rpki_cli.specs.Store.{IsRead, Told}
use Rattle.rpki_cli.specs.declared.store.Reason.{Reason}
use Rattle.rpki_cli.specs.declared.store.Reason.TheVariants as reasons
use Rattle.rpki_cli.specs.declared.store.Reason.TheVariants.{NotFound, NotPermitted, Untold}
use Rattle.rpki_cli.specs.declared.store.StoreError.TheVariants.{Unreadable}
use Rattle.rpki_relying_party.specs.Steps.{Adds}
use Rattle.rpki_program.specs.Verify.Files.{AreDigests, CannotRead, Folder, HasFile, IsHeld}
use Rattle.rpki_program.specs.Verify.Files.{IsLacking, IsState, IsUnread, LacksFile, Listed, path_in}
use Rattle.rpki_program.specs.Verify.Files.{HasOneMore, IsUnnamedState, status_of, unread_with}
use Rattle.rpki_program.specs.Verify.Files.{folder_with, named_of, with_files}
use Rattle.rpki_program.specs.declared.verify.folders.Folder.{Folder as Paths}
use Rattle.rpki_program.specs.declared.verify.folders.State.{State}
use Rattle.rpki_program.specs.declared.verify.folders.State.TheVariants as states
use Rattle.rpki_program.specs.declared.verify.folders.Wanted.{Wanted}
use Rattle.rpki_program.proofs.Anchored.{get_or-same}

-- one more of a list
pub one-taken : {A B : Type 0} (f : A → B) (xs : List A) (i : ℕ) (x : A) → i < length xs
    → x ≡ get_or xs i x → map f (take (suc i) xs) ≡ map f (take i xs) ++ f x ∷ []
one-taken f [] i x l e = absurd (omega (arith, l))
one-taken f (z ∷ zs) zero x l e = ap (λ y. f y ∷ []) (sym e)
one-taken f (z ∷ zs) (suc i) x l e =
    ap (λ ys. f z ∷ ys) (one-taken f zs i x (omega (arith, l)) e)

pub any-left : {A : Type 0} (P : A → Type 0) (xs : List A) (y : A) → Any P xs
    → Any P (xs ++ y ∷ [])
any-left P [] y h = absurd (omega (arith, h.2))
any-left P (z ∷ zs) y (zero, x, l, e, p) = (zero, x, omega arith, e, p)
any-left P (z ∷ zs) y (suc k, x, l, e, p) =
    let so = any-left P zs y (k, x, omega (arith, l), e, p) in
    (suc so.0, so.1, omega (arith, so.2), so.3, so.4)

-- something is so of one at a place of a list
pub any-at : {A B : Type 0} (P : B → Type 0) (f : A → B) (xs : List A) (i : ℕ) (x : A)
    → i < length xs → x ≡ get_or xs i x → P (f x) → Any P (map f xs)
any-at P f [] i x l e p = absurd (omega (arith, l))
any-at {A} P f (z ∷ zs) zero x l e p =
    (0, f z, omega arith, refl, subst (λ (y : A). P (f y)) e p)
any-at P f (z ∷ zs) (suc i) x l e p =
    let so = any-at P f zs i x (omega (arith, l)) e p in
    (suc so.0, so.1, omega (arith, so.2), so.3, so.4)

module _ (f : Folder) (listed : Listed) where
  pub held-at : (s : State) → IsState f listed s → status_of s ≤ 0 → IsHeld f listed
  held-at states.Held h l = h
  held-at states.Differs h l = absurd (omega (arith, l))
  held-at states.Missing h l = absurd (omega (arith, l))
  held-at (states.Unreadable reason) h l = absurd (omega (arith, l))

  pub lacking-at : (s : State) → IsState f listed s → status_of s ≡ 1 → IsLacking f listed
  lacking-at states.Held h l = absurd (omega (arith, l))
  lacking-at states.Differs h l = h
  lacking-at states.Missing h l = h
  lacking-at (states.Unreadable reason) h l = absurd (omega (arith, l))

  pub unread-at : (s : State) → IsState f listed s → status_of s ≡ 4
      → (reason : Reason) × IsUnread f listed reason
  unread-at states.Held h l = absurd (omega (arith, l))
  unread-at states.Differs h l = absurd (omega (arith, l))
  unread-at states.Missing h l = absurd (omega (arith, l))
  unread-at (states.Unreadable reason) h l = (reason, h)

pub known-at : (s : State) → (status_of s ≡ 0) ⊎ ((status_of s ≡ 1) ⊎ (status_of s ≡ 4))
known-at states.Held = inl refl
known-at states.Differs = inr (inl refl)
known-at states.Missing = inr (inl refl)
known-at (states.Unreadable reason) = inr (inr refl)

-- what is so of a file, by what is told now
pub told-state : (before told : Told) (p : Paths) (wanted : List Wanted) (i : ℕ) (d : Wanted)
    (s : State) → before ≡ told → IsState (folder_with before p) (named_of (get_or wanted i d)) s
    → IsState (folder_with told p) (named_of (get_or wanted i d)) s
told-state before told p wanted i d s e h =
    subst (λ (t : Told). IsState (folder_with t p) (named_of (get_or wanted i d)) s) e h

-- the status of one file more
module _ (f : Folder) (wanted : List Wanted) (i : ℕ) (d : Wanted) (l : i < length wanted)
    (s : State) (is : IsState f (named_of (get_or wanted i d)) s) (status n next : ℕ)
    (so : n ≡ status_of s) (one : (next ≡ status) ⊎ (next ≡ n)) where
  abbrev w : Wanted
  w = get_or wanted i d

  here : w ≡ get_or wanted i w
  here = sym (get_or-same wanted i d l)

  pub held-more : status ≤ next → n ≤ next
      → (status ≡ 0 → All (IsHeld f) (map named_of (take i wanted)))
      → next ≡ 0 → All (IsHeld f) (map named_of (take (i + 1) wanted))
  held-more low high h e =
      let more : i + 1 ≡ suc i = omega arith in
      subst (λ (k : ℕ). All (IsHeld f) (map named_of (take k wanted))) (sym more)
      (subst (λ (ls : List Listed). All (IsHeld f) ls) (sym (one-taken named_of wanted i w l here))
      (All-push (IsHeld f) (map named_of (take i wanted)) (named_of w)
      (h (omega (arith, low, e))) (held-at f (named_of w) s is (omega (arith, high, e, so)))))

  pub lacking-more : (status ≡ 1 → Any (IsLacking f) (map named_of wanted)) → next ≡ 1
      → Any (IsLacking f) (map named_of wanted)
  lacking-more h e = of one
    where
      of : (next ≡ status) ⊎ (next ≡ n) → Any (IsLacking f) (map named_of wanted)
      of (inl m) = h (sym m ∙ e)
      of (inr m) = any-at (IsLacking f) named_of wanted i w l here
          (lacking-at f (named_of w) s is (sym so ∙ sym m ∙ e))

  pub unread-more :
      (status ≡ 4 → Any (λ v. (reason : Reason) × IsUnread f v reason) (map named_of wanted))
      → next ≡ 4 → Any (λ v. (reason : Reason) × IsUnread f v reason) (map named_of wanted)
  unread-more h e = of one
    where
      of : (next ≡ status) ⊎ (next ≡ n)
          → Any (λ v. (reason : Reason) × IsUnread f v reason) (map named_of wanted)
      of (inl m) = h (sym m ∙ e)
      of (inr m) = any-at (λ v. (reason : Reason) × IsUnread f v reason) named_of wanted i w l here
          (unread-at f (named_of w) s is (sym so ∙ sym m ∙ e))

  pub known-more : (status ≡ 0) ⊎ ((status ≡ 1) ⊎ (status ≡ 4))
      → (next ≡ 0) ⊎ ((next ≡ 1) ⊎ (next ≡ 4))
  known-more k = of one
    where
      of : (next ≡ status) ⊎ (next ≡ n) → (next ≡ 0) ⊎ ((next ≡ 1) ⊎ (next ≡ 4))
      of (inl m) = subst (λ (x : ℕ). (x ≡ 0) ⊎ ((x ≡ 1) ⊎ (x ≡ 4))) (sym m) k
      of (inr m) =
          subst (λ (x : ℕ). (x ≡ 0) ⊎ ((x ≡ 1) ⊎ (x ≡ 4))) (sym (m ∙ so)) (known-at s)

-- ---- digests

module _ (f : Folder) (has : List ℕ → Bool) (unread : Option Reason) (files : List (List ℕ))
    (name : List ℕ) (d : AreDigests (with_files f files) has unread) where
  abbrev more : List (List ℕ)
  more = files ++ name ∷ []

  still : IfSome unread (λ reason. Any (CannotRead (with_files f more) reason) more)
  still = of unread d.unreadable
    where
      of : (u : Option Reason)
          → IfSome u (λ reason. Any (CannotRead (with_files f files) reason) files)
          → IfSome u (λ reason. Any (CannotRead (with_files f more) reason) more)
      of None h = tt
      of (Some reason) h = any-left (CannotRead (with_files f more) reason) files name h

  -- a file more is read
  pub digest-more : (new : List ℕ → Bool) (octets : List ℕ)
      → IsRead (f.told (path_in f.name name)) (Ok octets) → Adds (sha256 octets) has new
      → AreDigests (with_files f more) new unread
  digest-more new octets read adds = record {
    held = λ hash h. of hash ((adds hash).0 h);
    lacking = λ e hash n. All-push (LacksFile (with_files f more) hash) files name
        (d.lacking e hash (λ o. n ((adds hash).1 (inl o))))
        (inl (octets, read, λ s. n ((adds hash).1 (inr (sym s)))));
    unreadable = still;
  }
    where
      of : (hash : List ℕ) → IsTrue (has hash) ⊎ (hash ≡ sha256 octets)
          → Any (HasFile (with_files f more) hash) more
      of hash (inl h) = any-left (HasFile (with_files f more) hash) files name (d.held hash h)
      of hash (inr e) = Any-push (HasFile (with_files f more) hash) files name
          (octets, read, sym e)

  -- one more is none
  pub digest-none : IsRead (f.told (path_in f.name name)) (Err (Unreadable NotFound))
      → AreDigests (with_files f more) has unread
  digest-none read = record {
    held = λ hash h. any-left (HasFile (with_files f more) hash) files name (d.held hash h);
    lacking = λ e hash n. All-push (LacksFile (with_files f more) hash) files name
        (d.lacking e hash n) (inr (inl read));
    unreadable = still;
  }

  -- one more can't be read
  pub digest-unread : (reason : Reason)
      → IsRead (f.told (path_in f.name name)) (Err (Unreadable reason))
      → AreDigests (with_files f more) has (Some reason)
  digest-unread reason read = record {
    held = λ hash h. any-left (HasFile (with_files f more) hash) files name (d.held hash h);
    lacking = λ e. absurd (none e);
    unreadable = Any-push (CannotRead (with_files f more) reason) files name read;
  }
    where
      none : Some reason ≡ None → ⊥
      none e = cc

-- what the digests say of a file without a name
pub unnamed-is : (f : Folder) (hash : List ℕ) (has : List ℕ → Bool) (unread : Option Reason)
    → AreDigests f has unread → (s : State) → IsUnnamedState (has hash) unread s
    → IsState f (None, hash) s
unnamed-is f hash has unread d states.Held h = d.held hash h
unnamed-is f hash has unread d states.Missing h =
    d.lacking h.1 hash (λ t. true≢false (sym t ∙ h.0))
unnamed-is f hash has unread d states.Differs h = absurd h
unnamed-is f hash has unread d (states.Unreadable reason) h =
    subst (λ (u : Option Reason). IfSome u (λ r. Any (CannotRead f r) f.files)) h d.unreadable

-- one more can't be read, or is none
pub digest-denied : (f : Folder) (has : List ℕ → Bool) (unread : Option Reason)
    (files : List (List ℕ)) (name : List ℕ) → AreDigests (with_files f files) has unread
    → (reason : Reason) → IsRead (f.told (path_in f.name name)) (Err (Unreadable reason))
    → AreDigests (with_files f (files ++ name ∷ [])) has (unread_with unread reason)
digest-denied f has unread files name d NotFound read = digest-none f has unread files name d read
digest-denied f has unread files name d NotPermitted read =
    digest-unread f has unread files name d NotPermitted read
digest-denied f has unread files name d reasons.Folder read =
    digest-unread f has unread files name d reasons.Folder read
digest-denied f has unread files name d Untold read =
    digest-unread f has unread files name d Untold read

-- a digest is added, unless memory ran out
pub digest-added : (f : Folder) (name : List ℕ) (has new : List ℕ → Bool) (unread : Option Reason)
    (octets : List ℕ) (made : Result (Unit {0}) AllocError)
    → IsRead (f.told (path_in f.name name)) (Ok octets) → OnOk made (Adds (sha256 octets) has new)
    → OnOk made (HasOneMore f name has unread new unread)
digest-added f name has new unread octets (Ok u) read adds =
    λ files d. digest-more f has unread files name d new octets read adds
digest-added f name has new unread octets (Err e) read adds = tt
