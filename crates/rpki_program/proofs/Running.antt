-- Entries that are written one after the other.
use Rattle.std.proofs.Common.{◌≡◌, ◌∙◌, ◌⊎◌, ℕ, zero, suc, ◌+◌, ◌<◌, ◌≤◌, List, [], ◌∷◌, ◌++◌}
use Rattle.std.proofs.Common.{Option, append_assoc, arith, get_or, inl, inr, length, refl, subst, sym}
use Rattle.std.proofs.Common.{ap, drop, take}
use Rattle.std.proofs.KnownBytes.{Appends-nil, Appends-trans}
use Rattle.std.proofs.Math.Seq.{drop-cons}
use Rattle.std.proofs.lemmas.List.{append-nil, take-append-drop}
use Rattle.std.proofs.lemmas.List.Elements.{All-nil, All-push}
use Rattle.std.specs.Borrow.{Bor}
use Rattle.std.specs.Io.KnownBytes.{Appends}
use Rattle.std.specs.List.{AllZip, flat_map}
use Rattle.std.specs.Prelude.{string_bytes}
use Rattle.rpki_cli.specs.Store.{Told}
use Rattle.rpki_validation.specs.declared.grounds.Grounds.{Grounds}
use Rattle.rpki_validation.specs.declared.question.Question.{Question}
use Rattle.rpki_der.specs.Write.Sink.{AppendsFront}
use Rattle.rpki_program.specs.Verify.Check.{AreBegun, AreWritten, HasStatus, IsRunOver}
use Rattle.rpki_program.specs.Verify.Entry.{IsEntry, status_of}
use Rattle.rpki_program.specs.Verify.Report.{IsCut}
use Rattle.rpki_program.specs.declared.verify.check.entry.Entry.{Entry}
use Rattle.rpki_program.specs.declared.verify.request.CheckRequest.{CheckRequest}

-- a place of a list has one thing, whatever stands for it elsewhere
pub in-range : {A : Type 0} (xs : List A) (i : ℕ) (d e : A) → i < length xs
    → get_or xs i d ≡ get_or xs i e
in-range [] i d e l = absurd (omega (arith, l))
in-range (x ∷ xs) zero d e l = refl
in-range (x ∷ xs) (suc i) d e l = in-range xs i d e (omega (arith, l))

pub zip-step : {A B : Type 0} (R : A → B → Type 0) (xs : List A) (ys : List B) (i : ℕ) (x : A) (y : B)
    → i < length xs → x ≡ get_or xs i x → AllZip R (take i xs) ys → R x y
    → AllZip R (take (suc i) xs) (ys ++ y ∷ [])
zip-step R [] ys i x y l e h r = absurd (omega (arith, l))
zip-step {A} {B} R (z ∷ zs) [] zero x y l e h r = (subst (λ (a : A). R a y) e r, tt)
zip-step R (z ∷ zs) (w ∷ ws) zero x y l e h r = absurd h
zip-step R (z ∷ zs) [] (suc i) x y l e h r = absurd h
zip-step R (z ∷ zs) (w ∷ ws) (suc i) x y l e h r =
    (h.0, zip-step R zs ws i x y (omega (arith, l)) e h.1 r)

pub zip-next : {A B : Type 0} (R : A → B → Type 0) (xs : List A) (ys : List B) (i : ℕ) (x : A) (y : B)
    → i < length xs → x ≡ get_or xs i x → AllZip R (take i xs) ys → R x y
    → AllZip R (take (i + 1) xs) (ys ++ y ∷ [])
zip-next R xs ys i x y l e h r =
    let same : suc i ≡ i + 1 = omega arith in
    subst (λ (n : ℕ). AllZip R (take n xs) (ys ++ y ∷ [])) same (zip-step R xs ys i x y l e h r)

pub flat-more : {X : Type 0} (f : X → List ℕ) (xs : List X) (x : X)
    → flat_map f (xs ++ x ∷ []) ≡ flat_map f xs ++ f x
flat-more f [] x = append-nil (f x)
flat-more f (y ∷ ys) x =
    ap (λ (l : List ℕ). f y ++ l) (flat-more f ys x)
    ∙ sym (append_assoc (f y) (flat_map f ys) (f x))

module _ (told : Told) (r : CheckRequest) (q : Question) (g : Grounds)
    (files : List (Bor (List ℕ))) (start : Option (List ℕ)) where
  -- nothing is written of no files
  pub none-written : AreWritten told r q g [] start start 0
  none-written = record {
    entries = [];
    each = tt;
    written = Appends-nil start;
    greatest = All-nil (λ (e : Entry). status_of e.verdict ≤ 0);
    reached = inl refl;
  }

  -- one entry more
  one-more-of : (i : ℕ) (f : Bor (List ℕ)) (e : Entry) (now after : Option (List ℕ))
      (status next : ℕ) → i < length files → f ≡ get_or files i f
      → AreWritten told r q g (take i files) start now status → IsEntry told r q g f.now e
      → Appends now after (string_bytes e.text) → status ≤ next → status_of e.verdict ≤ next
      → (next ≡ status) ⊎ (next ≡ status_of e.verdict)
      → AreWritten told r q g (take (i + 1) files) start after next
  one-more-of i f e now after status next l is w entry grown low high one =
      let bytes : Entry → List ℕ = λ e. string_bytes e.text in
      let same : i + 1 ≡ suc i = omega arith in
      record {
        entries = w.entries ++ e ∷ [];
        each = subst (λ (n : ℕ). AllZip (λ (f : Bor (List ℕ)) (e : Entry). IsEntry told r q g f.now e)
            (take n files) (w.entries ++ e ∷ [])) (sym same)
            (zip-step (λ (f : Bor (List ℕ)) (e : Entry). IsEntry told r q g f.now e) files w.entries
            i f e l is w.each entry);
        written = subst (λ (os : List ℕ). Appends start after os)
            (sym (flat-more bytes w.entries e))
            (Appends-trans start now after (flat_map bytes w.entries) (bytes e) w.written grown);
        greatest = All-push (λ (x : Entry). status_of x.verdict ≤ next) w.entries e
            (λ k d b. omega (arith, w.greatest k d b, low)) high;
        reached = reach one w.reached;
      }
    where
      keep : HasStatus w.entries status → next ≡ status → HasStatus (w.entries ++ e ∷ []) next
      keep h n = record {
        before = h.before;
        entry = h.entry;
        after = h.after ++ e ∷ [];
        cut = ap (λ (es : List Entry). es ++ e ∷ []) h.cut
            ∙ append_assoc h.before (h.entry ∷ h.after) (e ∷ []);
        is = n ∙ h.is;
      }

      reach : (next ≡ status) ⊎ (next ≡ status_of e.verdict)
          → (status ≡ 0) ⊎ HasStatus w.entries status
          → (next ≡ 0) ⊎ HasStatus (w.entries ++ e ∷ []) next
      reach (inl n) (inl z) = inl (n ∙ z)
      reach (inl n) (inr h) = inr (keep h n)
      reach (inr n) h = inr (record {
        before = w.entries;
        entry = e;
        after = [];
        cut = refl;
        is = n;
      })

  pub one-more : (i : ℕ) (d : Bor (List ℕ)) (e : Entry) (now after : Option (List ℕ))
      (status next : ℕ) → i < length files → AreWritten told r q g (take i files) start now status
      → IsEntry told r q g (get_or files i d).now e → Appends now after (string_bytes e.text)
      → status ≤ next → status_of e.verdict ≤ next
      → (next ≡ status) ⊎ (next ≡ status_of e.verdict)
      → AreWritten told r q g (take (i + 1) files) start after next
  one-more i d e now after status next l w entry grown low high one =
      one-more-of i (get_or files i d) e now after status next l
      (in-range files i d (get_or files i d) l) w entry grown low high one

  -- nothing of the next entry is written
  pub cut-before : (i : ℕ) (now : Option (List ℕ)) (status : ℕ)
      → AreWritten told r q g (take i files) start now status
      → AreBegun told r q g files start now
  cut-before i now status w = record {
    done = take i files;
    others = drop i files;
    are = sym (take-append-drop i files);
    middle = now;
    status = status;
    written = w;
    begun = inl (Appends-nil now);
  }

  -- a beginning of the next entry is
  cut-within-of : (i : ℕ) (f : Bor (List ℕ)) (e : Entry) (now after : Option (List ℕ))
      (status : ℕ) → i < length files → f ≡ get_or files i f
      → AreWritten told r q g (take i files) start now status → IsEntry told r q g f.now e
      → AppendsFront now after (string_bytes e.text) → AreBegun told r q g files start after
  cut-within-of i f e now after status l is w entry begun = record {
    done = take i files;
    others = drop i files;
    are = sym (take-append-drop i files);
    middle = now;
    status = status;
    written = w;
    begun = inr (
      f,
      drop (suc i) files,
      drop-cons files i f l ∙ ap (λ (x : Bor (List ℕ)). x ∷ drop (suc i) files) (sym is),
      e,
      entry,
      begun,
    );
  }

  pub cut-within : (i : ℕ) (d : Bor (List ℕ)) (e : Entry) (now after : Option (List ℕ))
      (status : ℕ) → i < length files → AreWritten told r q g (take i files) start now status
      → IsEntry told r q g (get_or files i d).now e
      → AppendsFront now after (string_bytes e.text) → AreBegun told r q g files start after
  cut-within i d e now after status l w entry begun =
      cut-within-of i (get_or files i d) e now after status l
      (in-range files i d (get_or files i d) l) w entry begun

  -- the entries of all are written, and the run is cut after them
  pub cut-after : (after : Option (List ℕ)) (status : ℕ)
      → AreWritten told r q g files start after status → AreBegun told r q g files start after
  cut-after after status w = record {
    done = files;
    others = [];
    are = sym (append-nil files);
    middle = after;
    status = status;
    written = w;
    begun = inl (Appends-nil after);
  }

  -- what is noted then may cut a run
  pub noted-over : (after : Option (List ℕ)) (status result : ℕ)
      → (result ≡ status) ⊎ IsCut result → IsRunOver told r q g files start after status
      → IsRunOver told r q g files start after result
  noted-over after status result (inl e) h =
      subst (λ (n : ℕ). IsRunOver told r q g files start after n) (sym e) h
  noted-over after status result (inr c) (inl h) = inl (c, h.1)
  noted-over after status result (inr c) (inr w) = inl (c, cut-after after status w)
