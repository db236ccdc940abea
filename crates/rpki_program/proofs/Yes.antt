-- What a status means.
use Rattle.std.proofs.Common.{◌≡◌, ◌∙◌, ◌⊎◌, ◌≤◌, ◌<◌, ℕ, List, [], ◌∷◌, ◌++◌, All, Option, arith}
use Rattle.std.proofs.Common.{Err, false, inl, inr, refl, subst, suc, sym, true, true≢false}
use Rattle.std.proofs.lemmas.List.Elements.{All-cons, All-head, All-nil, All-tail}
use Rattle.std.specs.Borrow.{Bor}
use Rattle.std.specs.List.{AllZip}
use Rattle.std.specs.Prelude.{Any}
use Rattle.rpki_basics.specs.Moment.{Moment}
use Rattle.rpki_cli.specs.Store.{Told}
use Rattle.rpki_sigobj.specs.Object.{mode_of}
use Rattle.rpki_sigobj.specs.Signed.Kind.{ObjectKind}
use Rattle.rpki_validation.specs.Grounds.{AreGroundsOf}
use Rattle.rpki_validation.specs.Object.{IsDecided, IsFoundOn, IsNotGoodFor}
use Rattle.rpki_validation.specs.Refusal.{is_memory}
use Rattle.rpki_validation.specs.declared.grounds.Grounds.{Grounds}
use Rattle.rpki_validation.specs.declared.question.Question.{Question}
use Rattle.rpki_validation.specs.declared.refusal.Refusal.{Refusal}
use Rattle.rpki_program.specs.Verify.Check.{HasStatus, IsBadFile, IsChecked, IsGoodFile, IsNoOfCheck}
use Rattle.rpki_program.specs.Verify.Check.{IsOnGrounds, IsRunOver, IsWithoutGrounds, IsYesOfCheck}
use Rattle.rpki_program.specs.Verify.Entry.{IsEntry, IsJudgedFile, IsVerdict, status_of}
use Rattle.rpki_program.specs.Verify.Judged.{is_yes}
use Rattle.rpki_program.specs.Verify.Report.{IsCut, IsPut, IsStopped}
use Rattle.rpki_program.specs.declared.verify.check.entry.Entry.{Entry}
use Rattle.rpki_program.specs.declared.verify.check.entry.Verdict.{Verdict}
use Rattle.rpki_program.specs.declared.verify.check.entry.Verdict.TheVariants as verdicts
use Rattle.rpki_program.specs.declared.verify.check.judged.Judged.{Judged}
use Rattle.rpki_program.specs.declared.verify.check.judged.Judged.TheVariants.{No, Yes}
use Rattle.rpki_program.specs.declared.verify.request.CheckRequest.{CheckRequest}

-- a status that is more than it may be
too-much : (n m : ℕ) → n ≤ m → m < n → ⊥
too-much n m l h = omega (arith, l, h)

module _ (told : Told) (r : CheckRequest) (q : Question) (g : Grounds) where
  yes-file : (name : List ℕ) (j : Judged) → is_yes j ≡ true → IsJudgedFile told r q g name j
      → IsGoodFile told r q g name
  yes-file name (Yes lines) e h = (lines, h)
  yes-file name (No cause) e h = absurd (true≢false (sym e))

  no-file : (name : List ℕ) (j : Judged) → is_yes j ≡ false → IsJudgedFile told r q g name j
      → IsBadFile told r q g name
  no-file name (Yes lines) e h = absurd (true≢false e)
  no-file name (No cause) e h = inl (cause, h)

  good-by : (name : List ℕ) (j : Judged) (v : Verdict) → IsVerdict told r q g name j v
      → status_of v ≤ 0 → IsGoodFile told r q g name
  good-by name j verdicts.Yes h l = yes-file name j h.0 h.1
  good-by name j verdicts.No h l = absurd (too-much 1 0 l (omega arith))
  good-by name j verdicts.Skipped h l = absurd (too-much 1 0 l (omega arith))
  good-by name j verdicts.Unreadable h l = absurd (too-much 4 0 l (omega arith))

  good : (name : List ℕ) (e : Entry) → IsEntry told r q g name e → status_of e.verdict ≤ 0
      → IsGoodFile told r q g name
  good name e h l = good-by name h.judged e.verdict h.verdict l

  known-by : (name : List ℕ) (j : Judged) (v : Verdict) → IsVerdict told r q g name j v
      → status_of v ≤ 1 → IsGoodFile told r q g name ⊎ IsBadFile told r q g name
  known-by name j verdicts.Yes h l = inl (yes-file name j h.0 h.1)
  known-by name j verdicts.No h l = inr (no-file name j h.0 h.2)
  known-by name j verdicts.Skipped h l = inr (inr h.1)
  known-by name j verdicts.Unreadable h l = absurd (too-much 4 1 l (omega arith))

  known : (name : List ℕ) (e : Entry) → IsEntry told r q g name e → status_of e.verdict ≤ 1
      → IsGoodFile told r q g name ⊎ IsBadFile told r q g name
  known name e h l = known-by name h.judged e.verdict h.verdict l

  bad-by : (name : List ℕ) (j : Judged) (v : Verdict) → IsVerdict told r q g name j v
      → 1 ≡ status_of v → IsBadFile told r q g name
  bad-by name j verdicts.Yes h l = absurd (omega (arith, l))
  bad-by name j verdicts.No h l = no-file name j h.0 h.2
  bad-by name j verdicts.Skipped h l = inr h.1
  bad-by name j verdicts.Unreadable h l = absurd (omega (arith, l))

  -- what is so of each entry with a status that is low enough is so of each file
  each-low : (S : List ℕ → Type 0) (m : ℕ)
      → ((name : List ℕ) (e : Entry) → IsEntry told r q g name e → status_of e.verdict ≤ m → S name)
      → (files : List (Bor (List ℕ))) (entries : List Entry)
      → AllZip (λ f e. IsEntry told r q g f.now e) files entries
      → All (λ e. status_of e.verdict ≤ m) entries → All (λ f. S f.now) files
  each-low S m so [] [] z h = All-nil (λ (f : Bor (List ℕ)). S f.now)
  each-low S m so [] (e ∷ entries) z h = absurd z
  each-low S m so (f ∷ files) [] z h = absurd z
  each-low S m so (f ∷ files) (e ∷ entries) z h =
      let Low : Entry → Type 0 = λ e. status_of e.verdict ≤ m in
      All-cons (λ (f : Bor (List ℕ)). S f.now) f files
      (so f.now e z.0 (All-head Low e entries h))
      (each-low S m so files entries z.1 (All-tail Low e entries h))

  -- an entry with the status 1 is that of a bad file
  one-bad : (files : List (Bor (List ℕ))) (before : List Entry) (entry : Entry) (after : List Entry)
      → AllZip (λ f e. IsEntry told r q g f.now e) files (before ++ entry ∷ after)
      → 1 ≡ status_of entry.verdict → Any (λ f. IsBadFile told r q g f.now) files
  one-bad [] [] entry after z e = absurd z
  one-bad [] (x ∷ before) entry after z e = absurd z
  one-bad (f ∷ files) [] entry after z e =
      (0, f, omega arith, refl, bad-by f.now z.0.judged entry.verdict z.0.verdict e)
  one-bad (f ∷ files) (x ∷ before) entry after z e =
      let so = one-bad files before entry after z.1 e in
      (suc so.0, so.1, omega (arith, so.2), so.3, so.4)

-- a cut run has none of these statuses
cut-more : (n : ℕ) → IsCut n → 1 < n
cut-more n (inl e) = omega (arith, e)
cut-more n (inr e) = omega (arith, e)

stopped-more : (n : ℕ) → IsStopped n → 1 < n
stopped-more n (inl e) = omega (arith, e)
stopped-more n (inr (inl e)) = omega (arith, e)
stopped-more n (inr (inr e)) = omega (arith, e)

-- what is put with the status 1 has it, or 2
put-status : (text : List ℕ) (wanted : ℕ) (before after : Option (List ℕ)) (status : ℕ)
    → IsPut text wanted before after status → (status ≡ wanted) ⊎ (status ≡ 2)
put-status text wanted before after status (inl h) = h.1
put-status text wanted before after status (inr h) = inr h.1

-- a check with the status 0
pub yes-of-check : (told : Told) (r : CheckRequest) (moment : Moment)
    (before after : Option (List ℕ)) (status : ℕ) → IsChecked told r moment before after status
    → status ≡ 0 → IsYesOfCheck told r moment
yes-of-check told r moment before after status (inl s) z =
    absurd (omega (arith, stopped-more status s.0, z))
yes-of-check told r moment before after status (inr h) z = of h.2
  where
    written : (g : Grounds) → AreGroundsOf h.0 g
        → IsRunOver told r h.0 g r.files.items before after status
        → IsYesOfCheck told r moment
    written g are (inl c) = absurd (omega (arith, cut-more status c.0, z))
    written g are (inr w) =
        let low : All (λ (e : Entry). status_of e.verdict ≤ 0) w.entries =
        subst (λ (n : ℕ). All (λ (e : Entry). status_of e.verdict ≤ n) w.entries) z w.greatest in
        record {
          question = h.0;
          is_question = h.1;
          grounds = g;
          are = are;
          each = each-low told r h.0 g (λ name. IsGoodFile told r h.0 g name) 0
              (good told r h.0 g) r.files.items w.entries w.each low;
        }

    of : IsWithoutGrounds r h.0 before after status ⊎ IsOnGrounds told r h.0 before after status
        → IsYesOfCheck told r moment
    of (inl f) = elim (put-status f.3 1 before after status f.5) [
      | inl e ↦ absurd (omega (arith, e, z))
      | inr e ↦ absurd (omega (arith, e, z))
    ]
    of (inr w) = written w.0 w.1 w.2

-- a check with the status 1
pub no-of-check : (told : Told) (r : CheckRequest) (moment : Moment)
    (before after : Option (List ℕ)) (status : ℕ) → IsChecked told r moment before after status
    → status ≡ 1 → IsNoOfCheck told r moment
no-of-check told r moment before after status (inl s) z =
    absurd (omega (arith, stopped-more status s.0, z))
no-of-check told r moment before after status (inr h) z = of h.2
  where
    reached : (g : Grounds) (entries : List Entry)
        → AllZip (λ f e. IsEntry told r h.0 g f.now e) r.files.items entries
        → (status ≡ 0) ⊎ HasStatus entries status
        → Any (λ f. IsBadFile told r h.0 g f.now) r.files.items
    reached g entries each (inl e) = absurd (omega (arith, e, z))
    reached g entries each (inr s) = one-bad told r h.0 g r.files.items s.before s.entry s.after
        (subst (λ (es : List Entry). AllZip (λ f e. IsEntry told r h.0 g f.now e) r.files.items es)
        s.cut each) (sym z ∙ s.is)

    written : (g : Grounds) → AreGroundsOf h.0 g
        → IsRunOver told r h.0 g r.files.items before after status
        → IsNoOfCheck told r moment
    written g are (inl c) = absurd (omega (arith, cut-more status c.0, z))
    written g are (inr w) =
        let low : All (λ (e : Entry). status_of e.verdict ≤ 1) w.entries =
        subst (λ (n : ℕ). All (λ (e : Entry). status_of e.verdict ≤ n) w.entries) z w.greatest in
        record {
          question = h.0;
          is_question = h.1;
          none = inr (record {
            grounds = g;
            are = are;
            bad = reached g w.entries w.each w.reached;
            each = each-low told r h.0 g
                (λ name. IsGoodFile told r h.0 g name ⊎ IsBadFile told r h.0 g name) 1
                (known told r h.0 g) r.files.items w.entries w.each low;
          });
        }

    of : IsWithoutGrounds r h.0 before after status ⊎ IsOnGrounds told r h.0 before after status
        → IsNoOfCheck told r moment
    of (inl f) = record {
      question = h.0;
      is_question = h.1;
      none = inl (f.0, f.1, f.2);
    }
    of (inr w) = written w.0 w.1 w.2

-- what is said to be bad of a signed object is so
pub says-bad : {X : Type 0} (kind : ObjectKind X) (form : List ℕ → X → Type 0)
    → IsDecided kind form → (q : Question) (g : Grounds) (octets : List ℕ) (refusal : Refusal)
    → AreGroundsOf q g → IsFoundOn kind form (mode_of q.manner.strict) g octets (Err refusal)
    → is_memory refusal ≡ false → IsNotGoodFor kind form q octets
says-bad kind form decided q g octets refusal are found memory =
    decided.no q octets refusal (inr (record { grounds = g; are = are; found = found })) memory
