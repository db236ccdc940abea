-- Reports that are written.
use Rattle.std.proofs.Common.{◌≡◌, ◌∙◌, ◌++◌, ◌⊎◌, ℕ, List, [], ◌∷◌, Option, Result, Ok, Err}
use Rattle.std.proofs.Common.{arith, codes, inl, inr, refl, sym, subst}
use Rattle.std.specs.Io.KnownBytes.{Appends}
use Rattle.std.specs.Prelude.{IfOk, String, string_bytes}
use Rattle.std.specs.declared.alloc.AllocError.{AllocError}
use Rattle.std.specs.declared.alloc.Global.{Global}
use Rattle.rpki_cli.specs.Answer.{Run}
use Rattle.rpki_der.specs.Write.Sink.{AppendsFront}
use Rattle.rpki_program.specs.Verify.Entry.{SaysRight}
use Rattle.rpki_program.specs.Verify.Report.{IsCut, IsPut, IsSaid, IsSilent, IsWritten}
use Rattle.rpki_program.specs.Verify.Report.{SaysNot, SaysNoYes}
use Rattle.rpki_program.specs.declared.verify.check.judged.Judged.TheVariants.{No}
use Rattle.rpki_program.specs.declared.verify.report.Report.{Report}

-- what is so of a report is so of what is written
pub written : (Says : List ℕ → ℕ → Type 0) (report : Result Report AllocError) (run : Run)
    → IfOk report (λ r. Says (string_bytes r.out) r.status) → IsSaid report run
    → IsWritten Says run
written Says (Ok r) run h s = inr (string_bytes r.out, r.status, h, s)
written Says (Err e) run h s = inl s

-- a beginning of nothing is nothing
front-nil : (before after : Option (List ℕ)) → AppendsFront before after []
    → Appends before after []
front-nil before after f = subst (λ (l : List ℕ). Appends before after l)
    (none f.front f.rest (sym f.whole)) f.appended
  where
    none : (front rest : List ℕ) → front ++ rest ≡ [] → front ≡ []
    none [] rest e = refl
    none (x ∷ front) rest e = absurd (let same : x ∷ (front ++ rest) ≡ [] = e in cc)

-- nothing is put where there is nothing
pub put-nil : (text : List ℕ) (wanted : ℕ) (run : Run) → text ≡ []
    → IsPut text wanted run.out_before.0 run.out_after.0 run.status
    → ((run.status ≡ wanted) ⊎ (run.status ≡ 2)) × IsSilent run
put-nil text wanted run e (inl h) =
    (h.1, subst (λ (l : List ℕ). Appends run.out_before.0 run.out_after.0 l) e h.0)
put-nil text wanted run e (inr h) = (
  inr h.1,
  front-nil run.out_before.0 run.out_after.0
      (subst (λ (l : List ℕ). AppendsFront run.out_before.0 run.out_after.0 l) e h.0),
)

-- a complaint leaves standard output as it was
pub complained : (status : ℕ) (report : Result Report AllocError) (run : Run)
    → IfOk report (λ r. (r.status ≡ status) × (string_bytes r.out ≡ [])) → IsSaid report run
    → ((run.status ≡ status) ⊎ IsCut run.status) × IsSilent run
complained status (Ok r) run h s = of (put-nil (string_bytes r.out) r.status run h.1 s)
  where
    of : ((run.status ≡ r.status) ⊎ (run.status ≡ 2)) × IsSilent run
        → ((run.status ≡ status) ⊎ IsCut run.status) × IsSilent run
    of (inl e, q) = (inl (e ∙ h.0), q)
    of (inr e, q) = (inr (inl e), q)
complained status (Err e) run h s = (inr s.0, s.1)

-- a complaint with the status 2 cuts a run that writes nothing
pub cut-said : (report : Result Report AllocError) (run : Run)
    → IfOk report (λ r. (r.status ≡ 2) × (string_bytes r.out ≡ [])) → IsSaid report run
    → IsCut run.status × IsSilent run
cut-said report run h s = of (complained 2 report run h s)
  where
    of : ((run.status ≡ 2) ⊎ IsCut run.status) × IsSilent run → IsCut run.status × IsSilent run
    of (inl e, q) = (inl e, q)
    of (inr c, q) = (c, q)

-- ---- texts that are no yes

-- a text with another first letter does not begin so
other-first : (c d : ℕ) (rest word : List ℕ) → (c ≡ d → ⊥) → SaysNot (d ∷ word) (c ∷ rest)
other-first c d rest word h more e = h (first e)
  where
    head : List ℕ → ℕ
    head [] = 0
    head (x ∷ xs) = x

    first : c ∷ rest ≡ d ∷ (word ++ more) → c ≡ d
    first s = subst (λ (l : List ℕ). c ≡ head l) s refl

-- a cause that begins with another letter than `yes`, `skipped` and `cannot be read` is right
cause-first : (cause : String Global) (c : ℕ) (rest : List ℕ) → (c ≡ 121 → ⊥) → (c ≡ 115 → ⊥)
    → (c ≡ 99 → ⊥) → string_bytes cause ≡ c ∷ rest → SaysRight (No cause)
cause-first cause c rest y s r e = (not 121 (codes "es") y, not 115 (codes "kipped") s, not 99 (codes "annot be read") r)
  where
    not : (d : ℕ) (word : List ℕ) → (c ≡ d → ⊥)
        → SaysNot (d ∷ word) (string_bytes cause ++ codes "\n")
    not d word h = subst (λ (l : List ℕ). SaysNot (d ∷ word) (l ++ codes "\n")) (sym e)
        (other-first c d (rest ++ codes "\n") word h)

pub begins-r : (cause : String Global) (rest : List ℕ) → string_bytes cause ≡ 114 ∷ rest
    → SaysRight (No cause)
begins-r cause rest e = cause-first cause 114 rest (λ s. omega (arith, s)) (λ s. omega (arith, s))
    (λ s. omega (arith, s)) e

pub begins-m : (cause : String Global) (rest : List ℕ) → string_bytes cause ≡ 109 ∷ rest
    → SaysRight (No cause)
begins-m cause rest e = cause-first cause 109 rest (λ s. omega (arith, s)) (λ s. omega (arith, s))
    (λ s. omega (arith, s)) e

pub begins-i : (cause : String Global) (rest : List ℕ) → string_bytes cause ≡ 105 ∷ rest
    → SaysRight (No cause)
begins-i cause rest e = cause-first cause 105 rest (λ s. omega (arith, s)) (λ s. omega (arith, s))
    (λ s. omega (arith, s)) e

pub ruleset by_first_letter = (begins-r, begins-m, begins-i)

-- a no of the other kind: it begins with `no`
pub begins-n : (text rest : List ℕ) → text ≡ 110 ∷ rest → SaysNoYes text
begins-n text rest e = subst (λ (l : List ℕ). SaysNoYes l) (sym e)
    (other-first 110 121 rest (codes "es") (λ s. omega (arith, s)))
