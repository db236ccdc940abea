-- What a check of files comes to, from its parts.
use Rattle.std.proofs.Common.{◌≡◌, ◌∙◌, ◌⊎◌, ◌++◌, ℕ, List, [], Result, Ok, Err, ap, append_assoc}
use Rattle.std.proofs.Common.{codes, inl, inr, subst, sym}
use Rattle.std.specs.Borrow.{Bor}
use Rattle.std.specs.Prelude.{Bool, false, IfOk, String, string_bytes}
use Rattle.std.specs.declared.alloc.AllocError.{AllocError}
use Rattle.std.specs.declared.alloc.Global.{Global}
use Rattle.rpki_basics.specs.Moment.{Moment}
use Rattle.rpki_cli.specs.Answer.{Run}
use Rattle.rpki_cli.specs.Store.{Told}
use Rattle.rpki_validation.specs.Grounds.{AreGroundsOf, HasNoGrounds}
use Rattle.rpki_validation.specs.declared.grounds.Grounds.{Grounds}
use Rattle.rpki_validation.specs.declared.question.Question.{Question}
use Rattle.rpki_validation.specs.declared.refusal.Refusal.{Refusal}
use Rattle.rpki_program.specs.Verify.Check.{AreNoLines, IsChecked, IsRunOver, IsUngrounded}
use Rattle.rpki_program.specs.Verify.Inputs.{IsQuestionOf}
use Rattle.rpki_program.specs.Verify.Report.{EndsAtFailure, IsCut, IsPut, IsSaid, IsSilent, IsStopped}
use Rattle.rpki_program.specs.declared.verify.report.Report.{Report}
use Rattle.rpki_program.specs.declared.verify.request.CheckRequest.{CheckRequest}
use Rattle.rpki_program.proofs.Running.{noted-over}
use Rattle.rpki_program.proofs.Saying.{complained, put-nil}

stops : (n : ℕ) → (n ≡ 4) ⊎ IsCut n → IsStopped n
stops n (inl e) = inr (inr e)
stops n (inr (inl e)) = inl e
stops n (inr (inr e)) = inr (inl e)

cut-stops : (n : ℕ) → IsCut n → IsStopped n
cut-stops n c = stops n (inr c)

-- that the issuer is refused, in a line
pub refused-lines : (made : Result (String Global) AllocError) (json : Bool)
    (files : List (Bor (List ℕ))) (cause : List ℕ) → json ≡ false
    → (why : List ℕ) × (cause ≡ codes "issuer refused: " ++ why)
    → IfOk made (λ s. string_bytes s ≡ cause ++ codes "\n")
    → IfOk made (λ s. AreNoLines json files (string_bytes s))
refused-lines (Ok s) json files cause is h e =
    subst (λ (b : Bool). AreNoLines b files (string_bytes s)) (sym is) (
      h.0 ++ codes "\n",
      e ∙ (ap (λ (l : List ℕ). l ++ codes "\n") h.1
          ∙ append_assoc (codes "issuer refused: ") h.0 (codes "\n")),
    )
refused-lines (Err e) json files cause is h x = tt

-- the run of a check that says this
module _ (told : Told) (r : CheckRequest) (moment : Moment) (run : Run) where
  -- a file of the question can't be read
  pub unread-said : (report : Result Report AllocError)
      → IfOk report (λ x. (x.status ≡ 4) × (string_bytes x.out ≡ [])) → IsSaid report run
      → IsChecked told r moment run.out_before.0 run.out_after.0 run.status
  unread-said report h s =
      let so = complained 4 report run h s in
      inl (stops run.status so.0, so.1)

  -- the question has no grounds
  pub ungrounded-said : (q : Question) (refusal : Refusal) (report : Result Report AllocError)
      → IsQuestionOf told r.under moment r.manner q → HasNoGrounds q refusal
      → IfOk report (λ x. IsUngrounded r refusal (string_bytes x.out) x.status)
      → IsSaid report run → IsChecked told r moment run.out_before.0 run.out_after.0 run.status
  ungrounded-said q refusal (Err e) asked none h s = inl (cut-stops run.status s.0, s.1)
  ungrounded-said q refusal (Ok x) asked none (inl two) s =
      of (put-nil (string_bytes x.out) x.status run two.1 s)
    where
      of : ((run.status ≡ x.status) ⊎ (run.status ≡ 2)) × IsSilent run
          → IsChecked told r moment run.out_before.0 run.out_after.0 run.status
      of (inl e, q) = inl (inl (e ∙ two.0), q)
      of (inr e, q) = inl (inl e, q)
  ungrounded-said q refusal (Ok x) asked none (inr one) s =
      inr (
        q,
        asked,
        inl (
          refusal,
          none,
          one.1,
          string_bytes x.out,
          one.2,
          subst (λ (n : ℕ). IsPut (string_bytes x.out) n run.out_before.0 run.out_after.0 run.status)
              one.0 s,
        ),
      )

  -- it has grounds, and the entries of the files are written
  pub entries-noted : (q : Question) (g : Grounds) (status : ℕ)
      → IsQuestionOf told r.under moment r.manner q → AreGroundsOf q g
      → IsRunOver told r q g r.files.items run.out_before.0 run.out_after.0 status
      → (run.status ≡ status) ⊎ IsCut run.status
      → IsChecked told r moment run.out_before.0 run.out_after.0 run.status
  entries-noted q g status asked are over noted =
      inr (
        q,
        asked,
        inr (
          g,
          are,
          noted-over told r q g r.files.items run.out_before.0
              run.out_after.0 status run.status noted over,
        ),
      )

-- a failed write ends it
pub ends-noted : (run : Run) (status : ℕ)
    → (run.out_after.1 ≡ run.out_before.1) ⊎ (status ≡ 2)
    → (status ≡ 2 → (run.err_after ≡ run.err_before) × (run.status ≡ 2))
    → (run.err_after.1 ≡ run.err_before.1) ⊎ (run.status ≡ 2) → EndsAtFailure run
ends-noted run status (inl e) silent err = record { out = inl e; err = err }
ends-noted run status (inr e) silent err =
    record { out = inr ((silent e).1, (silent e).0); err = err }
