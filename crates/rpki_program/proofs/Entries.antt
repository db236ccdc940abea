-- Entries of files.
use Rattle.std.proofs.Common.{◌≡◌, ◌++◌, ℕ, List, Result, Ok, Err, codes, refl, subst, sym}
use Rattle.std.specs.Prelude.{IfOk, String, string_bytes}
use Rattle.std.specs.declared.alloc.AllocError.{AllocError}
use Rattle.std.specs.declared.alloc.Global.{Global}
use Rattle.rpki_cli.specs.Store.{IsRead, Told, reason_text}
use Rattle.rpki_cli.specs.declared.store.Reason.{Reason}
use Rattle.rpki_cli.specs.declared.store.StoreError.TheVariants.{Unreadable}
use Rattle.rpki_validation.specs.declared.grounds.Grounds.{Grounds}
use Rattle.rpki_validation.specs.declared.question.Question.{Question}
use Rattle.rpki_program.specs.Verify.Entry.{HasEntry, IsEntry, IsJudgedFile, IsText, IsVerdict}
use Rattle.rpki_program.specs.Verify.Entry.{SaysRight, is_several, verdict_of}
use Rattle.rpki_program.specs.Verify.Kinds.{IsKindOf}
use Rattle.rpki_program.specs.declared.verify.check.entry.Entry.{Entry}
use Rattle.rpki_program.specs.declared.verify.check.entry.Verdict.{Verdict}
use Rattle.rpki_program.specs.declared.verify.check.entry.Verdict.TheVariants as verdicts
use Rattle.rpki_program.specs.declared.verify.check.judged.Judged.{Judged}
use Rattle.rpki_program.specs.declared.verify.check.judged.Judged.TheVariants.{No, Yes}
use Rattle.rpki_program.specs.declared.verify.request.CheckRequest.{CheckRequest}
use Rattle.rpki_program.specs.declared.verify.request.FileKind.{FileKind}

module _ (told : Told) (r : CheckRequest) (q : Question) (g : Grounds) (name : List ℕ) where
  -- a no has such an entry, for this cause
  denied-entry : (cause : String Global) (v : Verdict) → IsVerdict told r q g name (No cause) v
      → (made : Result Entry AllocError)
      → IfOk made (λ e. IsText r.json (is_several r) name (No cause) (string_bytes e.text))
      → IfOk made (λ e. e.verdict ≡ v) → IfOk made (λ e. IsEntry told r q g name e)
  denied-entry cause v verdict (Ok e) text is = record {
    judged = No cause;
    text = text;
    verdict = subst (λ (w : Verdict). IsVerdict told r q g name (No cause) w) (sym is) verdict;
  }
  denied-entry cause v verdict (Err e) text is = tt

  pub skipped-entry : (cause : String Global)
      → string_bytes cause ≡ codes "skipped: no kind that is checked" → ((kind : FileKind) → IsKindOf r.kind name kind → ⊥) → (made : Result Entry AllocError)
      → IfOk made (λ e. IsText r.json (is_several r) name (No cause) (string_bytes e.text))
      → IfOk made (λ e. e.verdict ≡ verdicts.Skipped)
      → IfOk made (λ e. IsEntry told r q g name e)
  skipped-entry cause says none made text is =
      denied-entry cause verdicts.Skipped ((cause, refl, says), none) made text is

  pub unreadable-entry : (cause : String Global) (reason : Reason)
      → string_bytes cause ≡ codes "cannot be read" ++ reason_text reason → IsRead (told name) (Err (Unreadable reason)) → (made : Result Entry AllocError)
      → IfOk made (λ e. IsText r.json (is_several r) name (No cause) (string_bytes e.text))
      → IfOk made (λ e. e.verdict ≡ verdicts.Unreadable)
      → IfOk made (λ e. IsEntry told r q g name e)
  unreadable-entry cause reason says read made text is =
      denied-entry cause verdicts.Unreadable (reason, (cause, refl, says), read) made text is

  verdict-of : (j : Judged) → SaysRight j → IsJudgedFile told r q g name j
      → IsVerdict told r q g name j (verdict_of j)
  verdict-of (Yes lines) says h = (refl, h)
  verdict-of (No cause) says h = (refl, says, h)

  -- the entry of a file that is read
  pub read-entry : (kind : FileKind) (octets : List ℕ) → IsKindOf r.kind name kind
      → IsRead (told name) (Ok octets) → (made : Result Entry AllocError)
      → IfOk made (λ e. HasEntry r q g name kind octets e)
      → IfOk made (λ e. IsEntry told r q g name e)
  read-entry kind octets is read (Ok e) h = record {
    judged = h.judged;
    text = h.text;
    verdict = subst (λ (w : Verdict). IsVerdict told r q g name h.judged w) (sym h.verdict)
        (verdict-of h.judged h.says (record {
          kind = kind;
          is_kind = is;
          octets = octets;
          is_read = read;
          judged = h.is;
        }));
  }
  read-entry kind octets is read (Err e) h = tt
