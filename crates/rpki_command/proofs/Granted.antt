-- What a yes and a no to an attestation mean, from what is said.
use Rattle.std.proofs.Common.{◌≡◌, ℕ, List, ◌∷◌, ◌++◌, ◌∙◌, Result, Ok, Err, Vec}
use Rattle.std.proofs.Common.{Global}
use Rattle.std.proofs.Common.{inl, inr, subst, ap, arith, map}
use Rattle.sha2.specs.Sha256.{sha256}
use Rattle.rpki_der.specs.Grammar.{HasNoFront}
use Rattle.rpki_der.specs.Read.Reads.{Refuses}
use Rattle.rpki_der.specs.declared.error.DecodeError.{DecodeError}
use Rattle.rpki_der.specs.declared.mode.Mode.TheVariants.{Der}
use Rattle.rpki_basics.specs.Moment.{Moment}
use Rattle.rpki_certs.specs.Verify.{Verdict}
use Rattle.rpki_faults.specs.declared.validation.ValidationError.{ValidationError}
use Rattle.rpki_multi.specs.Attestation.{KeptWhole, Whole, RtaForm, whole_of}
use Rattle.rpki_paths.specs.Anchor.{Supply}
use Rattle.rpki_signed.specs.Attested.{IsExactRta}
use Rattle.rpki_signed.specs.declared.check.CheckError.{CheckError}
use Rattle.rpki_signed.specs.declared.check.CheckError.TheVariants.{Decode, Validation}
use Rattle.rpki_rta.specs.Granted.{GrantsRta, IsDistinct, IsGrantedRta}
use Rattle.rpki_verdicts.specs.Listed.{is_listed}
use Rattle.rpki_cli.specs.Answer.{Run, Output, IsSaid, out_of_memory, bad_verdicts, shown}
use Rattle.rpki_cli.specs.Command.{AreTold, ChecksFiles, IsRunOf, objects_language}
use Rattle.rpki_cli.specs.Shown.{IsLinesOf}
use Rattle.rpki_cli.specs.Language.{IsAsked}
use Rattle.rpki_cli.specs.Refusal.{IsRefusal}
use Rattle.rpki_cli.specs.Store.{Told, Names}
use Rattle.rpki_cli.specs.Words.{files_of_anchors}
use Rattle.rpki_cli.specs.declared.causes.Causes.TheVariants.{Omitted}
use Rattle.rpki_cli.specs.declared.words.Options.{Options}
use Rattle.rpki_show.specs.Texts.Rta.{attestation_text}
use Rattle.rpki_show.proofs.Shown.{refusal-said}
use Rattle.rpki_command.specs.Anchors.{given_in, MakeEach, AreMade}
use Rattle.rpki_command.specs.Check.{yes_line, validation_refusal}
use Rattle.rpki_command.specs.Command.{objects_program}
use Rattle.rpki_command.specs.Rta.{supply_of, IsRtaSaid, AttestedUnder, anchor_refusal, IsSaidWith}
use Rattle.rpki_command.specs.Rta.{RtaOf}
use Rattle.rpki_command.specs.Yes.{rta_order, IsRightRta, BeginsWithNoGranted, IsRightNoRta}
use Rattle.rpki_command.specs.Yes.{HoldsByList, status_of}
use Rattle.rpki_command.specs.declared.anchors.Anchor.{Anchor}
use Rattle.rpki_command.specs.declared.anchors.AnchorError.{AnchorError}
use Rattle.rpki_command.specs.declared.anchors.AnchorError.TheVariants as anchors
use Rattle.rpki_command.proofs.Right.{other-status, whole-lines, refusal-is-none}
use Rattle.rpki_command.proofs.Right.{fault-is-none, issuer-is-none, said-yes, said-no, one, two}
use Rattle.rpki_command.proofs.Right.{three}

anchor-is-none : (fault : AnchorError) → status_of (anchor_refusal fault) ≡ 0 → ⊥
anchor-is-none anchors.NoLocator = one
anchor-is-none (anchors.NoIssuer fault) = issuer-is-none fault
anchor-is-none anchors.Memory = three

module _ {C : Type 0} (says : C → Verdict) (crypto : C) (now : Moment)
    (words : List (List ℕ)) (object : List ℕ) (files : List (List ℕ)) (s : Output) where
  abbrev verdict : Verdict
  verdict = says crypto

  -- what is said under these supplies
  abbrev Under : List Supply → Output → Type 0
  Under supplied said =
      AttestedUnder (λ (_ : C). sha256) says crypto now supplied object said

  module _ (run : Run) (h : IsSaid s run) (z : run.status ≡ 0) (zero : status_of s ≡ 0)
      (made : List Anchor) (each : MakeEach verdict now (given_in words files) made) where
    said-lines : (r : Whole) → IsLinesOf (yes_line ++ attestation_text r.content) s
        → IsSaid (shown (yes_line ++ attestation_text r.content)) run
    said-lines r (inl e) = absurd (other-status s out_of_memory 0 zero e three)
    said-lines r (inr e) = subst (λ (y : Output). IsSaid y run) e h

    yes-result : (result : Result KeptWhole CheckError)
        → IsExactRta sha256 verdict now (map supply_of made) object result
        → IsRtaSaid result s → IsRightRta verdict now words object files run
    yes-result (Ok k) b is =
        let same : whole_of k ≡ b.object = b.holds.1 in
        let lines = subst
        (λ (r : Whole). IsSaid (shown (yes_line ++ attestation_text r.content)) run) same
        (said-lines (whole_of k) is) in
        record {
          anchors = made;
          made = each;
          rta = b.object;
          rest = b.rest;
          front = b.front;
          granted = b.holds.0;
          printed = whole-lines (yes_line ++ attestation_text b.object.content) run lines z;
          silent = lines.err;
        }
    yes-result (Err (Decode fault)) b is = absurd (refusal-is-none fault s is zero)
    yes-result (Err (Validation fault)) b (inl e) =
        absurd (other-status s out_of_memory 0 zero e three)
    yes-result (Err (Validation fault)) b (inr e) =
        absurd (other-status s (validation_refusal fault) 0 zero e (fault-is-none fault))

    yes-under : Under (map supply_of made) s → IsRightRta verdict now words object files run
    yes-under (inl e) = absurd (other-status s out_of_memory 0 zero e three)
    yes-under (inr c) = yes-result c.result c.exact c.said

  pub yes-made : (run : Run) → IsSaid s run → run.status ≡ 0 → status_of s ≡ 0
      → (made : Result (Vec Anchor Global) AnchorError)
      → AreMade verdict now (given_in words files) made
      → IsSaidWith Under made s → IsRightRta verdict now words object files run
  yes-made run h z zero (Ok made) each is = yes-under run h z zero made.items each is
  yes-made run h z zero (Err fault) each (inl e) =
      absurd (other-status s out_of_memory 0 zero e three)
  yes-made run h z zero (Err fault) each (inr e) =
      absurd (other-status s (anchor_refusal fault) 0 zero e (anchor-is-none fault))

  module _ (first : status_of s ≡ 1) where
    no-memory : s ≡ out_of_memory → ⊥
    no-memory e = other-status s out_of_memory 1 first e (λ (n : 3 ≡ 1). omega (arith, n))

    no-front : (fault : DecodeError) → IsRefusal Omitted fault s
        → Refuses fault (HasNoFront (RtaForm Der) object) → HasNoFront (RtaForm Der) object
    no-front fault e none =
        elim (refusal-said Omitted fault s (HasNoFront (RtaForm Der) object) e none) [
          | inl m ↦ absurd (no-memory m)
          | inr p ↦ p.1
        ]

    not-granted : (r : Whole) (supplied : List Supply) (fault : ValidationError)
        → s ≡ validation_refusal fault → GrantsRta sha256 verdict now supplied r (Err fault)
        → IsDistinct sha256 verdict r → ¬ (IsGrantedRta sha256 verdict now r supplied)
    not-granted r supplied fault e g = g (λ m. no-memory (e ∙ ap validation_refusal m))

    no-result : (supplied : List Supply) (result : Result KeptWhole CheckError)
        → IsExactRta sha256 verdict now supplied object result
        → IsRtaSaid result s
        → BeginsWithNoGranted verdict now supplied object
    no-result supplied (Ok k) b (inl e) = absurd (no-memory e)
    no-result supplied (Ok k) b (inr e) = absurd
        (other-status s (shown (yes_line ++ attestation_text k.content)) 1 first e
        (λ (n : 0 ≡ 1). omega (arith, n)))
    no-result supplied (Err (Decode fault)) b is = inl (no-front fault is b)
    no-result supplied (Err (Validation fault)) b (inl e) = absurd (no-memory e)
    no-result supplied (Err (Validation fault)) b (inr e) = inr (record {
      object = b.object;
      rest = b.rest;
      front = b.front;
      holds = not-granted b.object supplied fault e b.holds;
    })

    no-under : (supplied : List Supply) → Under supplied s
        → BeginsWithNoGranted verdict now supplied object
    no-under supplied (inl e) = absurd (no-memory e)
    no-under supplied (inr c) = no-result supplied c.result c.exact c.said

    pub no-made : (made : Result (Vec Anchor Global) AnchorError)
        → AreMade verdict now (given_in words files) made
        → IsSaidWith Under made s → IsRightNoRta verdict now words object files
    no-made (Ok made) each is = inr (record {
      anchors = made.items;
      made = each;
      no = no-under (map supply_of made.items) is;
    })
    no-made (Err fault) each (inl e) = absurd (no-memory e)
    no-made (Err fault) (inl m) (inr e) = absurd (no-memory (e ∙ ap anchor_refusal m))
    no-made (Err fault) (inr unmade) (inr e) = inl (record {
      fault = fault;
      first = unmade;
      has_memory = λ m. no-memory (e ∙ m);
    })

-- ---- by a list of verdicts

module _ (told : Told) (words : List (List ℕ)) (old new : Names) (run : Run) (options : Options)
    (now : Moment) (file list : List ℕ) (named : List (List ℕ)) (object text : List ℕ)
    (octets : List (List ℕ))
    (is : IsRunOf objects_program told words old new run)
    (asked : IsAsked objects_language words (rta_order options now file list named))
    (tells : AreTold told (file ∷ list ∷ files_of_anchors named) (object ∷ text ∷ octets)) where
  done : ChecksFiles told (file ∷ list ∷ files_of_anchors named) (RtaOf now named) old new run
  done = is.done (rta_order options now file list named) asked

  yes-of : (s : Output) → IsSaid s run → run.status ≡ 0 → status_of s ≡ 0
      → RtaOf now named (object ∷ text ∷ octets) s
      → HoldsByList (λ verdict. IsRightRta verdict now named object octets run) text
  yes-of s h z zero (inl n) = absurd (other-status s bad_verdicts 0 zero n.1 two)
  yes-of s h z zero (inr c) = record {
    lines = c.0;
    listed = c.1;
    holds = yes-made is_listed c.0 now named object octets s run h z zero c.2.0 c.2.1
        c.2.2;
  }

  no-of : (s : Output) → status_of s ≡ 1 → RtaOf now named (object ∷ text ∷ octets) s
      → HoldsByList (λ verdict. IsRightNoRta verdict now named object octets) text
  no-of s first (inl n) =
      absurd (other-status s bad_verdicts 1 first n.1 (λ (m : 2 ≡ 1). omega (arith, m)))
  no-of s first (inr c) = record {
    lines = c.0;
    listed = c.1;
    holds = no-made is_listed c.0 now named object octets s first c.2.0 c.2.1 c.2.2;
  }

  pub right-rta : run.status ≡ 0
      → HoldsByList (λ verdict. IsRightRta verdict now named object octets run) text
  right-rta z =
      let c = said-yes told (file ∷ list ∷ files_of_anchors named) (object ∷ text ∷ octets)
      (RtaOf now named) old new run done tells z in
      yes-of c.0 c.2 z c.3 c.1

  pub right-no-rta : run.status ≡ 1
      → HoldsByList (λ verdict. IsRightNoRta verdict now named object octets) text
  right-no-rta z =
      let c = said-no told (file ∷ list ∷ files_of_anchors named) (object ∷ text ∷ octets)
      (RtaOf now named) old new run done tells z in
      no-of c.0 c.3 c.1
