-- What a check of an attestation reports, from its parts.
use Rattle.std.proofs.Common.{◌≡◌, ◌<◌, ℕ, Bool, List, [], Result, Ok, Err, arith, false, inl}
use Rattle.std.proofs.Common.{◌+◌, ◌++◌, ◌∷◌, get_or, inr, length, refl, suc, subst, sym, take, true, zero}
use Rattle.std.specs.Borrow.{Bor}
use Rattle.std.specs.Prelude.{Any, IfErr, IfOk, map, string_bytes}
use Rattle.std.specs.declared.alloc.AllocError.{AllocError}
use Rattle.rpki_basics.specs.Moment.{Moment}
use Rattle.rpki_cli.specs.Store.{IsRead, Told}
use Rattle.rpki_cli.specs.Words.{is_locator}
use Rattle.rpki_validation.specs.declared.refusal.Refusal.{Refusal}
use Rattle.rpki_program.specs.Verify.Report.{IsNoIssuer, IsRefused, IsStopped}
use Rattle.rpki_program.specs.Verify.Rta.{AreAnchors, IsNoAnchor, IsNone}
use Rattle.rpki_program.specs.Verify.Rta.{IsReportUnder, IsRtaReport}
use Rattle.rpki_program.specs.Verify.Rta.{IsAnchorFrom, IsAnchorOf, IsIssued, IsLocated, IsUnder}
use Rattle.rpki_program.specs.Verify.Rta.{IsUnissued, supply_of}
use Rattle.rpki_program.specs.declared.verify.request.IssuerFiles.{IssuerFiles}
use Rattle.rpki_program.specs.declared.verify.report.Report.{Report}
use Rattle.rpki_program.specs.declared.verify.request.RtaRequest.{RtaRequest}
use Rattle.rpki_program.specs.declared.verify.rta.Anchor.{Anchor}
use Rattle.rpki_program.proofs.Running.{zip-next}

module _ (told : Told) (r : RtaRequest) (moment : Moment) (text : List ℕ) (status : ℕ) where
  -- the run is stopped
  stopped-rta : IsStopped status → text ≡ [] → IsRtaReport told r moment text status
  stopped-rta (inl s) e = (
    record {
      yes = λ z. absurd (omega (arith, s, z));
      no = λ z. absurd (omega (arith, s, z));
      known = omega (arith, s);
    },
    inr (inl e),
  )
  stopped-rta (inr (inl s)) e = (
    record {
      yes = λ z. absurd (omega (arith, s, z));
      no = λ z. absurd (omega (arith, s, z));
      known = omega (arith, s);
    },
    inr (inl e),
  )
  stopped-rta (inr (inr s)) e = (
    record {
      yes = λ z. absurd (omega (arith, s, z));
      no = λ z. absurd (omega (arith, s, z));
      known = omega (arith, s);
    },
    inr (inl e),
  )

  -- a word names no anchor
  none-rta : IsNone (Any (λ w. IsNoAnchor told moment w.now) r.anchors.items) text status
      → IsRtaReport told r moment text status
  none-rta (inl h) = stopped-rta h.0 h.1
  none-rta (inr h) = (
    record {
      yes = λ z. absurd (omega (arith, h.0, z));
      no = λ z. inl h.2;
      known = omega (arith, h.0);
    },
    inr (inr h.1),
  )

  -- the attestation is granted or refused
  under-rta : (anchors : List Anchor) → AreAnchors told moment r.anchors.items anchors
      → (octets : List ℕ) → IsRead (told r.object.now) (Ok octets)
      → IsReportUnder moment (map supply_of anchors) octets text status
      → IsRtaReport told r moment text status
  under-rta anchors are octets read (inl h) = (
    record {
      yes = λ z. record {
        anchors = anchors;
        are = are;
        octets = octets;
        is_read = read;
        such = h.1;
      };
      no = λ z. absurd (omega (arith, h.0, z));
      known = omega (arith, h.0);
    },
    inl h.0,
  )
  under-rta anchors are octets read (inr h) = (
    record {
      yes = λ z. absurd (omega (arith, h.0, z));
      no = λ z. inr (record {
        anchors = anchors;
        are = are;
        octets = octets;
        is_read = read;
        such = h.2;
      });
      known = omega (arith, h.0);
    },
    inr (inr h.1),
  )

module _ (told : Told) (r : RtaRequest) (moment : Moment) where
  pub unread-attested : (made : Result Report AllocError)
      → IfOk made (λ x. (x.status ≡ 4) × (string_bytes x.out ≡ []))
      → IfOk made (λ x. IsRtaReport told r moment (string_bytes x.out) x.status)
  unread-attested (Ok x) h =
      stopped-rta told r moment (string_bytes x.out) x.status (inr (inr h.0)) h.1
  unread-attested (Err e) h = tt

  pub none-attested : (x : Report)
      → IsNone (Any (λ w. IsNoAnchor told moment w.now) r.anchors.items) (string_bytes x.out)
      x.status → IsRtaReport told r moment (string_bytes x.out) x.status
  none-attested x h = none-rta told r moment (string_bytes x.out) x.status h

  pub under-attested : (anchors : List Anchor) → AreAnchors told moment r.anchors.items anchors
      → (octets : List ℕ) → IsRead (told r.object.now) (Ok octets)
      → (made : Result Report AllocError)
      → IfOk made (λ x. IsReportUnder moment (map supply_of anchors) octets (string_bytes x.out)
      x.status) → IfOk made (λ x. IsRtaReport told r moment (string_bytes x.out) x.status)
  under-attested anchors are octets read (Ok x) h =
      under-rta told r moment (string_bytes x.out) x.status anchors are octets read h
  under-attested anchors are octets read (Err e) h = tt

-- certificates make no issuer
pub unissued-none : (None : Type 0) (refusal : Refusal) (text : List ℕ) (status : ℕ)
    → (IsNoIssuer refusal → None) → IsRefused refusal text status
    → IsNone None text status
unissued-none None refusal text status why (inl h) = inl (inl h.0, h.1)
unissued-none None refusal text status why (inr h) = inr (h.0, h.1, why h.2)

-- The word of a locator or of certificates names what they are.
module _ (told : Told) (now : Moment) (word : List ℕ) (under : IssuerFiles) (is : IsUnder word under)
  where
    pub located-anchor : (made : Result (Result Anchor Report) AllocError)
        → is_locator word ≡ true → IfOk made (λ m. IfOk m (IsLocated told under.ta.now))
        → IfOk made (λ m. IfOk m (IsAnchorOf told now word))
    located-anchor (Ok (Ok a)) t h =
        (under, is, subst (λ (b : Bool). IsAnchorFrom told now b under a) (sym t) h)
    located-anchor (Ok (Err report)) t h = tt
    located-anchor (Err e) t h = tt

    pub issued-anchor : (made : Result (Result Anchor Report) AllocError)
        → is_locator word ≡ false → IfOk made (λ m. IfOk m (IsIssued told now under))
        → IfOk made (λ m. IfOk m (IsAnchorOf told now word))
    issued-anchor (Ok (Ok a)) f h =
        (under, is, subst (λ (b : Bool). IsAnchorFrom told now b under a) (sym f) h)
    issued-anchor (Ok (Err report)) f h = tt
    issued-anchor (Err e) f h = tt

    pub issued-none : (made : Result (Result Anchor Report) AllocError)
        → is_locator word ≡ false
        → IfOk made (λ m. IfErr m (λ (report : Report). IsNone (IsUnissued told now under)
        (string_bytes report.out) report.status))
        → IfOk made (λ m. IfErr m (λ (report : Report). IsNone (IsNoAnchor told now word)
        (string_bytes report.out) report.status))
    issued-none (Ok (Ok a)) f h = tt
    issued-none (Ok (Err report)) f (inl h) = inl h
    issued-none (Ok (Err report)) f (inr h) = inr (h.0, h.1, (under, is, f, h.2))
    issued-none (Err e) f h = tt

-- What is at a place is there whatever stands in for what is not.
pub get_or-same : {A : Type 0} (xs : List A) (i : ℕ) (d : A) → i < length xs
    → get_or xs i (get_or xs i d) ≡ get_or xs i d
get_or-same [] i d l = absurd (omega (arith, l))
get_or-same (z ∷ zs) zero d l = refl
get_or-same (z ∷ zs) (suc i) d l = get_or-same zs i d (omega (arith, l))

module _ (told : Told) (now : Moment) (words : List (Bor (List ℕ))) (i : ℕ) (d : Bor (List ℕ))
    (l : i < length words) where
  -- One of the words names no anchor.
  pub none-among : (text : List ℕ) (status : ℕ)
      → IsNone (IsNoAnchor told now (get_or words i d).now) text status
      → IsNone (Any (λ w. IsNoAnchor told now w.now) words) text status
  none-among text status (inl h) = inl h
  none-among text status (inr h) =
      inr (h.0, h.1, (i, get_or words i d, l, get_or-same words i d l, h.2))

  -- one anchor more
  pub anchor-more : (anchors : List Anchor) (a : Anchor)
      → AreAnchors told now (take i words) anchors → IsAnchorOf told now (get_or words i d).now a
      → AreAnchors told now (take (i + 1) words) (anchors ++ a ∷ [])
  anchor-more anchors a are is =
      zip-next (λ (w : Bor (List ℕ)) (a : Anchor). IsAnchorOf told now w.now a) words anchors i
      (get_or words i d) a l (sym (get_or-same words i d l)) are is

module _ (before told : Told) (now : Moment) (word : List ℕ) (made : Result Anchor Report) where
  pub told-none : (report : Report) → before ≡ told → made ≡ Err report
      → IfErr made (λ (x : Report). IsNone (IsNoAnchor before now word) (string_bytes x.out) x.status)
      → IsNone (IsNoAnchor told now word) (string_bytes report.out) report.status
  told-none report s e h =
      subst (λ (t : Told). IsNone (IsNoAnchor t now word) (string_bytes report.out) report.status) s
      (subst (λ (m : Result Anchor Report). IfErr m (λ (x : Report). IsNone (IsNoAnchor before now word)
      (string_bytes x.out) x.status)) e h)

  pub told-anchor : (a : Anchor) → before ≡ told → made ≡ Ok a
      → IfOk made (IsAnchorOf before now word) → IsAnchorOf told now word a
  told-anchor a s e h = subst (λ (t : Told). IsAnchorOf t now word a) s
      (subst (λ (m : Result Anchor Report). IfOk m (IsAnchorOf before now word)) e h)
