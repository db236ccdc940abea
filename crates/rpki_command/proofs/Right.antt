-- What a yes and a no of the program mean, from what is said.
use Rattle.std.proofs.Common.{◌≡◌, ℕ, List, Result, Ok, Err, inl, inr, subst, sym, ap, ◌∙◌, arith}
use Rattle.std.proofs.Common.{◌++◌, rules}
use Rattle.std.specs.Prelude.{◌⊎◌}
use Rattle.sha2.specs.Sha256.{sha256}
use Rattle.rpki_der.specs.Grammar.{HasNoFront}
use Rattle.rpki_der.specs.Read.Reads.{Refuses}
use Rattle.rpki_der.specs.declared.error.DecodeError.{DecodeError}
use Rattle.rpki_der.specs.declared.error.DecodeError.TheVariants as decoding
use Rattle.rpki_der.specs.declared.mode.Mode.{Mode}
use Rattle.rpki_basics.specs.Moment.{Moment}
use Rattle.rpki_faults.specs.declared.validation.ValidationError.{ValidationError}
use Rattle.rpki_faults.specs.declared.validation.ValidationError.TheVariants as validation
use Rattle.rpki_certs.specs.Cert.{KeptCertificate}
use Rattle.rpki_certs.specs.Validate.{Validated}
use Rattle.rpki_certs.specs.Verify.{Verdict}
use Rattle.rpki_certs.specs.Issuer.{MakesIssuer}
use Rattle.rpki_certs.specs.declared.issuer.IssuerError.{IssuerError}
use Rattle.rpki_certs.specs.declared.issuer.IssuerError.TheVariants as issuing
use Rattle.rpki_signed.specs.Exact.{IsExact}
use Rattle.rpki_signed.specs.declared.check.CheckError.{CheckError}
use Rattle.rpki_signed.specs.declared.check.CheckError.TheVariants.{Decode, Validation}
use Rattle.rpki_sigobj.specs.Verify.{Digester}
use Rattle.rpki_sigobj.specs.Signed.Good.{IsGood, IsNotGood}
use Rattle.rpki_sigobj.specs.Signed.Kind as signed
use Rattle.rpki_sigobj.specs.Signed.{Whole, ObjectForm, cert_in}
use Rattle.rpki_verdicts.specs.Listed.{is_listed}
use Rattle.rpki_cli.specs.Answer.{Run, Output, Printed, Complained, IsSaid, IsWhole}
use Rattle.rpki_cli.specs.Answer.{out_of_memory, bad_verdicts, malformed, shown}
use Rattle.rpki_cli.specs.Command.{AreTold, ChecksFiles, IsRunOf, objects_language}
use Rattle.rpki_cli.specs.Shown.{IsLinesOf}
use Rattle.rpki_cli.specs.Language.{IsAsked}
use Rattle.rpki_cli.specs.Refusal.{IsRefusal}
use Rattle.rpki_cli.specs.Store.{Told, Names}
use Rattle.rpki_cli.specs.declared.causes.Causes.TheVariants.{Omitted}
use Rattle.rpki_cli.specs.declared.words.Kind.{Kind}
use Rattle.rpki_cli.specs.declared.words.Options.{Options}
use Rattle.rpki_show.specs.Kinds.{OfKind}
use Rattle.rpki_show.specs.Options.{read_mode}
use Rattle.rpki_show.proofs.Shown.{refusal-said}
use Rattle.rpki_command.specs.Check.{yes_line, passes, issuer_refusal, validation_refusal}
use Rattle.rpki_command.specs.Check.{IsCheckSaid, IsCheckedAs, CheckedUnder, IsSaidUnder, CheckOf}
use Rattle.rpki_command.specs.Command.{objects_program}
use Rattle.rpki_command.specs.Yes.{FilesOfCheck, in_order_with, check_order, PrintsYes, IsRightYes}
use Rattle.rpki_command.specs.Yes.{BeginsWithNoGood, IsRightNo, HoldsByList, status_of}

pub one : ◌≡◌ {A = ℕ} 1 0 → ⊥
one e = omega (arith, e)

pub two : ◌≡◌ {A = ℕ} 2 0 → ⊥
two e = omega (arith, e)

pub three : ◌≡◌ {A = ℕ} 3 0 → ⊥
three e = omega (arith, e)

-- a run that says this ends with its status, or with 2
pub status-said : (s : Output) (run : Run) (n : ℕ) → IsSaid s run → run.status ≡ n → (n ≡ 2 → ⊥)
    → status_of s ≡ n
status-said (Printed text status) run n h e failed = elim h.out [
  | inl w ↦ sym w.status_is ∙ e
  | inr c ↦ absurd (failed (sym e ∙ c.status_is))
]
status-said (Complained text status) run n h e failed = elim h.err [
  | inl w ↦ sym w.status_is ∙ e
  | inr c ↦ absurd (failed (sym e ∙ c.status_is))
]

-- what has this status is not said with another one
pub other-status : (s is : Output) (n : ℕ) → status_of s ≡ n → s ≡ is → (status_of is ≡ n → ⊥) → ⊥
other-status s is n e same other = other (ap status_of (sym same) ∙ e)

-- lines that are shown with status 0 are printed whole
pub whole-lines : (lines : List ℕ) (run : Run) → IsSaid (shown lines) run → run.status ≡ 0
    → IsWhole lines 0 run.out_before run.out_after run.status
whole-lines lines run h z = elim h.out [
  | inl w ↦ w
  | inr c ↦ absurd (omega (arith, c.status_is, z))
]

-- a refusal is no yes
pub refusal-is-none : (fault : DecodeError) (s : Output) → IsRefusal Omitted fault s
    → status_of s ≡ 0 → ⊥
refusal-is-none decoding.Memory s e z = other-status s out_of_memory 0 z e three
refusal-is-none decoding.Malformed s e z = other-status s malformed 0 z e one
refusal-is-none (decoding.Content fault) s e z = other-status s malformed 0 z e one

pub fault-is-none : (fault : ValidationError) → status_of (validation_refusal fault) ≡ 0 → ⊥
fault-is-none (validation.Inspection fault) = one
fault-is-none (validation.Verification fault) = one
fault-is-none validation.Memory = three

pub issuer-is-none : (fault : IssuerError) → status_of (issuer_refusal fault) ≡ 0 → ⊥
issuer-is-none (issuing.Decode decoding.Memory) = three
issuer-is-none (issuing.Decode decoding.Malformed) = one
issuer-is-none (issuing.Decode (decoding.Content fault)) = one
issuer-is-none (issuing.Validation (validation.Inspection fault)) = one
issuer-is-none (issuing.Validation (validation.Verification fault)) = one
issuer-is-none (issuing.Validation validation.Memory) = three

no-pass : (cert : KeptCertificate) (fault : ValidationError) → passes cert (Err fault) → ⊥
no-pass cert fault e = absurd cc

-- ---- one object

module _ {X : Type 0} (kind : signed.ObjectKind X) (form : List ℕ → X → Type 0) (text : X → List ℕ)
    (mode : Mode) (digest : Digester) (verdict : Verdict) (issuer : Validated) (now : Moment)
    (octets : List ℕ) (s : Output) where
  module _ (run : Run) (h : IsSaid s run) (z : run.status ≡ 0) (zero : status_of s ≡ 0) where
    said-lines : (x : X) → IsLinesOf (yes_line ++ text x) s
        → IsSaid (shown (yes_line ++ text x)) run
    said-lines x (inl e) = absurd (other-status s out_of_memory 0 zero e three)
    said-lines x (inr e) = subst (λ (y : Output). IsSaid y run) e h

    yes-result : (result : Result (Validated × X) CheckError)
        → IsExact kind form mode digest verdict issuer now passes octets result
        → IsCheckSaid text result s
        → PrintsYes kind form text mode digest verdict issuer now octets run
    yes-result (Ok a) b is =
        let holds = b.holds in
        let lines = subst (λ (x : X). IsSaid (shown (yes_line ++ text x)) run) holds.2
        (said-lines a.1 is) in
        record {
          object = b.object;
          rest = b.rest;
          front = b.front;
          certificate = a.0;
          good = holds.1;
          printed = whole-lines (yes_line ++ text b.object.content) run lines z;
          silent = lines.err;
        }
    yes-result (Err (Decode fault)) b is = absurd (refusal-is-none fault s is zero)
    yes-result (Err (Validation fault)) b (inl e) =
        absurd (other-status s out_of_memory 0 zero e three)
    yes-result (Err (Validation fault)) b (inr e) =
        absurd (other-status s (validation_refusal fault) 0 zero e (fault-is-none fault))

    pub yes-as : IsCheckedAs kind form text mode digest verdict issuer now octets s
        → PrintsYes kind form text mode digest verdict issuer now octets run
    yes-as (inl e) = absurd (other-status s out_of_memory 0 zero e three)
    yes-as (inr c) = yes-result c.result c.exact c.said

  module _ (first : status_of s ≡ 1) where
    no-memory : s ≡ out_of_memory → ⊥
    no-memory e = other-status s out_of_memory 1 first e (λ (n : 3 ≡ 1). omega (arith, n))

    no-front : (fault : DecodeError) → IsRefusal Omitted fault s
        → Refuses fault (HasNoFront (ObjectForm kind.type form mode) octets)
        → HasNoFront (ObjectForm kind.type form mode) octets
    no-front fault e none = elim
        (refusal-said Omitted fault s (HasNoFront (ObjectForm kind.type form mode) octets) e none) [
          | inl m ↦ absurd (no-memory m)
          | inr p ↦ p.1
        ]

    not-good : (o : Whole X) (fault : ValidationError) → s ≡ validation_refusal fault
        → (fault ≡ validation.Memory)
        ⊎ IsNotGood kind mode digest verdict issuer now (passes (cert_in mode o)) o fault
        → (v : Validated) → IsGood kind mode digest verdict issuer now o v → ⊥
    not-good o fault e (inl m) v good = no-memory (e ∙ ap validation_refusal m)
    not-good o fault e (inr n) v good = no-pass (cert_in mode o) fault (n v good)

    no-result : (result : Result (Validated × X) CheckError)
        → IsExact kind form mode digest verdict issuer now passes octets result
        → IsCheckSaid text result s
        → BeginsWithNoGood kind form mode digest verdict issuer now octets
    no-result (Ok a) b (inl e) = absurd (no-memory e)
    no-result (Ok a) b (inr e) = absurd
        (other-status s (shown (yes_line ++ text a.1)) 1 first e (λ (n : 0 ≡ 1). omega (arith, n)))
    no-result (Err (Decode fault)) b is = inl (no-front fault is b)
    no-result (Err (Validation fault)) b (inl e) = absurd (no-memory e)
    no-result (Err (Validation fault)) b (inr e) = inr (record {
      object = b.object;
      rest = b.rest;
      front = b.front;
      holds = not-good b.object fault e b.holds;
    })

    pub no-as : IsCheckedAs kind form text mode digest verdict issuer now octets s
        → BeginsWithNoGood kind form mode digest verdict issuer now octets
    no-as (inl e) = absurd (no-memory e)
    no-as (inr c) = no-result c.result c.exact c.said

-- ---- by its kind

-- what follows for each kind follows for this one
pub of-kind : (options : Options) (kind : Kind)
    (P Q : (X : Type 0) → signed.ObjectKind X → (List ℕ → X → Type 0) → (X → List ℕ) → Type 0)
    → ((X : Type 0) (asked : signed.ObjectKind X) (form : List ℕ → X → Type 0) (text : X → List ℕ)
    → P X asked form text → Q X asked form text)
    → OfKind options kind P → OfKind options kind Q
of-kind options kind P Q more h = search rules

module _ (s : Output) (options : Options) (kind : Kind) (verdict : Verdict)
    (issuer : Validated) (now : Moment) (octets : List ℕ)
    (c : CheckedUnder options kind sha256 verdict issuer now octets s) where
  pub yes-under : (run : Run) → IsSaid s run → run.status ≡ 0 → status_of s ≡ 0
      → OfKind options kind (λ X asked form text. PrintsYes asked form text (read_mode options)
      sha256 verdict issuer now octets run)
  yes-under run h z zero = of-kind options kind
      (λ X asked form text. IsCheckedAs asked form text (read_mode options) sha256 verdict
      issuer
      now octets s)
      (λ X asked form text. PrintsYes asked form text (read_mode options) sha256 verdict issuer now
      octets run)
      (λ X asked form text is. yes-as asked form text (read_mode options) sha256 verdict
      issuer now
      octets s run h z zero is) c

  pub no-under : status_of s ≡ 1
      → OfKind options kind (λ X asked form text. BeginsWithNoGood asked form (read_mode options)
      sha256 verdict issuer now octets)
  no-under first = of-kind options kind
      (λ X asked form text. IsCheckedAs asked form text (read_mode options) sha256 verdict
      issuer
      now octets s)
      (λ X asked form text. BeginsWithNoGood asked form (read_mode options) sha256 verdict issuer
      now octets)
      (λ X asked form text is. no-as asked form text (read_mode options) sha256 verdict
      issuer now
      octets s first is) c

-- ---- by its files

module _ (s : Output) (options : Options) (kind : Kind) (verdict : Verdict)
    (now : Moment) (files : FilesOfCheck) where
  pub yes-made : (run : Run) → IsSaid s run → run.status ≡ 0 → status_of s ≡ 0
      → (issuer : Result Validated IssuerError)
      → MakesIssuer verdict now files.anchor files.chain issuer
      → IsSaidUnder (λ v said.
      CheckedUnder options kind sha256 verdict v now files.object said) issuer s
      → IsRightYes options kind verdict now files run
  yes-made run h z zero (Ok issuer) made is = record {
    issuer = issuer;
    made = made;
    yes = yes-under s options kind verdict issuer now files.object is run h z zero;
  }
  yes-made run h z zero (Err fault) made (inl e) =
      absurd (other-status s out_of_memory 0 zero e three)
  yes-made run h z zero (Err fault) made (inr e) =
      absurd (other-status s (issuer_refusal fault) 0 zero e (issuer-is-none fault))

  pub no-made : status_of s ≡ 1 → (issuer : Result Validated IssuerError)
      → MakesIssuer verdict now files.anchor files.chain issuer
      → IsSaidUnder (λ v said.
      CheckedUnder options kind sha256 verdict v now files.object said) issuer s
      → IsRightNo options kind verdict now files
  no-made first (Ok issuer) made is = inr (record {
    issuer = issuer;
    made = made;
    no = no-under s options kind verdict issuer now files.object is first;
  })
  no-made first (Err fault) made (inl e) =
      absurd (other-status s out_of_memory 1 first e (λ (n : 3 ≡ 1). omega (arith, n)))
  no-made first (Err fault) made (inr e) = inl (record {
    fault = fault;
    made = made;
    has_memory = λ m. other-status s out_of_memory 1 first (e ∙ m)
        (λ (n : 3 ≡ 1). omega (arith, n));
  })

module _ (s : Output) (options : Options) (kind : Kind) (now : Moment) (files : FilesOfCheck)
    (text : List ℕ) where
  yes-of : (run : Run) → IsSaid s run → run.status ≡ 0 → status_of s ≡ 0
      → CheckOf options kind now (in_order_with text files) s
      → HoldsByList (λ verdict. IsRightYes options kind verdict now files run) text
  yes-of run h z zero (inl n) = absurd (other-status s bad_verdicts 0 zero n.1 two)
  yes-of run h z zero (inr c) = record {
    lines = c.0;
    listed = c.1;
    holds = yes-made s options kind (is_listed c.0) now files run h z zero c.2.0 c.2.1
        c.2.2;
  }

  no-of : status_of s ≡ 1 → CheckOf options kind now (in_order_with text files) s
      → HoldsByList (λ verdict. IsRightNo options kind verdict now files) text
  no-of first (inl n) =
      absurd (other-status s bad_verdicts 1 first n.1 (λ (m : 2 ≡ 1). omega (arith, m)))
  no-of first (inr c) = record {
    lines = c.0;
    listed = c.1;
    holds = no-made s options kind (is_listed c.0) now files first c.2.0 c.2.1 c.2.2;
  }

-- ---- by the run

module _ (told : Told) (names octets : Names)
    (P : List (List ℕ) → Output → Type 0) (old new : Names) (run : Run)
    (done : ChecksFiles told names P old new run) (tells : AreTold told names octets) where
  -- what is said by a run that ends with this status, which is not that of a failure
  pub said-with : (n : ℕ) → run.status ≡ n → (n ≡ 2 → ⊥) → (3 ≡ n → ⊥)
      → (s : Output) × P octets s × IsSaid s run × (status_of s ≡ n)
  said-with n z failed memory = elim (done.checked octets tells) [
    | inl m ↦ absurd (memory (status-said out_of_memory run n m z failed))
    | inr c ↦ (c.1, c.2, c.3, status-said c.1 run n c.3 z failed)
  ]

  pub said-yes : run.status ≡ 0 → (s : Output) × P octets s × IsSaid s run × (status_of s ≡ 0)
  said-yes z = said-with 0 z (λ (n : 0 ≡ 2). omega (arith, n)) three

  pub said-no : run.status ≡ 1 → (s : Output) × P octets s × IsSaid s run × (status_of s ≡ 1)
  said-no z = said-with 1 z (λ (n : 1 ≡ 2). omega (arith, n)) (λ (n : 3 ≡ 1). omega (arith, n))

module _ (told : Told) (words : List (List ℕ)) (old new : Names) (run : Run) (options : Options)
    (kind : Kind) (now : Moment) (names files : FilesOfCheck) (list text : List ℕ)
    (is : IsRunOf objects_program told words old new run)
    (asked : IsAsked objects_language words (check_order options kind now list names))
    (tells : AreTold told (in_order_with list names) (in_order_with text files)) where
  done : ChecksFiles told (in_order_with list names) (CheckOf options kind now) old new run
  done = is.done (check_order options kind now list names) asked

  pub right-yes : run.status ≡ 0
      → HoldsByList (λ verdict. IsRightYes options kind verdict now files run) text
  right-yes z =
      let c = said-yes told (in_order_with list names) (in_order_with text files)
      (CheckOf options kind now) old new run done tells z in
      yes-of c.0 options kind now files text run c.2 z c.3 c.1

  pub right-no : run.status ≡ 1
      → HoldsByList (λ verdict. IsRightNo options kind verdict now files) text
  right-no z =
      let c = said-no told (in_order_with list names) (in_order_with text files)
      (CheckOf options kind now) old new run done tells z in
      no-of c.0 options kind now files text c.3 c.1
