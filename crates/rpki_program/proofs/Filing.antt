-- What a check of a manifest or a checklist reports, from its parts.
use Rattle.std.proofs.Common.{◌≡◌, ◌≤◌, ◌∙◌, ◌⊎◌, ℕ, List, [], All, Bool, Result, Ok, Err, arith, ap}
use Rattle.std.proofs.Common.{inl, inr, subst}
use Rattle.std.specs.Prelude.{◌==◌, Any, IfOk, string_bytes}
use Rattle.std.specs.declared.alloc.AllocError.{AllocError}
use Rattle.rpki_basics.specs.Moment.{Moment}
use Rattle.rpki_cli.specs.Store.{Told}
use Rattle.rpki_validation.specs.Grounds.{AreGroundsOf, HasNoGrounds}
use Rattle.rpki_validation.specs.declared.grounds.Grounds.{Grounds}
use Rattle.rpki_validation.specs.declared.question.Question.{Question}
use Rattle.rpki_validation.specs.declared.refusal.Refusal.{Refusal}
use Rattle.rpki_program.specs.Verify.Files.{AreHeld, Folder, IsAskedOf, IsFilesReport}
use Rattle.rpki_program.specs.Verify.Files.{IsFilesReportOn, IsGoodWith, IsHeld, IsLacking, IsNo}
use Rattle.rpki_program.specs.Verify.Files.{IsNoAnswer, IsNoOfFiles, IsObject, IsObjectReport}
use Rattle.rpki_program.specs.Verify.Files.{IsSaidOf}
use Rattle.rpki_program.specs.Verify.Files.{IsRefused, IsUngrounded, Listed, Named, folder_of}
use Rattle.rpki_program.specs.Verify.Inputs.{IsQuestionOf}
use Rattle.rpki_program.specs.Verify.Kinds.{IsNameOf}
use Rattle.rpki_program.specs.Verify.Report.{IsAnswer, IsStopped}
use Rattle.rpki_program.specs.declared.verify.report.Report.{Report}
use Rattle.rpki_program.specs.declared.verify.request.FileKind.{FileKind}
use Rattle.rpki_program.specs.declared.verify.request.FileKind.TheVariants as kinds
use Rattle.rpki_program.specs.declared.verify.request.FilesRequest.{FilesRequest}

none-below : (n : ℕ) → IsStopped n → (n ≡ 0 → ⊥)
none-below n (inl e) z = omega (arith, e, z)
none-below n (inr (inl e)) z = omega (arith, e, z)
none-below n (inr (inr e)) z = omega (arith, e, z)

not-one : (n : ℕ) → IsStopped n → (n ≡ 1 → ⊥)
not-one n (inl e) z = omega (arith, e, z)
not-one n (inr (inl e)) z = omega (arith, e, z)
not-one n (inr (inr e)) z = omega (arith, e, z)

few : (n : ℕ) → IsStopped n → n ≤ 4
few n (inl e) = omega (arith, e)
few n (inr (inl e)) = omega (arith, e)
few n (inr (inr e)) = omega (arith, e)

-- of the files that a good object lists another thing is so
good-map : (r : FilesRequest) (g : Grounds) (kind : FileKind) (octets : List ℕ)
    (S T : List Listed → Type 0) → ((files : List Listed) → S files → T files)
    → IsGoodWith r g kind octets S → IsGoodWith r g kind octets T
good-map r g kinds.Manifest octets S T f h = (h.0, h.1, f _ h.2)
good-map r g kinds.Checklist octets S T f h = (h.0, h.1, f _ h.2)
good-map r g kinds.Roa octets S T f h = absurd h
good-map r g kinds.Aspa octets S T f h = absurd h
good-map r g kinds.Attestation octets S T f h = absurd h
good-map r g kinds.Certificate octets S T f h = absurd h
good-map r g kinds.RevocationList octets S T f h = absurd h
good-map r g kinds.Locator octets S T f h = absurd h

-- files of which it is so
good-files : (r : FilesRequest) (g : Grounds) (kind : FileKind) (octets : List ℕ)
    (S : List Listed → Type 0) → IsGoodWith r g kind octets S → (files : List Listed) × S files
good-files r g kinds.Manifest octets S h = (_, h.2)
good-files r g kinds.Checklist octets S h = (_, h.2)
good-files r g kinds.Roa octets S h = absurd h
good-files r g kinds.Aspa octets S h = absurd h
good-files r g kinds.Attestation octets S h = absurd h
good-files r g kinds.Certificate octets S h = absurd h
good-files r g kinds.RevocationList octets S h = absurd h
good-files r g kinds.Locator octets S h = absurd h

-- what a folder has of the files of a good object is reported
pub object-filed : (r : FilesRequest) (g : Grounds) (f : Folder) (kind : FileKind) (octets : List ℕ)
    (files : List Listed) → ((S : List Listed → Type 0) → S files → IsGoodWith r g kind octets S)
    → (made : Result Report AllocError)
    → IfOk made (λ x. (compared : ℕ) × IsSaidOf r compared (string_bytes x.out) x.status
    × AreHeld f files compared)
    → IfOk made (λ x. IsObjectReport r g f kind octets (string_bytes x.out) x.status)
object-filed r g f kind octets files good (Ok x) h =
    inr (h.0, h.1, good (λ (fs : List Listed). AreHeld f fs h.0) h.2)
object-filed r g f kind octets files good (Err e) h = tt

-- what is reported of an object of a kind that its name says
pub judged-filed : (r : FilesRequest) (g : Grounds) (f : Folder) (kind : FileKind) (octets : List ℕ)
    → IsNameOf r.object.now kind → (made : Result Report AllocError)
    → IfOk made (λ x. IsObjectReport r g f kind octets (string_bytes x.out) x.status)
    → IfOk made (λ x. IsNoAnswer (string_bytes x.out) x.status
    ⊎ ((k : FileKind) × IsNameOf r.object.now k
    × IsObjectReport r g f k octets (string_bytes x.out) x.status))
judged-filed r g f kind octets n (Ok x) h = inr (kind, n, h)
judged-filed r g f kind octets n (Err e) h = tt

module _ (told : Told) (named : Named) (r : FilesRequest) (moment : Moment) where
  -- the run is stopped
  pub nothing-filed : (text : List ℕ) (status : ℕ) → IsNoAnswer text status
      → IsFilesReport told named r moment text status
  nothing-filed text status h = record {
    right = record {
      yes = λ e. absurd (none-below status h.0 e);
      no = λ e. absurd (not-one status h.0 e);
      known = few status h.0;
    };
    yes_text = λ e. absurd (none-below status h.0 e);
    no_text = inr (inl h.1);
  }

  -- the answer is no
  no-filed : (text : List ℕ) (status : ℕ) → IsNo r text status
      → IsNoOfFiles told named r moment → IsFilesReport told named r moment text status
  no-filed text status h why = record {
    right = record {
      yes = λ e. absurd (omega (arith, h.0, e));
      no = λ e. why;
      known = omega (arith, h.0);
    };
    yes_text = λ e. absurd (omega (arith, h.0, e));
    no_text = inr (inr h.1);
  }

  pub ungrounded-filed : (q : Question) (refusal : Refusal) (text : List ℕ) (status : ℕ)
      → IsQuestionOf told r.under moment r.manner q → HasNoGrounds q refusal
      → IsUngrounded r refusal text status → IsFilesReport told named r moment text status
  ungrounded-filed q refusal text status asked none (inl h) = nothing-filed text status h
  ungrounded-filed q refusal text status asked none (inr h) =
      no-filed text status h.0 (inl (q, asked, (refusal, none, h.1)))

  module _ (q : Question) (g : Grounds) (asked : IsQuestionOf told r.under moment r.manner q)
      (are : AreGroundsOf q g) where
    as-asked : (Such : Grounds → Folder → FileKind → List ℕ → Type 0) (kind : FileKind)
        (octets : List ℕ) → IsObject told r kind octets → (names : List (List ℕ))
        → named r.folder.now names → Such g (folder_of told r names) kind octets
        → IsAskedOf told named r moment Such
    as-asked Such kind octets object names are_named such = record {
      question = q;
      is_question = asked;
      grounds = g;
      are = are;
      kind = kind;
      octets = octets;
      object = object;
      names = names;
      are_named = are_named;
      such = such;
    }

    compared-filed : (kind : FileKind) (octets : List ℕ) (names : List (List ℕ))
        (compared : ℕ) (text : List ℕ) (status : ℕ) → IsObject told r kind octets
        → named r.folder.now names → status ≡ compared → IsAnswer r.json r.object.now (compared == 0) text
        → IsGoodWith r g kind octets (λ files. AreHeld (folder_of told r names) files compared)
        → (compared ≡ 0) ⊎ ((compared ≡ 1) ⊎ (compared ≡ 4))
        → IsFilesReport told named r moment text status
    compared-filed kind octets names compared text status object are_named s answer good (inl z) =
        record {
          right = record {
            yes = λ e. as-asked (λ g f kind octets. IsGoodWith r g kind octets (All (IsHeld f))) kind
                octets object names are_named (good-map r g kind octets
                (λ files. AreHeld (folder_of told r names) files compared)
                (All (IsHeld (folder_of told r names))) (λ files h. h.held z) good);
            no = λ e. absurd (omega (arith, s, z, e));
            known = omega (arith, s, z);
          };
          yes_text = λ e. subst (λ (b : Bool). IsAnswer r.json r.object.now b text)
              (ap (λ (n : ℕ). n == 0) z) answer;
          no_text = inl (s ∙ z);
        }
    compared-filed kind octets names compared text status object are_named s answer good
        (inr (inl z)) = record {
          right = record {
            yes = λ e. absurd (omega (arith, s, z, e));
            no = λ e. inr (as-asked (λ g f kind octets. IsRefused r g kind octets
                ⊎ IsGoodWith r g kind octets (Any (IsLacking f))) kind octets object names are_named
                (inr (good-map r g kind octets
                (λ files. AreHeld (folder_of told r names) files compared)
                (Any (IsLacking (folder_of told r names))) (λ files h. h.lacking z) good)));
            known = omega (arith, s, z);
          };
          yes_text = λ e. absurd (omega (arith, s, z, e));
          no_text = inr (inr (subst (λ (b : Bool). IsAnswer r.json r.object.now b text)
              (ap (λ (n : ℕ). n == 0) z) answer));
        }
    compared-filed kind octets names compared text status object are_named s answer good
        (inr (inr z)) = record {
          right = record {
            yes = λ e. absurd (omega (arith, s, z, e));
            no = λ e. absurd (omega (arith, s, z, e));
            known = omega (arith, s, z);
          };
          yes_text = λ e. absurd (omega (arith, s, z, e));
          no_text = inr (inr (subst (λ (b : Bool). IsAnswer r.json r.object.now b text)
              (ap (λ (n : ℕ). n == 0) z) answer));
        }

    pub grounds-filed : (text : List ℕ) (status : ℕ)
        → IsFilesReportOn told named r g text status
        → IsFilesReport told named r moment text status
    grounds-filed text status (inl h) = nothing-filed text status h
    grounds-filed text status (inr (kind, octets, object, names, are_named, inl h)) =
        no-filed text status h.0 (inr (as-asked (λ g f kind octets. IsRefused r g kind octets
        ⊎ IsGoodWith r g kind octets (Any (IsLacking f))) kind octets object names are_named
        (inl h.1)))
    grounds-filed text status (inr (kind, octets, object, names, are_named, inr h)) =
        compared-filed kind octets names h.0 text status object are_named h.1.0 h.1.1 h.2
        (good-files r g kind octets
        (λ files. AreHeld (folder_of told r names) files h.0) h.2).1.known

  -- the same of reports
  pub unread-files : (made : Result Report AllocError)
      → IfOk made (λ x. (x.status ≡ 4) × (string_bytes x.out ≡ []))
      → IfOk made (λ x. IsFilesReport told named r moment (string_bytes x.out) x.status)
  unread-files (Ok x) h = nothing-filed (string_bytes x.out) x.status (inr (inr h.0), h.1)
  unread-files (Err e) h = tt

  pub ungrounded-files : (q : Question) (refusal : Refusal)
      → IsQuestionOf told r.under moment r.manner q → HasNoGrounds q refusal
      → (made : Result Report AllocError)
      → IfOk made (λ x. IsUngrounded r refusal (string_bytes x.out) x.status)
      → IfOk made (λ x. IsFilesReport told named r moment (string_bytes x.out) x.status)
  ungrounded-files q refusal asked none (Ok x) h =
      ungrounded-filed q refusal (string_bytes x.out) x.status asked none h
  ungrounded-files q refusal asked none (Err e) h = tt

  pub grounds-files : (q : Question) (g : Grounds)
      → IsQuestionOf told r.under moment r.manner q → AreGroundsOf q g
      → (made : Result Report AllocError)
      → IfOk made (λ x. IsFilesReportOn told named r g (string_bytes x.out) x.status)
      → IfOk made (λ x. IsFilesReport told named r moment (string_bytes x.out) x.status)
  grounds-files q g asked are (Ok x) h = grounds-filed q g asked are (string_bytes x.out) x.status h
  grounds-files q g asked are (Err e) h = tt
