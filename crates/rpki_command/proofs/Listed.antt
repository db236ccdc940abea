-- A list of the good signatures suffices for a check of an object.
use Rattle.std.proofs.Common.{◌≡◌, ◌∙◌, ℕ, List, inl, inr, sym, ap, subst}
use Rattle.sha2.specs.Sha256.{sha256}
use Rattle.rpki_der.specs.Form.Decodes.{IsOnlyFront}
use Rattle.rpki_basics.specs.Moment.{Moment}
use Rattle.rpki_certs.specs.Validate.{Validated}
use Rattle.rpki_certs.specs.Verify.{Verdict}
use Rattle.rpki_rsa.specs.Signature.{is_rsa_signature}
use Rattle.rpki_sigobj.specs.Object.{SignedObject}
use Rattle.rpki_sigobj.specs.Signed.Good.{IsGood}
use Rattle.rpki_sigobj.specs.Signed.Kind as signed
use Rattle.rpki_sigobj.specs.Signed.{Whole, ObjectForm}
use Rattle.rpki_signed.specs.Check.{BeginsWith}
use Rattle.rpki_verdicts.specs.Listed.{is_listed}
use Rattle.rpki_verdicts.specs.Listing.{good_lines}
use Rattle.rpki_verdicts.specs.Questions.{Question, check_questions}
use Rattle.rpki_verdicts.specs.Verdicts.{AreVerdicts}
use Rattle.rpki_verdicts.proofs.Good.{all-lines, each-good}
use Rattle.rpki_verdicts.proofs.Cut.{only-lines}
use Rattle.rpki_cli.specs.declared.words.Kind.{Kind}
use Rattle.rpki_cli.specs.declared.words.Options.{Options}
use Rattle.rpki_show.specs.Options.{read_mode}
use Rattle.rpki_command.specs.Sufficing.{SaysYesToo, IsGoodList, IsGoodBy, NeverSaysNo}
use Rattle.rpki_command.specs.Yes.{FilesOfCheck, BeginsWithNoGood, HoldsByList, IsRightNo}
use Rattle.rpki_command.proofs.Right.{of-kind, right-no}
use Rattle.rpki_command.proofs.Same.{kinds-clash, makes-not, makes-same, memory-had, not-both}
use Rattle.rpki_command.proofs.Sufficing.{good-has-line, good-too, issuer-too}

-- a text is a list of one sequence of lines
one-list : (text : List ℕ) (lines others : List (List ℕ)) → AreVerdicts text lines
    → AreVerdicts text others → lines ≡ others
one-list text lines others h k = sym (only-lines text lines h).1 ∙ (only-lines text others k).1

-- what is good by a verdict is not refused by it
good-not-refused : (verdict : Verdict) (options : Options) (kind : Kind) (now : Moment)
    (files : FilesOfCheck) → IsGoodBy verdict options kind now files
    → IsRightNo options kind verdict now files → ⊥
good-not-refused verdict options kind now files good (inl none) =
    makes-not verdict now files.anchor files.chain good.issuer none.fault good.made none.made
    (memory-had none.fault none.has_memory)
good-not-refused verdict options kind now files good (inr other) =
    let same = makes-same verdict now files.anchor files.chain good.issuer other.issuer good.made
    other.made in
    kinds-clash options kind
    (λ X asked form text. BeginsWith (ObjectForm asked.type form (read_mode options)) files.object
    (λ (o : Whole X). (v : Validated)
    × IsGood asked (read_mode options) sha256 verdict good.issuer now o v))
    (λ X asked form text. BeginsWithNoGood asked form (read_mode options) sha256 verdict other.issuer
    now files.object)
    (λ X asked form text a b spans. not-both asked form spans (read_mode options) sha256 verdict
    good.issuer other.issuer now files.object a.object a.rest a.holds.0 same a.front a.holds.1 b)
    good.good other.no

module _ (options : Options) (kind : Kind) (now : Moment) (files : FilesOfCheck) (text : List ℕ)
    (list : IsGoodList options files text)
    (good : IsGoodBy is_rsa_signature options kind now files) where
  abbrev questions : List Question
  questions = check_questions list.first list.others list.signed.signed

  abbrev lines : List (List ℕ)
  lines = good_lines is_rsa_signature questions

  listed : AreVerdicts text lines
  listed = subst (λ (t : List ℕ). AreVerdicts t lines) (sym list.whole)
      (all-lines is_rsa_signature questions)

  -- the list says yes to each question to which the keys do
  too : SaysYesToo is_rsa_signature (is_listed lines) questions
  too q k e = each-good is_rsa_signature questions q k (good-has-line q e)

  -- an object at the front is the one of the questions
  the-object : {X : Type 0} (asked : signed.ObjectKind X) (form : List ℕ → X → Type 0) (o : Whole X)
      (rest : List ℕ)
      → IsOnlyFront (ObjectForm asked.type form (read_mode options)) files.object o rest
      → o.object.signed ≡ list.signed.signed
  the-object asked form o rest front =
      let f = front.found in
      ap (λ (x : SignedObject). x.signed)
      (list.front.1.only o.object rest (f.0, f.1, f.2.0.0)).0

  front-by-list : {X : Type 0} (asked : signed.ObjectKind X) (form : List ℕ → X → Type 0)
      → BeginsWith (ObjectForm asked.type form (read_mode options)) files.object
      (λ (o : Whole X). (v : Validated)
      × IsGood asked (read_mode options) sha256 is_rsa_signature good.issuer now o v)
      → BeginsWith (ObjectForm asked.type form (read_mode options)) files.object
      (λ (o : Whole X). (v : Validated)
      × IsGood asked (read_mode options) sha256 (is_listed lines) good.issuer now o v)
  front-by-list asked form b = record {
    object = b.object;
    rest = b.rest;
    front = b.front;
    holds = (
      b.holds.0,
      good-too now files.anchor files.chain list.first list.others list.signed.signed list.certs
          is_rsa_signature (is_listed lines) too good.issuer good.made asked (read_mode options)
          sha256 b.object b.holds.0 (the-object asked form b.object b.rest b.front) b.holds.1,
    );
  }

  good-listed : IsGoodBy (is_listed lines) options kind now files
  good-listed = record {
    issuer = good.issuer;
    made = issuer-too now files.anchor files.chain list.first list.others list.signed.signed
        list.certs is_rsa_signature (is_listed lines) too good.issuer good.made;
    good = of-kind options kind
        (λ X asked form text. BeginsWith (ObjectForm asked.type form (read_mode options))
        files.object (λ (o : Whole X). (v : Validated)
        × IsGood asked (read_mode options) sha256 is_rsa_signature good.issuer now o v))
        (λ X asked form text. BeginsWith (ObjectForm asked.type form (read_mode options))
        files.object (λ (o : Whole X). (v : Validated)
        × IsGood asked (read_mode options) sha256 (is_listed lines) good.issuer now o v))
        (λ X asked form text b. front-by-list asked form b) good.good;
  }

  pub good-by-list : HoldsByList (λ verdict. IsGoodBy verdict options kind now files) text
  good-by-list = record { lines = lines; listed = listed; holds = good-listed }

  pub never-no : NeverSaysNo options kind now files text
  never-no told words before after run names verdicts is asked tells one =
      let refused = right-no told words before after run options kind now names files verdicts text
      is asked tells one in
      good-not-refused (is_listed lines) options kind now files good-listed
      (subst (λ (ls : List (List ℕ)). IsRightNo options kind (is_listed ls) now files)
      (one-list text refused.lines lines refused.listed listed) refused.holds)
