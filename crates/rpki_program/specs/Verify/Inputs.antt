-- The files that a question names.
use Rattle.std.specs.Prelude.{◌≡◌, ℕ, List, Option, None, Some, Ok, false, length, option_map}
use Rattle.std.specs.Borrow.{Bor}
use Rattle.rpki_basics.specs.Moment.{Moment}
use Rattle.rpki_cli.specs.Store.{AreReadTo, IsRead, Names, Told}
use Rattle.rpki_cli.specs.Words.{texts}
use Rattle.rpki_validation.specs.Grounds.{HasNoGrounds, locator_octets}
use Rattle.rpki_validation.specs.declared.question.Manner.{Manner}
use Rattle.rpki_validation.specs.declared.question.Question.{Question}
use Rattle.rpki_validation.specs.declared.refusal.Refusal.{Refusal}
use Rattle.rpki_program.specs.Verify.Report.{IsNoIssuer}
use Rattle.rpki_program.specs.declared.verify.inputs.Inputs.{Inputs}
use Rattle.rpki_program.specs.declared.verify.request.IssuerFiles.{IssuerFiles}

-- a word that may be given
abbrev pub text_given : Option (Bor (List ℕ)) → Option (List ℕ)
text_given word = option_map (λ w. w.now) word

-- These are the octets that the store tells of the files of these names, or any where it tells
-- nothing.
pub record AreOctets (told : Told) (names : Names) (files : List (List ℕ)) : Type 0 where
  pub count : length files ≡ length names
  pub each : AreReadTo told names (length names) files

-- These are the octets that the store tells of the file of this name, or any where it tells nothing;
-- there are none where no name is given.
abbrev pub IsOctetsIf : Told → Option (List ℕ) → Option (List ℕ) → Type 0
IsOctetsIf told None None = Unit {0}
IsOctetsIf told None (Some octets) = ⊥
IsOctetsIf told (Some name) None = ⊥
IsOctetsIf told (Some name) (Some octets) = IsRead (told name) (Ok octets)

-- The inputs are the octets that the store tells of the files that a question names.
pub record AreTold (told : Told) (under : IssuerFiles) (inputs : Inputs) : Type 0 where
  pub anchor : IsRead (told under.ta.now) (Ok inputs.anchor)
  pub chain : AreOctets told (texts under.cas.items) inputs.chain.items
  pub locator : IsOctetsIf told (text_given under.tal) inputs.locator
  pub lists : AreOctets told (texts under.crls.items) inputs.lists.items

-- This is the question on these inputs, at this moment and in this manner.
pub record IsQuestionOn (inputs : Inputs) (now : Moment) (how : Manner) (q : Question) : Type 0 where
  pub anchor : q.anchor.now ≡ inputs.anchor
  pub locator : locator_octets q ≡ inputs.locator
  pub chain : q.chain.now ≡ inputs.chain.items
  pub lists : q.lists.now ≡ inputs.lists.items
  pub moment : q.moment ≡ now
  pub manner : q.manner ≡ how

-- This is a question on what the store tells of the files that it names.
abbrev pub IsQuestionOf : Told → IssuerFiles → Moment → Manner → Question → Type 0
IsQuestionOf told under moment manner q =
    (inputs : Inputs) × AreTold told under inputs × IsQuestionOn inputs moment manner q

-- The certificates of a question make no issuer, and not for want of memory.
abbrev pub HasNoAnswer : Question → Type 0
HasNoAnswer q = (refusal : Refusal) × HasNoGrounds q refusal × IsNoIssuer refusal
