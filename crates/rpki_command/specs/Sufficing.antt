-- When a list of verdicts suffices for a check.
use Rattle.std.specs.Prelude.{◌≡◌, ℕ, List, Ok, true, Contains}
use Rattle.sha2.specs.Sha256.{sha256}
use Rattle.rpki_basics.specs.Moment.{Moment}
use Rattle.rpki_certs.specs.Issuer.{MakesIssuer}
use Rattle.rpki_certs.specs.Validate.{Validated}
use Rattle.rpki_certs.specs.Verify.{Verdict}
use Rattle.rpki_rsa.specs.Signature.{is_rsa_signature}
use Rattle.rpki_signed.specs.Check.{BeginsWith}
use Rattle.rpki_sigobj.specs.Signed.Good.{IsGood}
use Rattle.rpki_sigobj.specs.Signed.{Whole, ObjectForm}
use Rattle.rpki_verdicts.specs.Lists.{IsListingOf}
use Rattle.rpki_verdicts.specs.Questions.{Question, says}
use Rattle.rpki_cli.specs.Answer.{Run}
use Rattle.rpki_cli.specs.Command.{AreTold, IsRunOf, objects_language}
use Rattle.rpki_cli.specs.Language.{IsAsked}
use Rattle.rpki_cli.specs.Store.{Told}
use Rattle.rpki_cli.specs.declared.words.Kind.{Kind}
use Rattle.rpki_cli.specs.declared.words.Options.{Options}
use Rattle.rpki_show.specs.Kinds.{OfKind}
use Rattle.rpki_show.specs.Options.{read_mode}
use Rattle.rpki_command.specs.Command.{objects_program}
use Rattle.rpki_command.specs.Yes.{FilesOfCheck, check_order, in_order_with}

-- The second verdict says yes to each of these questions to which the first says yes.
abbrev pub SaysYesToo : Verdict → Verdict → List Question → Type 0
SaysYesToo a b questions =
    (q : Question) → Contains questions q → says a q ≡ true → says b q ≡ true

-- The text is a list of the good ones, by the keys, of the signatures that a check of these files
-- asks about, as `rpki_verify verdicts` prints it.
abbrev pub IsGoodList : Options → FilesOfCheck → List ℕ → Type 0
IsGoodList options files text =
    IsListingOf (read_mode options) is_rsa_signature files.object files.anchor files.chain text

-- By this verdict the certificates make an issuer, under which the octets begin with an object of
-- the kind that is good at this moment: `IsRightYes` without what is printed.
pub record IsGoodBy (verdict : Verdict) (options : Options) (kind : Kind) (now : Moment)
    (files : FilesOfCheck) : Type 0 where
  pub issuer : Validated
  pub made : MakesIssuer verdict now files.anchor files.chain (Ok issuer)
  pub good : OfKind options kind (λ X asked form text.
      BeginsWith (ObjectForm asked.type form (read_mode options)) files.object (λ (o : Whole X).
      (v : Validated) × IsGood asked (read_mode options) sha256 verdict issuer now o v))

-- No run of `rpki_objects check` with these options, of an object of this kind at this moment, ends
-- with status 1, where a store tells its files, and this is the text of the verdicts.
abbrev pub NeverSaysNo : Options → Kind → Moment → FilesOfCheck → List ℕ → Type 0
NeverSaysNo options kind now files text = (told : Told) (words before after : List (List ℕ))
    (run : Run) (names : FilesOfCheck) (list : List ℕ)
    → IsRunOf objects_program told words before after run
    → IsAsked objects_language words (check_order options kind now list names)
    → AreTold told (in_order_with list names) (in_order_with text files)
    → ¬ (run.status ≡ 1)
