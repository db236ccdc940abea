-- Lists of the good signatures that a check of an object asks about, as they are used.
use Rattle.std.specs.Prelude.{◌≡◌, ℕ, ◌<◌, ◌^◌, List, ◌∷◌, length}
use Rattle.rpki_der.specs.declared.mode.Mode.{Mode}
use Rattle.rpki_basics.specs.Key.{key_contents}
use Rattle.rpki_certs.specs.Cert.{Certificate}
use Rattle.rpki_certs.specs.Verify.{Verdict}
use Rattle.rpki_sigobj.specs.Object.{SignedObject, SignedForm}
use Rattle.rpki_verdicts.specs.Listing.{IsAmongGood}
use Rattle.rpki_verdicts.specs.Lists.{BeginWith, AreCerts}
use Rattle.rpki_verdicts.specs.Questions.{Question, check_questions}

-- A check asks these: the files begin with a signed object, in this mode, with the certificate of a
-- trust anchor, and with those of CAs.
pub record AreAskedOf (mode : Mode) (object anchor : List ℕ) (chain : List (List ℕ))
    (questions : List Question) : Type 0 where
  pub first : Certificate
  pub others : List Certificate
  pub signed : SignedObject
  pub certs : AreCerts (anchor ∷ chain) (first ∷ others)
  pub front : BeginWith (SignedForm mode) object signed
  pub whole : questions ≡ check_questions first others signed.signed

-- The list of the good ones of these signatures says yes to this one: the key can be written as a
-- SubjectPublicKeyInfo (RFC 5280, section 4.1.2.7), and the digests are those of a question whose
-- answer is yes.
pub record IsListedGood (verdict : Verdict) (questions : List Question)
    (key message signature : List ℕ) : Type 0 where
  pub short : length (key_contents key) < 2 ^ 32
  pub among : IsAmongGood verdict questions key message signature
