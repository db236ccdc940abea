-- The list of the good signatures that a check asks about.
use Rattle.std.specs.Prelude.{◌≡◌, ℕ, ◌^◌, List, [], ◌∷◌, length, Bool, true, ◌&&◌, nat_lt}
use Rattle.std.specs.Prelude.{cond, Contains}
use Rattle.std.specs.List.{flat_map}
use Rattle.rpki_basics.specs.Key.{key_contents, key_octets}
use Rattle.rpki_certs.specs.Verify.{Verdict}
use Rattle.rpki_verdicts.specs.Verdicts.{digest_text, line_of}
use Rattle.rpki_verdicts.specs.Questions.{Question, says}

-- Whether the answer to a question is yes, and the key can be written as a SubjectPublicKeyInfo
-- (RFC 5280, section 4.1.2.7), with contents below 2^32 octets, the most that `rpki_der` writes:
-- without it a list of verdicts can't say so.
abbrev pub is_listable : Verdict → Question → Bool
is_listable verdict q = says verdict q && nat_lt (length (key_contents q.key)) (2 ^ 32)

-- the line of a list of verdicts that says yes to a question
abbrev pub question_line : Question → List ℕ
question_line q =
    line_of (digest_text (key_octets q.key)) (digest_text q.message) (digest_text q.signature)

-- the line of a verdict, where the signature is good, and else nothing
abbrev pub good_line : Verdict → Question → List ℕ
good_line verdict q = cond (is_listable verdict q) (question_line q) []

-- The list of verdicts that says yes to those of the questions to which it may, in their order.
abbrev pub listing : Verdict → List Question → List ℕ
listing verdict questions = flat_map (good_line verdict) questions

-- the lines of `listing`, in its order: one for each of the questions to which it may say yes
-- (`is_listable`), and none for the others
abbrev pub good_lines : Verdict → List Question → List (List ℕ)
good_lines verdict [] = []
good_lines verdict (q ∷ questions) =
    cond (is_listable verdict q) (question_line q ∷ good_lines verdict questions)
    (good_lines verdict questions)

-- The key, the message and the signature have the line of one of the questions to which the list
-- may say yes.
pub record IsAmongGood (verdict : Verdict) (questions : List Question)
    (key message signature : List ℕ) : Type 0 where
  pub question : Question
  pub asked : Contains questions question
  pub good : is_listable verdict question ≡ true
  pub same : question_line question
      ≡ line_of (digest_text (key_octets key)) (digest_text message) (digest_text signature)
