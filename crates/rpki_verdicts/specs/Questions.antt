-- Which signatures a check asks about.
use Rattle.std.specs.Prelude.{ℕ, List, [], ◌∷◌, ◌++◌, Bool}
use Rattle.rpki_attributes.specs.Attrs.Made.{message_of}
use Rattle.rpki_certs.specs.Cert.{Certificate}
use Rattle.rpki_certs.specs.Verify.{Verdict}
use Rattle.rpki_sigobj.specs.Object.{SignedData}

-- A key's bits, a message and a signature: the question whether it is a signature of the message by
-- this key.
pub record Question : Type 0 where
  pub key : List ℕ
  pub message : List ℕ
  pub signature : List ℕ

-- what a verdict says to a question
abbrev pub says : Verdict → Question → Bool
says verdict q = verdict q.key q.message q.signature

-- whether this key signed the certificate (RFC 5280, section 6.1.3)
abbrev pub cert_question : List ℕ → Certificate → Question
cert_question key c = record { key = key; message = c.signed; signature = c.signature }

-- Whether certificates are signed: the first by this key, and each other one by the key of the one
-- before.
abbrev pub chain_questions : List ℕ → List Certificate → List Question
chain_questions key [] = []
chain_questions key (c ∷ others) = cert_question key c ∷ chain_questions c.tbs.key others

-- the last certificate of a chain that begins with this one
abbrev pub last_of : Certificate → List Certificate → Certificate
last_of first [] = first
last_of first (c ∷ others) = last_of c others

-- whether the key of its certificate signed the message of its signed attributes (RFC 5652, section
-- 5.4)
abbrev pub signer_question : SignedData → Question
signer_question s = record {
  key = s.cert.tbs.key;
  message = message_of s.signer.attributes;
  signature = s.signer.signature;
}

-- The signatures on which a check of an object rests, where these are the certificate of a trust
-- anchor and those of CAs, each under the one before, in the order of the lines of a list (RFC
-- 6487, section 7.2; RFC 6488, section 3): that of the anchor by its own key, those of the CAs and
-- of the certificate in the object each by the key of the one before, and that of the object by the
-- key of its certificate.
abbrev pub check_questions : Certificate → List Certificate → SignedData → List Question
check_questions anchor chain s =
    chain_questions anchor.tbs.key (anchor ∷ (chain ++ (s.cert ∷ []))) ++ (signer_question s ∷ [])
