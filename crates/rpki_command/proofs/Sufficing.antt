-- A second verdict that says yes too, to the questions of a check, suffices for it.
use Rattle.std.proofs.Common.{◌≡◌, ℕ, zero, suc, ◌+◌, ◌<◌, ◌≤◌, ◌^◌, Bool, true, false, List}
use Rattle.std.proofs.Common.{[], ◌∷◌, ◌++◌, length, Result, Ok, Err, inl, inr, refl, sym, ap}
use Rattle.std.proofs.Common.{subst, ◌∙◌, arith}
use Rattle.std.specs.Prelude.{◌⊎◌, Contains, nat_lt, slice_index_or}
use Rattle.std.proofs.lemmas.Bool.{and_from}
use Rattle.std.proofs.lemmas.Bool.Decides.{Decides-ltb}
use Rattle.std.proofs.lemmas.List.Elements.{Contains-append_left, Contains-push}
use Rattle.rpki_der.specs.Tags.{BIT_STRING}
use Rattle.rpki_der.specs.Write.Written.{bit_string_contents, length_value_octets_le, unused_bits}
use Rattle.rpki_der.specs.declared.mode.Mode.{Mode}
use Rattle.rpki_der.specs.declared.mode.Mode.TheVariants.{Der}
use Rattle.rpki_der.proofs.Writing.Strings.{length_zero_last}
use Rattle.rpki_basics.specs.Key.{key_contents}
use Rattle.rpki_basics.specs.Moment.{Moment}
use Rattle.rpki_faults.specs.Checks.{Check, AllHold, IsFirstFault}
use Rattle.rpki_faults.specs.declared.validation.ValidationError.{ValidationError}
use Rattle.rpki_faults.specs.declared.validation.ValidationError.TheVariants as validating
use Rattle.rpki_certs.specs.Cert.{Certificate, KeptCertificate, CertForm}
use Rattle.rpki_certs.specs.Inspect.{ca_checks}
use Rattle.rpki_certs.specs.Validate.{Validated, ta_validation, ca_validation, ee_validation}
use Rattle.rpki_certs.specs.Validate.{detached_ee_validation, IsAnchorOf, IsValidatedUnder}
use Rattle.rpki_certs.specs.Verify.{Verdict}
use Rattle.rpki_certs.proofs.Valid.{anchor-valid, issued-valid}
use Rattle.rpki_sigobj.specs.Object.{SignedData}
use Rattle.rpki_sigobj.specs.Validate.{object_validation, detached_validation}
use Rattle.rpki_sigobj.specs.Verify.{Digester, object_checks}
use Rattle.rpki_sigobj.proofs.Valid.{published-valid, detached-valid}
use Rattle.rpki_sigobj.specs.Signed.Good.{IsGood}
use Rattle.rpki_sigobj.specs.Signed.Kind as signed
use Rattle.rpki_sigobj.specs.Signed.Process.{validation}
use Rattle.rpki_sigobj.specs.Signed.{Whole}
use Rattle.rpki_certs.specs.Issuer.{BeginsWithCert, OfCert, IsAnchored, IsIssued, Then, Follows}
use Rattle.rpki_certs.specs.Issuer.{MakesIssuer}
use Rattle.rpki_certs.specs.declared.issuer.IssuerError.{IssuerError}
use Rattle.rpki_certs.specs.declared.issuer.IssuerError.TheVariants.{Decode, Validation}
use Rattle.rpki_rsa.specs.Signature.{is_rsa_signature, IsRsaKey}
use Rattle.rpki_rsa.proofs.KeyFacts.{made, key-length}
use Rattle.rpki_rsa.proofs.Verdicts.{signature-test}
use Rattle.rpki_verdicts.proofs.Listed.{key-len}
use Rattle.rpki_verdicts.specs.Lists.{BeginWith, AreCerts}
use Rattle.rpki_verdicts.specs.Listing.{is_listable}
use Rattle.rpki_verdicts.specs.Questions.{Question, says, cert_question, chain_questions}
use Rattle.rpki_verdicts.specs.Questions.{signer_question, check_questions}
use Rattle.rpki_command.specs.Sufficing.{SaysYesToo}

-- ---- keys of good signatures

-- a key is written with a few octets more than its bits have
contents-length : (key : List ℕ) → length (key_contents key) ≤ length key + 22
contents-length key =
    omega (
      arith,
      key-len key _ refl,
      length_value_octets_le BIT_STRING (bit_string_contents key 0),
      length_zero_last key (unused_bits key 0),
    )

key-is-short : (key : List ℕ) (n : ℕ) → IsRsaKey key n → length key < 1000
key-is-short key n h =
    let m = made key n h in
    omega (arith, key-length key _ m.contents, m.contents.most)

-- a key that says yes can be written
key-fits : (key message signature : List ℕ) → is_rsa_signature key message signature ≡ true
    → length (key_contents key) < 2 ^ 32
key-fits key message signature e =
    let s = (signature-test key message signature).0 e in
    omega (arith, contents-length key, key-is-short key s.n s.key_is)

-- so the signature has its line
pub good-has-line : (q : Question) → is_rsa_signature q.key q.message q.signature ≡ true
    → is_listable is_rsa_signature q ≡ true
good-has-line q e =
    and_from (is_rsa_signature q.key q.message q.signature)
    (nat_lt (length (key_contents q.key)) (2 ^ 32)) e
    ((Decides-ltb (length (key_contents q.key)) (2 ^ 32)).1
    (key-fits q.key q.message q.signature e))

-- ---- each of some questions

-- P holds of each of them
abbrev Each : (Question → Type 0) → List Question → Type 0
Each P questions = (q : Question) → Contains questions q → P q

each-head : (P : Question → Type 0) (q : Question) (others : List Question)
    → Each P (q ∷ others) → P q
each-head P q others h = h q (zero, omega arith, refl)

each-tail : (P : Question → Type 0) (q : Question) (others : List Question)
    → Each P (q ∷ others) → Each P others
each-tail P q others h p k = h p (suc k.0, omega (arith, k.1), k.2)

each-at : (P : Question → Type 0) (q : Question) (others : List Question) → P q → Each P others
    → (p : Question) (k : ℕ) → k < length (q ∷ others) → slice_index_or (q ∷ others) k p ≡ p → P p
each-at P q others h each p zero l e = subst P e h
each-at P q others h each p (suc k) l e = each p (k, omega (arith, l), e)

each-cons : (P : Question → Type 0) (q : Question) (others : List Question) → P q
    → Each P others → Each P (q ∷ others)
each-cons P q others h each p k = each-at P q others h each p k.0 k.1 k.2

each-none : (P : Question → Type 0) → Each P []
each-none P p k = absurd (omega (arith, k.1))

-- the questions of a chain are among those of a longer one
chain-front : (P : Question → Type 0) (key : List ℕ) (certs tail : List Certificate)
    → Each P (chain_questions key (certs ++ tail)) → Each P (chain_questions key certs)
chain-front P key [] tail h = each-none P
chain-front P key (c ∷ certs) tail h =
    let q = cert_question key c in
    let others = chain_questions c.tbs.key (certs ++ tail) in
    each-cons P q (chain_questions c.tbs.key certs) (each-head P q others h)
    (chain-front P c.tbs.key certs tail (each-tail P q others h))

-- ---- what is said decides what is checked

-- whatever holds of the checks of a trust anchor's certificate
anchor-as : (P : List (Check ValidationError) → Type 0) (a b : Verdict) (c : Certificate)
    (now : Moment) → says a (cert_question c.tbs.key c) ≡ says b (cert_question c.tbs.key c)
    → P (ta_validation a c now) → P (ta_validation b c now)
unfolding ta_validation
anchor-as P a b c now e h = subst (λ (v : Bool). P (ta_validation (λ k m g. v) c now)) e h

-- whatever holds of those of a CA's
ca-as : (P : List (Check ValidationError) → Type 0) (a b : Verdict) (c : Certificate)
    (issuer : Validated) (now : Moment)
    → says a (cert_question issuer.cert.certificate.tbs.key c)
    ≡ says b (cert_question issuer.cert.certificate.tbs.key c)
    → P (ca_validation a c issuer now) → P (ca_validation b c issuer now)
unfolding ca_validation
ca-as P a b c issuer now e h =
    subst (λ (v : Bool). P (ca_validation (λ k m g. v) c issuer now)) e h

anchor-says : (verdict : Verdict) (c : Certificate) (now : Moment)
    → AllHold (ta_validation verdict c now) → says verdict (cert_question c.tbs.key c) ≡ true
anchor-says verdict c now h = ((anchor-valid verdict c now).0 h).1.signed

ca-says : (verdict : Verdict) (c : Certificate) (issuer : Validated) (now : Moment)
    → AllHold (ca_validation verdict c issuer now)
    → says verdict (cert_question issuer.cert.certificate.tbs.key c) ≡ true
unfolding ca_validation
ca-says verdict c issuer now h =
    ((issued-valid (ca_checks c.tbs) verdict c issuer now).0 h).1.signed

-- ---- one file of a certificate

module _ (file : List ℕ) (cert : Certificate) (begins : BeginWith (CertForm Der) file cert) where
  the-cert : (P : Certificate → Type 0) (h : BeginsWithCert file P) → h.cert ≡ cert
  the-cert P h = (begins.1.only h.cert h.rest h.front.found).0

  -- what is answered by checks, where whatever holds of them holds of others
  module _ (x y : Certificate → List (Check ValidationError))
      (IsValid : KeptCertificate → Validated → Type 0)
      (keeps : (P : List (Check ValidationError) → Type 0) → P (x cert) → P (y cert)) where
    moved : (P : List (Check ValidationError) → Type 0) (c : Certificate) → c ≡ cert → P (x c)
        → P (y c)
    moved P c e h = subst (λ (d : Certificate). P (y d)) (sym e)
        (keeps P (subst (λ (d : Certificate). P (x d)) e h))

    fault-as : (fault : ValidationError) (c : Certificate) → c ≡ cert
        → (fault ≡ validating.Memory) ⊎ IsFirstFault (x c) fault
        → (fault ≡ validating.Memory) ⊎ IsFirstFault (y c) fault
    fault-as fault c e (inl m) = inl m
    fault-as fault c e (inr h) =
        inr (moved (λ (checks : List (Check ValidationError)). IsFirstFault checks fault) c e h)

    of-cert-as : (result : Result Validated IssuerError) → OfCert x IsValid file result
        → OfCert y IsValid file result
    of-cert-as (Ok v) h = record {
      cert = h.cert;
      rest = h.rest;
      front = h.front;
      holds = (
        moved (λ (checks : List (Check ValidationError)). AllHold checks) h.cert (the-cert _ h)
            h.holds.0,
        h.holds.1,
      );
    }
    of-cert-as (Err (Decode e)) h = h
    of-cert-as (Err (Validation fault)) h = record {
      cert = h.cert;
      rest = h.rest;
      front = h.front;
      holds = fault-as fault h.cert (the-cert _ h) h.holds;
    }

  module _ (now : Moment) where
    anchored-as : (a b : Verdict)
        → says a (cert_question cert.tbs.key cert) ≡ says b (cert_question cert.tbs.key cert)
        → (result : Result Validated IssuerError) → IsAnchored a now file result
        → IsAnchored b now file result
    anchored-as a b e result h = of-cert-as (λ c. ta_validation a c now)
        (λ c. ta_validation b c now) IsAnchorOf (λ P. anchor-as P a b cert now e) result h

    anchored-cert : (a : Verdict) (v : Validated) → IsAnchored a now file (Ok v)
        → v.cert.certificate ≡ cert
    unfolding IsAnchorOf
    anchored-cert a v h = ap (λ (k : KeptCertificate). k.certificate) h.holds.1.0 ∙ the-cert _ h

    anchored-says : (a : Verdict) (v : Validated) → IsAnchored a now file (Ok v)
        → says a (cert_question cert.tbs.key cert) ≡ true
    anchored-says a v h =
        subst (λ (c : Certificate). says a (cert_question c.tbs.key c) ≡ true) (the-cert _ h)
        (anchor-says a h.cert now h.holds.0)

    module _ (issuer : Validated) where
      issued-as : (a b : Verdict)
          → says a (cert_question issuer.cert.certificate.tbs.key cert)
          ≡ says b (cert_question issuer.cert.certificate.tbs.key cert)
          → (result : Result Validated IssuerError) → IsIssued a now issuer file result
          → IsIssued b now issuer file result
      issued-as a b e result h = of-cert-as (λ c. ca_validation a c issuer now)
          (λ c. ca_validation b c issuer now) (λ k v. IsValidatedUnder k issuer v)
          (λ P. ca-as P a b cert issuer now e) result h

      issued-cert : (a : Verdict) (v : Validated) → IsIssued a now issuer file (Ok v)
          → v.cert.certificate ≡ cert
      unfolding IsValidatedUnder
      issued-cert a v h = ap (λ (k : KeptCertificate). k.certificate) h.holds.1.0 ∙ the-cert _ h

      issued-says : (a : Verdict) (v : Validated) → IsIssued a now issuer file (Ok v)
          → says a (cert_question issuer.cert.certificate.tbs.key cert) ≡ true
      issued-says a v h =
          subst (λ (c : Certificate).
          says a (cert_question issuer.cert.certificate.tbs.key c) ≡ true) (the-cert _ h)
          (ca-says a h.cert issuer now h.holds.0)

-- ---- a chain of them

abbrev key_of : Validated → List ℕ
key_of v = v.cert.certificate.tbs.key

-- what follows each answer
then-as : (N M : Validated → Type 0) (next result : Result Validated IssuerError)
    → ((v : Validated) → next ≡ Ok v → N v → M v) → Then N next result → Then M next result
then-as N M (Ok v) result more h = more v refl h
then-as N M (Err fault) result more h = h

-- where it ends with an issuer, there was one before
went-on : (N : Validated → Type 0) (next : Result Validated IssuerError) (issuer : Validated)
    → Then N next (Ok issuer) → (v : Validated) × (next ≡ Ok v) × N v
went-on N (Ok v) issuer h = (v, refl, h)
went-on N (Err fault) issuer h = absurd cc

-- questions of a chain after this certificate are asked of its key
of-key : (P : Question → Type 0) (v : Validated) (cert : Certificate) (certs : List Certificate)
    → v.cert.certificate ≡ cert → Each P (chain_questions cert.tbs.key certs)
    → Each P (chain_questions (key_of v) certs)
of-key P v cert certs e h =
    subst (λ (c : Certificate). Each P (chain_questions c.tbs.key certs)) (sym e) h

module _ (now : Moment) where
  follows-as : (a b : Verdict) (files : List (List ℕ)) (certs : List Certificate)
      (before : Validated) (result : Result Validated IssuerError) → AreCerts files certs
      → Each (λ q. says a q ≡ says b q) (chain_questions (key_of before) certs)
      → Follows a now before files result → Follows b now before files result
  follows-as a b [] [] before result are each h = h
  follows-as a b [] (cert ∷ certs) before result are each h = absurd are
  follows-as a b (file ∷ files) [] before result are each h = absurd are
  follows-as a b (file ∷ files) (cert ∷ certs) before result are each h =
      let P : Question → Type 0 = λ q. says a q ≡ says b q in
      let q = cert_question (key_of before) cert in
      let others = chain_questions cert.tbs.key certs in (
        h.0,
        issued-as file cert are.0 now before a b (each-head P q others each) h.0 h.1,
        then-as (λ v. Follows a now v files result) (λ v. Follows b now v files result) h.0 result
            (λ v is rest. follows-as a b files certs v result are.1
            (of-key P v cert certs (issued-cert file cert are.0 now before a v
            (subst (λ (r : Result Validated IssuerError). IsIssued a now before file r) is h.1))
            (each-tail P q others each)) rest) h.2,
      )

  module _ (a : Verdict) (issuer : Validated) where
    follows-says : (files : List (List ℕ)) (certs : List Certificate) (before : Validated)
        → AreCerts files certs → Follows a now before files (Ok issuer)
        → Each (λ q. says a q ≡ true) (chain_questions (key_of before) certs)
    follows-says [] [] before are h = each-none (λ q. says a q ≡ true)
    follows-says [] (cert ∷ certs) before are h = absurd are
    follows-says (file ∷ files) [] before are h = absurd are
    follows-says (file ∷ files) (cert ∷ certs) before are h =
        let P : Question → Type 0 = λ q. says a q ≡ true in
        let w = went-on (λ v. Follows a now v files (Ok issuer)) h.0 issuer h.2 in
        let i = subst (λ (r : Result Validated IssuerError). IsIssued a now before file r) w.1 h.1
        in
        each-cons P (cert_question (key_of before) cert) (chain_questions cert.tbs.key certs)
        (issued-says file cert are.0 now before a w.0 i)
        (subst (λ (c : Certificate). Each P (chain_questions c.tbs.key certs))
        (issued-cert file cert are.0 now before a w.0 i)
        (follows-says files certs w.0 are.1 w.2))

    -- what is asked after the chain is asked of the key of its last certificate
    follows-last : (P : Question → Type 0) (tail : List Certificate) (files : List (List ℕ))
        (certs : List Certificate) (before : Validated) → AreCerts files certs
        → Follows a now before files (Ok issuer)
        → Each P (chain_questions (key_of before) (certs ++ tail))
        → Each P (chain_questions (key_of issuer) tail)
    follows-last P tail [] [] before are h each =
        let e : issuer ≡ before = cc in
        subst (λ (v : Validated). Each P (chain_questions (key_of v) tail)) (sym e) each
    follows-last P tail [] (cert ∷ certs) before are h each = absurd are
    follows-last P tail (file ∷ files) [] before are h each = absurd are
    follows-last P tail (file ∷ files) (cert ∷ certs) before are h each =
        let w = went-on (λ v. Follows a now v files (Ok issuer)) h.0 issuer h.2 in
        let i = subst (λ (r : Result Validated IssuerError). IsIssued a now before file r) w.1 h.1
        in
        follows-last P tail files certs w.0 are.1 w.2
        (of-key P w.0 cert (certs ++ tail) (issued-cert file cert are.0 now before a w.0 i)
        (each-tail P (cert_question (key_of before) cert)
        (chain_questions cert.tbs.key (certs ++ tail)) each))

-- ---- an issuer

module _ (now : Moment) (anchor : List ℕ) (chain : List (List ℕ)) (first : Certificate)
    (others : List Certificate) (certs : AreCerts (anchor ∷ chain) (first ∷ others)) where
  makes-as : (a b : Verdict) → Each (λ q. says a q ≡ says b q)
      (chain_questions first.tbs.key (first ∷ others)) → (result : Result Validated IssuerError)
      → MakesIssuer a now anchor chain result → MakesIssuer b now anchor chain result
  makes-as a b each result h =
      let P : Question → Type 0 = λ q. says a q ≡ says b q in
      let q = cert_question first.tbs.key first in
      let rest = chain_questions first.tbs.key others in (
        h.0,
        anchored-as anchor first certs.0 now a b (each-head P q rest each) h.0 h.1,
        then-as (λ v. Follows a now v chain result) (λ v. Follows b now v chain result) h.0 result
            (λ v is more. follows-as now a b chain others v result certs.1
            (of-key P v first others (anchored-cert anchor first certs.0 now a v
            (subst (λ (r : Result Validated IssuerError). IsAnchored a now anchor r) is h.1))
            (each-tail P q rest each)) more) h.2,
      )

  -- each of them is signed
  makes-says : (a : Verdict) (issuer : Validated) → MakesIssuer a now anchor chain (Ok issuer)
      → Each (λ q. says a q ≡ true) (chain_questions first.tbs.key (first ∷ others))
  makes-says a issuer made =
      let P : Question → Type 0 = λ q. says a q ≡ true in
      let w = went-on (λ v. Follows a now v chain (Ok issuer)) made.0 issuer made.2 in
      let i = subst (λ (r : Result Validated IssuerError). IsAnchored a now anchor r) w.1 made.1 in
      each-cons P (cert_question first.tbs.key first) (chain_questions first.tbs.key others)
      (anchored-says anchor first certs.0 now a w.0 i)
      (subst (λ (c : Certificate). Each P (chain_questions c.tbs.key others))
      (anchored-cert anchor first certs.0 now a w.0 i)
      (follows-says now a issuer chain others w.0 certs.1 w.2))

-- ---- an object

-- whatever holds of the checks of an object
valid-as : (P : List (Check ValidationError) → Type 0) (published : Bool) (digest : Digester)
    (a b : Verdict) (s : SignedData) (issuer : Validated) (now : Moment)
    → says a (cert_question (key_of issuer) s.cert) ≡ says b (cert_question (key_of issuer) s.cert)
    → says a (signer_question s) ≡ says b (signer_question s)
    → P (validation published digest a s issuer now)
    → P (validation published digest b s issuer now)
unfolding object_validation detached_validation ee_validation detached_ee_validation
valid-as P true digest a b s issuer now e f h =
    subst (λ (v : Bool).
    P (object_checks digest (λ k m g. v) s ++ ee_validation b s.cert issuer now)) f
    (subst (λ (v : Bool).
    P (object_checks digest a s ++ ee_validation (λ k m g. v) s.cert issuer now)) e h)
valid-as P false digest a b s issuer now e f h =
    subst (λ (v : Bool).
    P (object_checks digest (λ k m g. v) s ++ detached_ee_validation b s.cert issuer now)) f
    (subst (λ (v : Bool).
    P (object_checks digest a s ++ detached_ee_validation (λ k m g. v) s.cert issuer now)) e h)

valid-says : (published : Bool) (digest : Digester) (verdict : Verdict) (s : SignedData)
    (issuer : Validated) (now : Moment)
    → AllHold (validation published digest verdict s issuer now)
    → (says verdict (cert_question (key_of issuer) s.cert) ≡ true)
    × (says verdict (signer_question s) ≡ true)
valid-says true digest verdict s issuer now h =
    let v = (published-valid digest verdict s issuer now).0 h in (v.2.signed, v.0.signed)
valid-says false digest verdict s issuer now h =
    let v = (detached-valid digest verdict s issuer now).0 h in (v.2.signed, v.0.signed)

module _ {X : Type 0} (kind : signed.ObjectKind X) (mode : Mode) (digest : Digester)
    (issuer : Validated) (now : Moment) (o : Whole X) (v : Validated) where
  good-as : (a b : Verdict)
      → says a (cert_question (key_of issuer) o.object.signed.cert)
      ≡ says b (cert_question (key_of issuer) o.object.signed.cert)
      → says a (signer_question o.object.signed) ≡ says b (signer_question o.object.signed)
      → IsGood kind mode digest a issuer now o v → IsGood kind mode digest b issuer now o v
  good-as a b e f h = record {
    valid = valid-as (λ (checks : List (Check ValidationError)). AllHold checks) kind.is_published
        digest a b o.object.signed issuer now e f h.valid;
    certificate = h.certificate;
    covered = h.covered;
  }

-- ---- a check

module _ (now : Moment) (anchor : List ℕ) (chain : List (List ℕ)) (first : Certificate)
    (others : List Certificate) (s : SignedData)
    (certs : AreCerts (anchor ∷ chain) (first ∷ others)) where
  abbrev Asked : List Question
  Asked = check_questions first others s

  -- the questions of the certificates
  of-certs : (P : Question → Type 0) → Each P Asked
      → Each P (chain_questions first.tbs.key (first ∷ (others ++ (s.cert ∷ []))))
  of-certs P h q k = h q (Contains-append_left
      (chain_questions first.tbs.key (first ∷ (others ++ (s.cert ∷ [])))) (signer_question s ∷ [])
      q k)

  of-issuer : (P : Question → Type 0) → Each P Asked
      → Each P (chain_questions first.tbs.key (first ∷ others))
  of-issuer P h = chain-front P first.tbs.key (first ∷ others) (s.cert ∷ []) (of-certs P h)

  of-signer : (P : Question → Type 0) → Each P Asked → P (signer_question s)
  of-signer P h = h (signer_question s) (Contains-push
      (chain_questions first.tbs.key (first ∷ (others ++ (s.cert ∷ [])))) (signer_question s))

  -- where the second verdict says yes too, an issuer and a good object stay
  module _ (a b : Verdict) (too : SaysYesToo a b Asked) (issuer : Validated)
      (made : MakesIssuer a now anchor chain (Ok issuer)) where
    pub issuer-too : MakesIssuer b now anchor chain (Ok issuer)
    issuer-too =
        makes-as now anchor chain first others certs a b (λ q k.
        let yes = makes-says now anchor chain first others certs a issuer made q k in
        yes ∙ sym (of-issuer (λ p. says a p ≡ true → says b p ≡ true) too q k yes))
        (Ok issuer) made

    -- of the certificate in the object the key of the issuer is asked
    of-ee : (P : Question → Type 0) → Each P Asked → P (cert_question (key_of issuer) s.cert)
    of-ee P h =
        let w = went-on (λ v. Follows a now v chain (Ok issuer)) made.0 issuer made.2 in
        let i = subst (λ (r : Result Validated IssuerError). IsAnchored a now anchor r) w.1 made.1
        in
        each-head P (cert_question (key_of issuer) s.cert) []
        (follows-last now a issuer P (s.cert ∷ []) chain others w.0 certs.1 w.2
        (of-key P w.0 first (others ++ (s.cert ∷ []))
        (anchored-cert anchor first certs.0 now a w.0 i)
        (each-tail P (cert_question first.tbs.key first)
        (chain_questions first.tbs.key (others ++ (s.cert ∷ []))) (of-certs P h))))

    pub good-too : {X : Type 0} (kind : signed.ObjectKind X) (mode : Mode) (digest : Digester)
        (o : Whole X) (v : Validated) → o.object.signed ≡ s
        → IsGood kind mode digest a issuer now o v → IsGood kind mode digest b issuer now o v
    good-too kind mode digest o v same h =
        let Q : Question → Type 0 = λ p. says a p ≡ true → says b p ≡ true in
        let yes = valid-says kind.is_published digest a o.object.signed issuer now h.valid in
        let cert = subst (λ (d : SignedData). Q (cert_question (key_of issuer) d.cert)) (sym same)
        (of-ee Q too) in
        let signer = subst (λ (d : SignedData). Q (signer_question d)) (sym same)
        (of-signer Q too) in
        good-as kind mode digest issuer now o v a b (yes.0 ∙ sym (cert yes.0))
        (yes.1 ∙ sym (signer yes.1)) h
