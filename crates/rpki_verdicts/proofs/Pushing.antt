-- A text that grows by the lines of certificates, one by one.
use Rattle.std.proofs.Common.{◌≡◌, ℕ, zero, suc, ◌+◌, ◌<◌, List, [], ◌∷◌, ◌++◌, length, drop}
use Rattle.std.proofs.Common.{get_or}
use Rattle.std.proofs.Common.{Result, Ok, Err, arith, refl, sym, subst, ap, ◌∙◌}
use Rattle.std.proofs.Common.{append_assoc}
use Rattle.std.specs.Prelude.{OnOk}
use Rattle.std.specs.declared.alloc.AllocError.{AllocError}
use Rattle.std.proofs.lemmas.Grind.{flat_map-append}
use Rattle.std.proofs.lemmas.List.{append-nil}
use Rattle.rpki_der.specs.declared.error.DecodeError.{DecodeError}
use Rattle.rpki_der.specs.declared.error.DecodeError.TheVariants.{Malformed, Content, Memory}
use Rattle.rpki_der.specs.declared.mode.Mode.{Mode}
use Rattle.rpki_der.specs.declared.mode.Mode.TheVariants.{Der}
use Rattle.rpki_der.specs.Grammar.{HasNoFront}
use Rattle.rpki_der.specs.Read.Reads.{Refuses}
use Rattle.rpki_certs.specs.Cert.{Certificate, KeptCertificate, CertForm}
use Rattle.rpki_certs.specs.Verify.{Verdict}
use Rattle.rpki_sigobj.specs.Object.{SignedData, SignedForm}
use Rattle.rpki_verdicts.specs.Listing.{good_line, listing}
use Rattle.rpki_verdicts.specs.Lists.{BeginWith, AreCerts, AreNotAllCerts, IsListingOf, IsKept}
use Rattle.rpki_verdicts.specs.Lists.{PushesCert, PushesChain}
use Rattle.rpki_verdicts.specs.Lists.{PushesCerts, PushesObject, chain_lines}
use Rattle.rpki_verdicts.specs.Questions.{cert_question, chain_questions, signer_question}
use Rattle.rpki_verdicts.specs.Questions.{check_questions, last_of}

-- What is left of the files makes the lines that are missing, and where it has no certificates, all
-- of the files have none.
pub record GoesOn (verdict : Verdict) (first : Certificate) (files : List (List ℕ)) (old : List ℕ)
    (last : Certificate) (left : List (List ℕ)) (text : List ℕ) : Type 0 where
  pub grown : (end : List Certificate) → AreCerts left end
      → (certs : List Certificate) × AreCerts files certs
      × ((tail : List Certificate) → old ++ chain_lines verdict first.tbs.key (certs ++ tail)
      ≡ text ++ chain_lines verdict last.tbs.key (end ++ tail))
      × (last_of first certs ≡ last_of last end)
  pub none : AreNotAllCerts left → AreNotAllCerts files

pub begun : (verdict : Verdict) (first : Certificate) (files : List (List ℕ)) (old : List ℕ)
    → GoesOn verdict first files old first files old
begun verdict first files old = record {
  grown = λ end are. (end, are, λ tail. refl, refl);
  none = λ absent. absent;
}

no-certs : (file : List ℕ) (left : List (List ℕ)) → HasNoFront (CertForm Der) file
    → AreNotAllCerts (file ∷ left)
no-certs file left absent [] are = are
no-certs file left absent (cert ∷ certs) are = absent cert are.0.0 are.0.1.found

none-after : (file : List ℕ) (left : List (List ℕ)) → AreNotAllCerts left
    → AreNotAllCerts (file ∷ left)
none-after file left absent [] are = are
none-after file left absent (cert ∷ certs) are = absent certs are.1

module _ (verdict : Verdict) (first : Certificate) (files : List (List ℕ)) (old : List ℕ)
    (last : Certificate) (file : List ℕ) (left : List (List ℕ)) (text : List ℕ)
    (goes : GoesOn verdict first files old last (file ∷ left) text) where
  pub one-pushed : (cert : KeptCertificate) (new : List ℕ)
      → PushesCert verdict (λ c. last.tbs.key) file text (Ok cert) new
      → GoesOn verdict first files old cert.certificate left new
  one-pushed cert new pushed = record {
    grown = λ end are.
        let h = goes.grown (cert.certificate ∷ end) (pushed.0, are) in (
          h.0,
          h.1,
          λ tail.
              let e = h.2 tail in let n = pushed.1 in
              e ∙ sym (rw n (append_assoc text _ _)),
          h.3,
        );
    none = λ absent. goes.none (none-after file left absent);
  }

  pub one-refused : (e : DecodeError) → Refuses e (HasNoFront (CertForm Der) file)
      → Refuses e (AreNotAllCerts files)
  one-refused Memory absent = tt
  one-refused Malformed absent = goes.none (no-certs file left absent)
  one-refused (Content fault) absent = goes.none (no-certs file left absent)

pub all-pushed : (verdict : Verdict) (first : Certificate) (files : List (List ℕ)) (old : List ℕ)
    (last : KeptCertificate) (text : List ℕ)
    → GoesOn verdict first files old last.certificate [] text
    → PushesChain verdict first files old (Ok last) text
all-pushed verdict first files old last text goes = goes.grown [] tt

-- ---- by their places

pub left-cons : (chain : List (List ℕ)) (i : ℕ) (d : List ℕ) → i < length chain
    → drop i chain ≡ get_or chain i d ∷ drop (suc i) chain
left-cons [] i d l = absurd (omega (arith, l))
left-cons (x ∷ xs) zero d l = refl
left-cons (x ∷ xs) (suc i) d l = left-cons xs i d (omega (arith, l))

pub none-left : (chain : List (List ℕ)) (i : ℕ) → (i < length chain → ⊥)
    → drop i chain ≡ []
none-left [] zero n = refl
none-left [] (suc i) n = refl
none-left (x ∷ xs) zero n = absurd (n (omega arith))
none-left (x ∷ xs) (suc i) n = none-left xs i (λ l. n (omega (arith, l)))

-- the files that are left are this one and those that are left after it
pub next-left : (verdict : Verdict) (first : Certificate) (files : List (List ℕ)) (old : List ℕ)
    (last : Certificate) (text : List ℕ) (chain : List (List ℕ)) (i : ℕ) (d : List ℕ)
    → i < length chain → GoesOn verdict first files old last (drop i chain) text
    → GoesOn verdict first files old last
    (get_or chain i d ∷ drop (i + 1) chain) text
next-left verdict first files old last text chain i d l goes =
    let same : suc i ≡ i + 1 = omega arith in
    subst (λ (j : ℕ). GoesOn verdict first files old last
    (get_or chain i d ∷ drop j chain) text) same
    (subst (λ (left : List (List ℕ)). GoesOn verdict first files old last left text)
    (left-cons chain i d l) goes)

-- ---- one certificate

-- a certificate is kept, and its line is there, unless memory ran out
pub kept-pushes : (verdict : Verdict) (key_of : Certificate → List ℕ) (file old new : List ℕ)
    (cert : KeptCertificate) (key : List ℕ) (pushed : Result (Unit {0}) AllocError)
    (result : Result KeptCertificate DecodeError)
    → BeginWith (CertForm Der) file cert.certificate → key ≡ key_of cert.certificate
    → OnOk pushed (new ≡ old ++ good_line verdict (cert_question key cert.certificate))
    → IsKept cert pushed result → PushesCert verdict key_of file old result new
kept-pushes verdict key_of file old new cert key (Ok u) result begins same grown kept =
    subst (λ (r : Result KeptCertificate DecodeError). PushesCert verdict key_of file old r new)
    (sym kept) (
      begins,
      subst (λ (k : List ℕ). new ≡ old ++ good_line verdict (cert_question k cert.certificate)) same
          grown,
    )
kept-pushes verdict key_of file old new cert key (Err e) result begins same grown kept =
    subst (λ (r : Result KeptCertificate DecodeError). PushesCert verdict key_of file old r new)
    (sym kept) tt

-- ---- the whole

pub anchor-refused : (e : DecodeError) (file : List ℕ) (left : List (List ℕ))
    → Refuses e (HasNoFront (CertForm Der) file) → Refuses e (AreNotAllCerts (file ∷ left))
anchor-refused Memory file left absent = tt
anchor-refused Malformed file left absent = no-certs file left absent
anchor-refused (Content fault) file left absent = no-certs file left absent

chain-refused : (e : DecodeError) (file : List ℕ) (left : List (List ℕ))
    → Refuses e (AreNotAllCerts left) → Refuses e (AreNotAllCerts (file ∷ left))
chain-refused Memory file left absent = tt
chain-refused Malformed file left absent = none-after file left absent
chain-refused (Content fault) file left absent = none-after file left absent

module _ (verdict : Verdict) (anchor : List ℕ) (chain : List (List ℕ)) (old text : List ℕ)
    (first : KeptCertificate)
    (pushed : PushesCert verdict (λ c. c.tbs.key) anchor old (Ok first) text) where
  pub certs-pushed : (result : Result KeptCertificate DecodeError) (new : List ℕ)
      → PushesChain verdict first.certificate chain text result new
      → PushesCerts verdict anchor chain old result new
  certs-pushed (Ok last) new h = (
    first.certificate,
    h.0,
    (pushed.0, h.1),
    λ tail.
        sym (append_assoc old (good_line verdict (cert_question first.certificate.tbs.key
        first.certificate)) (chain_lines verdict first.certificate.tbs.key (h.0 ++ tail)))
        ∙ (ap (λ (t : List ℕ). t ++ chain_lines verdict first.certificate.tbs.key (h.0 ++ tail))
        (sym pushed.1) ∙ h.2 tail),
    h.3,
  )
  certs-pushed (Err e) new absent = chain-refused e anchor chain absent

module _ (mode : Mode) (verdict : Verdict) (object anchor : List ℕ) (chain : List (List ℕ))
    (last : KeptCertificate) (text : List ℕ)
    (pushed : PushesCerts verdict anchor chain [] (Ok last) text) where
  ends : (first : Certificate) (others : List Certificate) (s : SignedData) (new : List ℕ)
      → chain_lines verdict first.tbs.key (first ∷ (others ++ (s.cert ∷ [])))
      ≡ text ++ chain_lines verdict last.certificate.tbs.key (s.cert ∷ [])
      → new ≡ text ++ (good_line verdict (cert_question last.certificate.tbs.key s.cert)
      ++ good_line verdict (signer_question s))
      → new ≡ listing verdict (check_questions first others s)
  ends first others s new e n =
      let a = good_line verdict (cert_question last.certificate.tbs.key s.cert) in
      let b = good_line verdict (signer_question s) in
      n
      ∙ sym (flat_map-append (good_line verdict)
      (chain_questions first.tbs.key (first ∷ (others ++ (s.cert ∷ []))))
      (signer_question s ∷ [])
      ∙ ap (λ (t : List ℕ). t ++ (b ++ [])) e
      ∙ ap (λ (t : List ℕ). (text ++ (a ++ [])) ++ t) (append-nil b)
      ∙ ap (λ (t : List ℕ). (text ++ t) ++ b) (append-nil a)
      ∙ append_assoc text a b)

  pub listing-made : (new : List ℕ)
      → PushesObject mode verdict last.certificate.tbs.key object text (Ok tt) new
      → IsListingOf mode verdict object anchor chain new
  listing-made new h = record {
    first = pushed.0;
    others = pushed.1;
    signed = h.0;
    certs = pushed.2;
    front = h.1;
    whole = ends pushed.0 pushed.1 h.0.signed new (pushed.3 (h.0.signed.cert ∷ [])) h.2;
  }

  pub object-refused : (e : DecodeError) (new : List ℕ)
      → PushesObject mode verdict last.certificate.tbs.key object text (Err e) new
      → ((certs : List Certificate) × AreCerts (anchor ∷ chain) certs)
      × Refuses e (HasNoFront (SignedForm mode) object)
  object-refused e new absent = ((pushed.0 ∷ pushed.1, pushed.2), absent)
