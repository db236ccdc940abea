-- What handles say is what the attestation says.
use Rattle.std.proofs.Common.{◌≡◌, List, [], ◌∷◌, Bool, map, All, refl, sym, ap, ◌∙◌, subst}
use Rattle.std.specs.Prelude.{filter, not}
use Rattle.std.proofs.lemmas.List.Elements.{All-nil, All-cons, All-weaker}
use Rattle.std.proofs.lemmas.Simd.{map-map}
use Rattle.rpki_basics.specs.Moment.{Moment}
use Rattle.rpki_faults.specs.Checks.{IsFirstFault}
use Rattle.rpki_faults.specs.declared.validation.ValidationError.{ValidationError}
use Rattle.rpki_certs.specs.Cert.{Certificate, KeptCertificate}
use Rattle.rpki_certs.specs.Verify.{Verdict}
use Rattle.rpki_sigobj.specs.Verify.{Digester}
use Rattle.rpki_multi.specs.Attestation.{KeptWhole, whole_of}
use Rattle.rpki_paths.specs.declared.acceptance.AcceptFault.{AcceptFault}
use Rattle.rpki_paths.specs.declared.carried.Attestation.{Attestation}
use Rattle.rpki_paths.specs.declared.walker.Path.{Path}
use Rattle.rpki_paths.specs.Cert.{IsIn}
use Rattle.rpki_paths.specs.Heads.{HeadsFrom, IsFrom}
use Rattle.rpki_paths.specs.Pairing.{Carried}
use Rattle.rpki_paths.proofs.Heads.{all-in}
use Rattle.rpki_paths.proofs.Mapping.{in-image}
use Rattle.rpki_paths.specs.Sorting.{cas_of, ees_of}
use Rattle.rpki_paths.specs.Accepting.{WhyNot, carried_of}
use Rattle.rpki_rta.specs.Carried.{IsValid, carried_checks, is_of_ca, seen_alone, seen_crl}
use Rattle.rpki_rta.specs.Carried.{seen_signer}
use Rattle.rpki_rta.specs.Granted.{carried_by}
use Rattle.rpki_rta.specs.Handles.{unchecked_view, crl_of, signer_of}
use Rattle.rpki_rta.specs.Refused.{WhyNotAccepted}
use Rattle.rpki_rta.specs.Begun.{HaveHandles, IsHandle}
use Rattle.rpki_rta.specs.declared.carried.Carried.{Carried as Head}
use Rattle.rpki_rta.specs.declared.carried.CarriedCrl.{CarriedCrl}
use Rattle.rpki_rta.specs.declared.unchecked.UncheckedCert.{UncheckedCert}
use Rattle.rpki_rta.specs.declared.signers.Signer.{Signer as Handle}
use Rattle.rpki_rta.proofs.Along.{all-along, seen-along, why-along}

carried-alike : (a b : Carried) → a.subject_keys ≡ b.subject_keys → a.signers ≡ b.signers
    → a.ees ≡ b.ees → a.cas ≡ b.cas → a.crls ≡ b.crls → a ≡ b
carried-alike a b keys signers ees cas crls =
    ap (λ l. record a { subject_keys = l }) keys
    ∙ ap (λ l. record a { subject_keys = b.subject_keys; signers = l }) signers
    ∙ ap (λ l. record b { ees = l; cas = a.cas; crls = a.crls }) ees
    ∙ ap (λ l. record b { cas = l; crls = a.crls }) cas
    ∙ ap (λ l. record b { crls = l }) crls

module _ {C : Type 0} (says : C → Verdict) (crypto : C) (now : Moment) where
  -- the certificate has this cryptography and this moment
  abbrev IsHere : UncheckedCert C → Type 0
  IsHere x = (x.crypto.now ≡ crypto) × (x.now.now ≡ now)

  abbrev cert_in : UncheckedCert C → Certificate
  cert_in x = x.cert.now.certificate

  -- unchecked certificates that are seen with one cryptography and one moment
  are-here : (es : List (UncheckedCert C)) (cs : List KeptCertificate)
      → map unchecked_view es ≡ map (λ c. (c.certificate, (crypto, now))) cs → All IsHere es
  are-here [] cs e = All-nil IsHere
  are-here (x ∷ es) [] e = absurd cc
  are-here (x ∷ es) (c ∷ cs) e =
      let head : unchecked_view x ≡ (c.certificate, (crypto, now)) = cc in
      let tail : map unchecked_view es ≡ map (λ c. (c.certificate, (crypto, now))) cs = cc in
      All-cons IsHere x es (ap (λ p. p.1.0) head, ap (λ p. p.1.1) head) (are-here es cs tail)

  certs-here : (es : List (UncheckedCert C)) (cs : List KeptCertificate)
      → map unchecked_view es ≡ map (λ c. (c.certificate, (crypto, now))) cs
      → map cert_in es ≡ map (λ c. c.certificate) cs
  certs-here es cs e =
      sym (map-map (λ p. p.0) unchecked_view es) ∙ ap (map (λ p. p.0)) e
      ∙ map-map (λ p. p.0) (λ (c : KeptCertificate). (c.certificate, (crypto, now))) cs

  valid-here : (x : UncheckedCert C) → IsHere x → IsValid x.cert.now.certificate.tbs x.now.now
      → IsValid (cert_in x).tbs now
  valid-here x p h = subst (λ m. IsValid x.cert.now.certificate.tbs m) p.1 h

  valid-there : (x : UncheckedCert C) → IsHere x → IsValid (cert_in x).tbs now
      → IsValid x.cert.now.certificate.tbs x.now.now
  valid-there x p h = subst (λ m. IsValid x.cert.now.certificate.tbs m) (sym p.1) h

  because-here : (x : UncheckedCert C) (c : ValidationError) → IsHere x
      → IsFirstFault (carried_checks x.cert.now.certificate.tbs x.now.now) c
      → IsFirstFault (carried_checks (cert_in x).tbs now) c
  because-here x c p h =
      subst (λ m. IsFirstFault (carried_checks x.cert.now.certificate.tbs m) c) p.1 h

  seen-here : (x : UncheckedCert C) → IsHere x
      → seen_alone (says x.crypto.now) x.cert.now.certificate ≡ seen_alone (says crypto) (cert_in x)
  seen-here x p = ap (λ k. seen_alone (says k) x.cert.now.certificate) p.0

  module _ (r : KeptWhole) (es : List (UncheckedCert C))
      (e : map unchecked_view es ≡ map (λ c. (c.certificate, (crypto, now))) r.signed.certs) where
    pub heads-here : (paths : List (Path (Head C)))
        → HeadsFrom (λ x c. (c.cert.now ≡ x.cert.now) × (c.crypto.now ≡ x.crypto.now)
        × (c.now ≡ x.now.now)) (λ c d. (d.cert.now ≡ c.cert.now) × (d.crypto.now ≡ c.crypto.now)
        × (d.now ≡ c.now)) es paths
        → HaveHandles crypto now (whole_of r) paths
    heads-here paths =
        All-weaker (λ (p : Path (Head C)). IsFrom (λ (x : UncheckedCert C) (c : Head C).
        (c.cert.now ≡ x.cert.now) × (c.crypto.now ≡ x.crypto.now) × (c.now ≡ x.now.now))
        (λ (c d : Head C). (d.cert.now ≡ c.cert.now) × (d.crypto.now ≡ c.crypto.now)
        × (d.now ≡ c.now)) es p.head)
        (λ (p : Path (Head C)). IsHandle crypto now (whole_of r) p.head)
        (λ p h.
        (let here = all-in IsHere es h.candidate (are-here es r.signed.certs e) h.is_in in
        record {
          carried = subst (λ (k : KeptCertificate). IsIn k.certificate (whole_of r).signed.certs)
              (sym (h.is_same.0 ∙ h.admits_it.0))
              (subst (λ l. IsIn (cert_in h.candidate) l) (certs-here es r.signed.certs e)
              (in-image cert_in es h.candidate h.is_in));
          of_crypto = h.is_same.1 ∙ h.admits_it.1 ∙ here.0;
          of_now = h.is_same.2 ∙ h.admits_it.2 ∙ here.1;
        })) paths

    pub good-here : All (λ x. IsValid x.cert.now.certificate.tbs x.now.now) es
        → All (λ c. IsValid c.tbs now) (whole_of r).signed.certs
    good-here all =
        subst (λ l. All (λ c. IsValid c.tbs now) l) (certs-here es r.signed.certs e)
        (all-along cert_in IsHere (λ x. IsValid x.cert.now.certificate.tbs x.now.now)
        (λ c. IsValid c.tbs now) valid-here es (are-here es r.signed.certs e) all)

    pub why-here : (a : Carried) (fault : AcceptFault ValidationError)
        → WhyNot (λ x. IsValid x.cert.now.certificate.tbs x.now.now)
        (λ x fault. IsFirstFault (carried_checks x.cert.now.certificate.tbs x.now.now) fault)
        (λ x. seen_alone (says x.crypto.now) x.cert.now.certificate)
        (λ x. is_of_ca x.cert.now.certificate.tbs) es a fault
        → WhyNot (λ c. IsValid c.tbs now)
        (λ c fault. IsFirstFault (carried_checks c.tbs now) fault) (seen_alone (says crypto))
        (λ c. is_of_ca c.tbs) (whole_of r).signed.certs a fault
    why-here a fault h =
        subst (λ l. WhyNot (λ c. IsValid c.tbs now)
        (λ c fault. IsFirstFault (carried_checks c.tbs now) fault) (seen_alone (says crypto))
        (λ c. is_of_ca c.tbs) l a fault) (certs-here es r.signed.certs e)
        (why-along cert_in IsHere (λ x. IsValid x.cert.now.certificate.tbs x.now.now)
        (λ x fault. IsFirstFault (carried_checks x.cert.now.certificate.tbs x.now.now) fault)
        (λ x. seen_alone (says x.crypto.now) x.cert.now.certificate)
        (λ x. is_of_ca x.cert.now.certificate.tbs) (λ c. IsValid c.tbs now)
        (λ c fault. IsFirstFault (carried_checks c.tbs now) fault) (seen_alone (says crypto))
        (λ c. is_of_ca c.tbs) valid-here valid-there because-here seen-here (λ x. refl) es a fault
        (are-here es r.signed.certs e) h)

    passing-here : (p : Certificate → Bool)
        → map (λ x. seen_alone (says x.crypto.now) x.cert.now.certificate)
        (filter (λ x. p x.cert.now.certificate) es)
        ≡ map (seen_alone (says crypto)) (filter p (whole_of r).signed.certs)
    passing-here p =
        seen-along cert_in IsHere (λ x. seen_alone (says x.crypto.now) x.cert.now.certificate)
        (seen_alone (says crypto)) (λ x. p x.cert.now.certificate) p seen-here (λ x. refl) es
        (are-here es r.signed.certs e)
        ∙ ap (λ l. map (seen_alone (says crypto)) (filter p l)) (certs-here es r.signed.certs e)

    module _ (digest : Digester) (a : Attestation (UncheckedCert C) (Handle C) (CarriedCrl C)) where
      -- what is carried, as handles, is what the attestation carries
      carried-as : a.certs.now ≡ es → a.subject_keys.now ≡ r.content.subject_keys
          → map (signer_of says) a.signers.now
          ≡ map (λ s. seen_signer (says crypto) (digest r.signed.content) s.signer)
          r.signed.signers
          → map (crl_of says) a.crls.now ≡ map (λ l. seen_crl (says crypto) l.list) r.signed.crls
          → carried_of (λ x. seen_alone (says x.crypto.now) x.cert.now.certificate)
          (λ x. is_of_ca x.cert.now.certificate.tbs) (signer_of says) (crl_of says) a
          ≡ carried_by digest (says crypto) (whole_of r)
      carried-as certs keys signers crls =
          carried-alike
          (carried_of (λ x. seen_alone (says x.crypto.now) x.cert.now.certificate)
          (λ x. is_of_ca x.cert.now.certificate.tbs) (signer_of says) (crl_of says) a)
          (carried_by digest (says crypto) (whole_of r)) keys
          (signers ∙ sym (map-map (seen_signer (says crypto) (digest r.signed.content))
          (λ s. s.signer) r.signed.signers))
          (ap (λ l. map (λ x. seen_alone (says x.crypto.now) x.cert.now.certificate)
          (ees_of (λ x. is_of_ca x.cert.now.certificate.tbs) l)) certs
          ∙ passing-here (λ c. not (is_of_ca c.tbs)))
          (ap (λ l. map (λ x. seen_alone (says x.crypto.now) x.cert.now.certificate)
          (cas_of (λ x. is_of_ca x.cert.now.certificate.tbs) l)) certs
          ∙ passing-here (λ c. is_of_ca c.tbs))
          (crls ∙ sym (map-map (seen_crl (says crypto)) (λ l. l.list) r.signed.crls))

  pub carried-here : (r : KeptWhole) (digest : Digester)
      (a : Attestation (UncheckedCert C) (Handle C) (CarriedCrl C))
      → map unchecked_view a.certs.now ≡ map (λ c. (c.certificate, (crypto, now))) r.signed.certs
      → a.subject_keys.now ≡ r.content.subject_keys
      → map (signer_of says) a.signers.now
      ≡ map (λ s. seen_signer (says crypto) (digest r.signed.content) s.signer) r.signed.signers
      → map (crl_of says) a.crls.now ≡ map (λ l. seen_crl (says crypto) l.list) r.signed.crls
      → carried_of (λ x. seen_alone (says x.crypto.now) x.cert.now.certificate)
      (λ x. is_of_ca x.cert.now.certificate.tbs) (signer_of says) (crl_of says) a
      ≡ carried_by digest (says crypto) (whole_of r)
  carried-here r digest a certs keys signers crls =
      carried-as r a.certs.now certs digest a refl keys signers crls

  pub why-told : (r : KeptWhole) (es : List (UncheckedCert C))
      → map unchecked_view es ≡ map (λ c. (c.certificate, (crypto, now))) r.signed.certs
      → (digest : Digester) (a : Carried) → a ≡ carried_by digest (says crypto) (whole_of r)
      → (fault : AcceptFault ValidationError)
      → WhyNot (λ x. IsValid x.cert.now.certificate.tbs x.now.now)
      (λ x fault. IsFirstFault (carried_checks x.cert.now.certificate.tbs x.now.now) fault)
      (λ x. seen_alone (says x.crypto.now) x.cert.now.certificate)
      (λ x. is_of_ca x.cert.now.certificate.tbs) es a fault
      → WhyNotAccepted digest (says crypto) now (whole_of r) fault
  why-told r es e digest a same fault h =
      subst (λ k. WhyNot (λ c. IsValid c.tbs now)
      (λ c fault. IsFirstFault (carried_checks c.tbs now) fault) (seen_alone (says crypto))
      (λ c. is_of_ca c.tbs) (whole_of r).signed.certs k fault) same (why-here r es e a fault h)
