-- A built object passes its own validation.
use Rattle.std.proofs.Common.{
  ◌≡◌,
  ◌≢◌,
  ◌≤◌,
  ℕ,
  List,
  Option,
  None,
  Some,
  true,
  refl,
  sym,
  ap,
  subst,
  ◌∙◌,
}
use Rattle.sha1.specs.Sha1.{sha1}
use Rattle.rpki_basics.specs.Moment.{Moment, stamp}
use Rattle.rpki_faults.specs.Checks.{AllHold}
use Rattle.rpki_certs.specs.Cert.{Tbs, Certificate}
use Rattle.rpki_certs.specs.Inspect.{detached_ee_checks, ee_checks}
use Rattle.rpki_certs.specs.Verify.{Verdict, IsInTime}
use Rattle.rpki_certs.specs.Validate.{Validated, AreAllowed, IsGoodUnder, IsResourceCert}
use Rattle.rpki_sigobj.specs.Object.{SignedData}
use Rattle.rpki_sigobj.specs.Verify.{Digester, IsWellSigned}
use Rattle.rpki_sigobj.specs.Validate.{detached_validation, object_validation}
use Rattle.rpki_sigobj.proofs.Valid.{detached-valid, published-valid}
use Rattle.rpki_issued.specs.Tbs.{tbs_of}
use Rattle.rpki_signing.specs.Built.{Settings, unsigned_of, IsBuilt, IsFit}

some-differs : {X : Type 0} (x : X) (o : Option X) → o ≡ Some x → o ≢ None
some-differs {X = X} x o e n = let both : (let y : Option X = Some x in y) ≡ None = sym e ∙ n in cc

module _ (digest : Digester) (verdict : Verdict)
    (b : Settings) (key type content : List ℕ) (s : SignedData) (issuer : Validated) (now : Moment)
    (built : IsBuilt b key type content (digest content) s)
    (fit : IsFit verdict b key s issuer now) (validated : IsResourceCert issuer) where
  abbrev Said : Tbs
  Said = tbs_of (unsigned_of b key s.cert.tbs.key)

  said-tbs : s.cert.tbs ≡ Said
  said-tbs = ap (λ (c : Certificate). c.tbs) built.cert

  well : IsWellSigned digest verdict s
  well = record {
    names_its_key =
        built.sid ∙ sym (ap (λ (t : Tbs). t.extensions.key.subject_key) said-tbs);
    has_its_digest = built.attributes.message_digest ∙ ap digest (sym built.content_octets);
    in_time =
        subst
        (λ (t : Tbs). stamp s.signer.attributes.signing_time ≤ stamp t.validity.not_after)
        (sym said-tbs)
        (subst (λ (m : Moment). stamp m ≤ stamp b.validity.not_after)
        (sym built.attributes.signing_time) fit.signing_time);
    signed = fit.signed;
  }

  issuer-identifier : issuer.cert.certificate.tbs.extensions.key.subject_key ≡ sha1 key
  issuer-identifier = validated.identifier ∙ ap sha1 fit.issuer_key

  -- the checks of the profile hold of what was said
  said-fits : AllHold (ee_checks Said)
  said-fits = (
    refl,
    (
      fit.named,
      (
        some-differs (sha1 key) _ refl,
        (
          some-differs b.crl_uri _ refl,
          (
            some-differs b.ca_issuer _ refl,
            (
              refl,
              (refl, (refl, (some-differs b.signed_object _ refl, ((refl, refl), tt)))),
            ),
          ),
        ),
      ),
    ),
  )

  profile : AllHold (ee_checks s.cert.tbs)
  profile =
      subst (λ (t : Tbs). AllHold (ee_checks t)) (sym said-tbs) said-fits

  -- so do those of an object that need not be published, which says where it is all the same
  said-fits-detached : AllHold (detached_ee_checks Said)
  said-fits-detached = (
    refl,
    (
      fit.named,
      (
        some-differs (sha1 key) _ refl,
        (
          some-differs b.crl_uri _ refl,
          (
            some-differs b.ca_issuer _ refl,
            (refl, (refl, (refl, ((refl, refl), tt)))),
          ),
        ),
      ),
    ),
  )

  detached-profile : AllHold (detached_ee_checks s.cert.tbs)
  detached-profile =
      subst (λ (t : Tbs). AllHold (detached_ee_checks t)) (sym said-tbs) said-fits-detached

  good : IsGoodUnder verdict s.cert issuer now
  good = record {
    claimed =
        ap (λ (t : Tbs). t.extensions.key.authority_key) said-tbs
        ∙ ap (λ (id : List ℕ). Some id) (sym issuer-identifier);
    in_time =
        subst (λ (t : Tbs). IsInTime t.validity now) (sym said-tbs) fit.in_time;
    signed =
        subst (λ (k : List ℕ). verdict k s.cert.signed s.cert.signature ≡ true)
        (sym fit.issuer_key) fit.cert_signed;
    allowed =
        subst (λ (t : Tbs). AreAllowed t.extensions.claims issuer.sets) (sym said-tbs)
        fit.allowed;
  }

  pub built-valid : AllHold (object_validation digest verdict s issuer now)
  built-valid = (published-valid digest verdict s issuer now).1 (well, profile, good)

  pub built-valid-detached : AllHold (detached_validation digest verdict s issuer now)
  built-valid-detached =
      (detached-valid digest verdict s issuer now).1 (well, detached-profile, good)
