-- What a place tells depends on its CA only by what alike places have in common.
use Rattle.std.proofs.Common.{◌≡◌, inl, inr, ℕ, List, [], ◌∷◌, ◌++◌, Bool, true, false, Option}
use Rattle.std.proofs.Common.{Result, Ok, Err, refl, sym, subst, ap}
use Rattle.rpki_der.specs.declared.mode.Mode.TheVariants.{Der}
use Rattle.rpki_basics.specs.Moment.{Moment}
use Rattle.rpki_basics.specs.declared.limits.ManifestRule.TheVariants.{Any}
use Rattle.rpki_crls.specs.Crl.{RevocationList}
use Rattle.rpki_faults.specs.Checks.{Check, AllHold, IsFirstFault}
use Rattle.rpki_faults.specs.declared.validation.ValidationError.{ValidationError}
use Rattle.rpki_certs.specs.Cert.{Certificate, KeptCertificate}
use Rattle.rpki_certs.specs.Validate.{Validated, IsValidatedUnder, ca_validation}
use Rattle.rpki_certs.specs.Validate.{ee_validation, detached_ee_validation}
use Rattle.rpki_certs.specs.declared.issuer.IssuerError.{IssuerError}
use Rattle.rpki_certs.specs.declared.issuer.IssuerError.TheVariants as issuers
use Rattle.rpki_files.specs.Manifest.{Manifest, ManifestForm}
use Rattle.rpki_files.specs.Manifest.Checks.{manifest_kind}
use Rattle.rpki_files.specs.Manifest.Uris.{UriAndHash, uris_of}
use Rattle.rpki_routes.specs.Aspa.Form.{AspaForm}
use Rattle.rpki_routes.specs.Aspa.Checks.{aspa_kind}
use Rattle.rpki_routes.specs.Roa.Form.{RoaForm}
use Rattle.rpki_routes.specs.Roa.Checks.{roa_kind}
use Rattle.rpki_signed.specs.Check.{Checks}
use Rattle.rpki_signed.specs.declared.check.CheckError.{CheckError}
use Rattle.rpki_signed.specs.declared.check.CheckError.TheVariants as checks
use Rattle.rpki_sigobj.specs.Object.{SignedData}
use Rattle.rpki_sigobj.specs.Signed.{Whole, cert_in}
use Rattle.rpki_sigobj.specs.Signed.Good.{IsGood}
use Rattle.rpki_sigobj.specs.Signed.Kind.{ObjectKind}
use Rattle.rpki_sigobj.specs.Signed.Process.{validation, before_revocation, said_checks}
use Rattle.rpki_sigobj.specs.Signed.Process.{AnswersAsked}
use Rattle.rpki_sigobj.specs.Validate.{object_validation, detached_validation}
use Rattle.rpki_relying_party.specs.Kind.{kind_of}
use Rattle.rpki_relying_party.specs.Lacks.{HasOutdated}
use Rattle.rpki_relying_party.specs.Lacks.{WhyNoManifest, WhyNoList, WhyNoManifestOf, WhyNoPoint}
use Rattle.rpki_relying_party.specs.Place.{AreAlike}
use Rattle.rpki_relying_party.specs.Point.{HasGood, IsListOf, IsListAt, IsManifestIn, IsManifestAt}
use Rattle.rpki_relying_party.specs.Point.{Point, IsPointIn, IsUnrevoked}
use Rattle.rpki_relying_party.specs.Setting.{Setting}
use Rattle.rpki_relying_party.specs.Tells.{HasContent, HasCa, WhyNoRoa, WhyNoAspa}
use Rattle.rpki_relying_party.specs.Tells.{WhyNoCa, RoaTells, AspaTells, CaTells, KindTells}
use Rattle.rpki_relying_party.specs.Tells.{FileTells, FilesTell, PlaceTells, until_of}
use Rattle.rpki_relying_party.specs.Under.{SaysOf, IsCaUnder}
use Rattle.rpki_relying_party.specs.declared.cause.Cause.{Cause}
use Rattle.rpki_relying_party.specs.declared.cause.Cause.TheVariants as causes
use Rattle.rpki_relying_party.specs.declared.cause.ListFault.TheVariants as lists
use Rattle.rpki_relying_party.specs.declared.cause.ManifestFault.{ManifestFault}
use Rattle.rpki_relying_party.specs.declared.cause.ManifestFault.TheVariants as manifests
use Rattle.rpki_relying_party.specs.declared.found.Finding.{Finding}
use Rattle.rpki_relying_party.specs.declared.kind.ListedKind.{ListedKind}
use Rattle.rpki_relying_party.specs.declared.kind.ListedKind.TheVariants as kinds
use Rattle.rpki_relying_party.specs.declared.place.Place.{Place}

-- The second CA, with the key, the URIs and the sets of the first.
abbrev pub mixed : Validated → Validated → Validated
mixed ca by = record by {
  cert = record (by.cert) {
    certificate = record (by.cert.certificate) {
      tbs = record (by.cert.certificate.tbs) {
        key = ca.cert.certificate.tbs.key;
        extensions = record (by.cert.certificate.tbs.extensions) {
          key = record (by.cert.certificate.tbs.extensions.key) {
            subject_key = ca.cert.certificate.tbs.extensions.key.subject_key;
          };
          locations = record (by.cert.certificate.tbs.extensions.locations) {
            subject = record (by.cert.certificate.tbs.extensions.locations.subject) {
              ca_repository =
                  ca.cert.certificate.tbs.extensions.locations.subject.ca_repository;
              rpki_manifest =
                  ca.cert.certificate.tbs.extensions.locations.subject.rpki_manifest;
            };
          };
        };
      };
    };
  };
  sets = ca.sets;
}

-- It is the second one, where places of both are alike.
pub mixed-is : (p q : Place) → AreAlike p q → mixed p.ca q.ca ≡ q.ca
mixed-is p q e = λ i. record (q.ca) {
  cert = record (q.ca.cert) {
    certificate = record (q.ca.cert.certificate) {
      tbs = record (q.ca.cert.certificate.tbs) {
        key = e.key i;
        extensions = record (q.ca.cert.certificate.tbs.extensions) {
          key = record (q.ca.cert.certificate.tbs.extensions.key) {
            subject_key = e.identifier i;
          };
          locations = record (q.ca.cert.certificate.tbs.extensions.locations) {
            subject = record (q.ca.cert.certificate.tbs.extensions.locations.subject) {
              ca_repository = e.folder i;
              rpki_manifest = e.manifest i;
            };
          };
        };
      };
    };
  };
  sets = record { as_numbers = e.as_numbers i; v4 = e.v4 i; v6 = e.v6 i };
}

-- From the first CA to the mixed one: each definition that names the CA says the same of both.
module _ (s : Setting) (ca by : Validated) where
  abbrev to : Validated
  to = mixed ca by

  -- ---- objects

  same-validation : (published : Bool) (o : SignedData)
      → ◌≡◌ {A = List (Check ValidationError)}
      (validation published s.digest s.verdict o ca s.now)
      (validation published s.digest s.verdict o to s.now)
  unfolding object_validation detached_validation ee_validation detached_ee_validation
  same-validation true o = refl
  same-validation false o = refl

  under : (k : KeptCertificate) (v : Validated) → IsValidatedUnder k ca v → IsValidatedUnder k to v
  unfolding IsValidatedUnder
  under k v h = h

  module _ {X : Type 0} (kind : ObjectKind X) (form : List ℕ → X → Type 0) (octets : List ℕ) where
    good-to : (o : Whole X) (v : Validated) → IsGood kind Der s.digest s.verdict ca s.now o v
        → IsGood kind Der s.digest s.verdict to s.now o v
    good-to o v h = record {
      valid = subst (λ (l : List (Check ValidationError)). AllHold l)
          (same-validation kind.is_published o.object.signed) h.valid;
      certificate = under (cert_in Der o) v h.certificate;
      covered = h.covered;
    }

    has-good-to : (P : Whole X → Type 0) → HasGood s kind form ca octets P
        → HasGood s kind form to octets P
    has-good-to P h = record {
      object = h.object;
      rest = h.rest;
      front = h.front;
      holds = ((h.holds.0.0, good-to h.object (h.holds.0.0) (h.holds.0.1)), h.holds.1);
    }

    pub content-to : (list : RevocationList) (cert : Certificate) (x : X)
        → HasContent s kind form ca list octets cert x
        → HasContent s kind form to list octets cert x
    content-to list cert x h = has-good-to (λ (o : Whole X).
        IsUnrevoked list o.object.signed.cert × (o.object.signed.cert ≡ cert)
        × (o.content ≡ x)) h

    module _ (Says : KeptCertificate → Result (Unit {0}) ValidationError → Type 0) where
      same-before : (o : Whole X)
          → ◌≡◌ {A = List (Check ValidationError)}
          (before_revocation kind s.digest s.verdict o ca s.now)
          (before_revocation kind s.digest s.verdict o to s.now)
      same-before o = ap (λ (l : List (Check ValidationError)).
          kind.claimed o.content o.object.signed.cert.tbs.extensions.claims ++ l)
          (same-validation kind.is_published o.object.signed)

      answers-to : (o : Whole X) (fault : ValidationError)
          → AnswersAsked (before_revocation kind s.digest s.verdict o ca s.now)
          (IsValidatedUnder (cert_in Der o) ca) (Says (cert_in Der o)) (kind.held o.content)
          o.content (Err fault)
          → AnswersAsked (before_revocation kind s.digest s.verdict o to s.now)
          (IsValidatedUnder (cert_in Der o) to) (Says (cert_in Der o)) (kind.held o.content)
          o.content (Err fault)
      answers-to o fault (inl e) = inl e
      answers-to o fault (inr p) = inr (record {
        valid = p.valid;
        said = p.said;
        asked = λ all. let asked = p.asked (subst (λ (l : List (Check ValidationError)). AllHold l)
            (sym (same-before o)) all) in
            (under (cert_in Der o) p.valid (asked.0), asked.1);
        first = subst (λ (l : List (Check ValidationError)).
            IsFirstFault (l ++ (said_checks p.said ++ kind.held o.content p.valid.sets)) fault)
            (same-before o) p.first;
      })

      checks-to : (error : CheckError)
          → Checks kind form Der s.digest s.verdict ca s.now Says octets (Err error)
          → Checks kind form Der s.digest s.verdict to s.now Says octets (Err error)
      checks-to (checks.Decode e) h = h
      checks-to (checks.Validation fault) h = record {
        object = h.object;
        rest = h.rest;
        front = h.front;
        holds = answers-to h.object fault h.holds;
      }

  -- ---- certificates

  module _ (list : RevocationList) (octets : List ℕ) where
    pub ca-to : (v : Validated) → HasCa s ca list octets v → HasCa s to list octets v
    unfolding ca_validation IsValidatedUnder
    ca-to v h = record {
      cert = h.cert;
      rest = h.rest;
      front = h.front;
      holds = h.holds;
    }

    pub ca-from : (v : Validated) → HasCa s to list octets v → HasCa s ca list octets v
    unfolding ca_validation IsValidatedUnder
    ca-from v h = record {
      cert = h.cert;
      rest = h.rest;
      front = h.front;
      holds = h.holds;
    }

    issued-to : (error : IssuerError) → IsCaUnder s.verdict s.now ca list octets (Err error)
        → IsCaUnder s.verdict s.now to list octets (Err error)
    unfolding ca_validation
    issued-to (issuers.Decode e) h = h
    issued-to (issuers.Validation fault) h = record {
      cert = h.cert;
      rest = h.rest;
      front = h.front;
      holds = h.holds;
    }

    -- ---- why a file is refused

    no-roa-to : (cause : Cause) → WhyNoRoa s ca list octets cause → WhyNoRoa s to list octets cause
    no-roa-to (causes.Object error) h =
        (checks-to roa_kind RoaForm octets (SaysOf list) error (h.0), h.1, h.2)
    no-roa-to causes.RoaCertificate h = (
      h.0,
      h.1,
      content-to roa_kind RoaForm octets list (h.0) (h.1) (h.2),
      h.3,
    )
    no-roa-to cause h = absurd h

    no-aspa-to : (cause : Cause) → WhyNoAspa s ca list octets cause
        → WhyNoAspa s to list octets cause
    no-aspa-to (causes.Object error) h =
        (checks-to aspa_kind (AspaForm s.providers) octets (SaysOf list) error (h.0), h.1, h.2)
    no-aspa-to cause h = absurd h

    no-ca-to : (cause : Cause) → WhyNoCa s ca list octets cause → WhyNoCa s to list octets cause
    no-ca-to (causes.Certificate error) h = (issued-to error (h.0), h.1, h.2, h.3)
    no-ca-to cause h = absurd h

    -- ---- what a file tells

    module _ (until : Moment) (above uri : List ℕ) (said : List Finding) where
      roa-to : RoaTells s ca list until above uri octets said
          → RoaTells s to list until above uri octets said
      roa-to (inl h) =
          inl (h.0, h.1, (content-to roa_kind RoaForm octets list (h.0) (h.1) (h.2.0), h.2.1), h.3)
      roa-to (inr h) = inr (h.0, no-roa-to (h.0) (h.1), h.2)

      aspa-to : AspaTells s ca list until above uri octets said
          → AspaTells s to list until above uri octets said
      aspa-to (inl h) =
          inl (
            h.0,
            h.1,
            content-to aspa_kind (AspaForm s.providers) octets list (h.0) (h.1) (h.2),
            h.3,
          )
      aspa-to (inr h) = inr (h.0, no-aspa-to (h.0) (h.1), h.2)

      cert-to : (children : List Place) → CaTells s ca list until above uri octets said children
          → CaTells s to list until above uri octets said children
      cert-to children (inl h) = inl (h.0, ca-to (h.0) (h.1), h.2, h.3)
      cert-to children (inr (inl h)) =
          inr (inl (λ v c. h.0 v (ca-from v c), h.1, h.2, h.3))
      cert-to children (inr (inr h)) = inr (inr (h.0, no-ca-to (h.0) (h.1), h.2, h.3))

      kind-to : (kind : ListedKind) (children : List Place)
          → KindTells s ca list until above uri octets kind said children
          → KindTells s to list until above uri octets kind said children
      kind-to kinds.Roa children h = (roa-to (h.0), h.1)
      kind-to kinds.Aspa children h = (aspa-to (h.0), h.1)
      kind-to kinds.Ca children h = cert-to children h
      kind-to kinds.Other children h = h

  module _ (list_uri : List ℕ) (list : RevocationList) (until : Moment) (above : List ℕ) where
    file-to : (file : UriAndHash) (said : List Finding) (children : List Place)
        → FileTells s ca list_uri list until above file said children
        → FileTells s to list_uri list until above file said children
    file-to file said children (inl h) = inl h
    file-to file said children (inr h) = inr (
      h.0,
      (
        h.1.0,
        h.1.1,
        kind-to list (h.1.0) until above (file.0) said (kind_of (file.0)) children (h.1.2),
      ),
    )

    files-to : (files : List UriAndHash) (said : List Finding) (children : List Place)
        → FilesTell s ca list_uri list until above files said children
        → FilesTell s to list_uri list until above files said children
    files-to [] said children h = h
    files-to (file ∷ files) said children h = (
      h.0,
      h.1,
      file-to file h.0.said h.0.children (h.2),
      files-to files h.1.said h.1.children (h.3),
      h.4,
      h.5,
    )

  -- ---- the manifest and the revocation list

  manifest-in-to : (octets : List ℕ) (signer : Certificate) (manifest : Manifest)
      → IsManifestIn s ca octets signer manifest → IsManifestIn s to octets signer manifest
  manifest-in-to octets signer manifest h =
      has-good-to manifest_kind (ManifestForm Any Der) octets
      (λ (o : Whole Manifest). (o.object.signed.cert ≡ signer) × (o.content ≡ manifest)) h

  module _ (folder uri : List ℕ) where
    pub manifest-at-to : (signer : Certificate) (manifest : Manifest)
        → IsManifestAt s ca folder uri signer manifest
        → IsManifestAt s to folder uri signer manifest
    manifest-at-to signer manifest h = record {
      octets = h.octets;
      found = h.found;
      good = manifest-in-to h.octets signer manifest h.good;
      current = h.current;
      once = h.once;
    }

    outdated-to : (fault : ManifestFault) → HasOutdated s ca uri fault → HasOutdated s to uri fault
    outdated-to fault h =
        (h.0, h.1, h.2, h.3, manifest-in-to (h.0) (h.1) (h.2) (h.4), h.5)

    no-manifest-to : (fault : ManifestFault) → WhyNoManifest s ca folder uri fault
        → WhyNoManifest s to folder uri fault
    no-manifest-to (manifests.NoFile why) h = h
    no-manifest-to (manifests.Refused error) h = (
      h.0,
      h.1,
      (
        checks-to manifest_kind (ManifestForm Any Der) (h.0) (λ k said. said ≡ Ok tt) error
            (h.2.0),
        h.2.1,
        h.2.2,
      ),
    )
    no-manifest-to (manifests.NotYet time) h = outdated-to (manifests.NotYet time) h
    no-manifest-to (manifests.Stale time) h = outdated-to (manifests.Stale time) h
    no-manifest-to (manifests.Twice twice) h =
        (h.0, h.1, h.2, h.3, manifest-in-to (h.0) (h.1) (h.2) (h.4), h.5, h.6, h.7)

    pub no-manifest-of-to : (cause : Cause) → WhyNoManifestOf s ca folder uri cause
        → WhyNoManifestOf s to folder uri cause
    no-manifest-of-to (causes.Manifest fault) h = no-manifest-to fault h
    no-manifest-of-to cause h = absurd h

    list-of-to : (octets : List ℕ) (list : RevocationList)
        → IsListOf s.verdict s.now ca octets list → IsListOf s.verdict s.now to octets list
    list-of-to octets list h = record {
      rest = h.rest;
      front = h.front;
      key = h.key;
      signed = h.signed;
      current = h.current;
    }

    pub list-at-to : (signer : Certificate) (manifest : Manifest) (list_uri : List ℕ)
        (list : RevocationList) → IsListAt s ca folder signer manifest list_uri list
        → IsListAt s to folder signer manifest list_uri list
    list-at-to signer manifest list_uri list h = record {
      hash = h.hash;
      file = h.file;
      octets = h.octets;
      found = h.found;
      list_of = list-of-to h.octets list h.list_of;
      unrevoked = h.unrevoked;
    }

    pub no-list-to : (signer : Certificate) (manifest : Manifest) (cause : Cause)
        → WhyNoList s ca folder signer manifest cause → WhyNoList s to folder signer manifest cause
    no-list-to signer manifest (causes.List lists.Unlisted) h = h
    no-list-to signer manifest (causes.List lists.Malformed) h = h
    no-list-to signer manifest (causes.List fault) h = h
    no-list-to signer manifest (causes.File file fault) h = h
    no-list-to signer manifest cause h = absurd h

    -- ---- the point

    point-to : (p : Point) → IsPointIn s ca folder uri p → IsPointIn s to folder uri p
    point-to p h = record {
      manifest = manifest-at-to p.signer p.manifest h.manifest;
      list = list-at-to p.signer p.manifest p.list_uri p.list h.list;
    }

    no-point-to : (cause : Cause) → WhyNoPoint s ca folder uri cause
        → WhyNoPoint s to folder uri cause
    no-point-to cause (inl h) = inl (no-manifest-of-to cause h)
    no-point-to cause (inr h) = inr (
      h.0,
      h.1,
      manifest-at-to (h.0) (h.1) (h.2),
      elim (h.3) [
        | inl w ↦ inl (no-list-to (h.0) (h.1) cause w)
        | inr w ↦ inr (w.0, w.1, list-at-to (h.0) (h.1) (w.0) (w.1) (w.2), w.3)
      ],
    )

  place-to : (until : Moment) (above : Option (List ℕ)) (said : List Finding)
      (children : List Place)
      → PlaceTells s (record { ca = ca; until = until; listed_by = above }) said children
      → PlaceTells s (record { ca = to; until = until; listed_by = above }) said children
  place-to until above said children (inl h) = inl h
  place-to until above said children (inr h) = inr (
    h.0,
    h.1,
    h.2,
    h.3,
    elim (h.4) [
      | inl p ↦ inl (
        p.0,
        point-to (h.0) (h.1) (p.0) (p.1),
        files-to p.0.list_uri p.0.list (until_of until (p.0)) (h.1)
            (uris_of (h.0) p.0.manifest.files) said children (p.2),
      )
      | inr w ↦ inr ((w.0.0, no-point-to (h.0) (h.1) (w.0.0) (w.0.1), w.0.2), w.1)
    ],
  )

-- A place tells what one tells that is alike and was reached in the same way.
pub alike-tells : (s : Setting) (p q : Place) → AreAlike p q → (said : List Finding)
    (children : List Place) → PlaceTells s p said children
    → PlaceTells s (record { ca = q.ca; until = p.until; listed_by = p.listed_by }) said children
alike-tells s p q e said children h =
    subst (λ (v : Validated).
    PlaceTells s (record { ca = v; until = p.until; listed_by = p.listed_by }) said children)
    (mixed-is p q e) (place-to s p.ca q.ca p.until p.listed_by said children h)
