-- The publication point of a certification authority (CA). The sections are those of RFC 9286,
-- where no other RFC is named.
use Rattle.std.specs.Prelude.{◌≡◌, ◌≢◌, ℕ, List, Some, Ok, AllPairs, Contains}
use Rattle.rpki_der.specs.declared.mode.Mode.TheVariants.{Der}
use Rattle.rpki_der.specs.Form.Decodes.{IsOnlyFront}
use Rattle.rpki_basics.specs.Moment.{Moment}
use Rattle.rpki_basics.specs.declared.limits.ManifestRule.TheVariants.{Any}
use Rattle.rpki_crls.specs.Crl.{RevocationList, CrlForm, IsSignedBy}
use Rattle.rpki_certs.specs.Cert.{Certificate}
use Rattle.rpki_certs.specs.Validate.{Validated}
use Rattle.rpki_certs.specs.Verify.{Verdict}
use Rattle.rpki_files.specs.Manifest.{Manifest, ManifestForm}
use Rattle.rpki_files.specs.Manifest.Checks.{manifest_kind}
use Rattle.rpki_files.specs.Manifest.Uris.{UriAndHash, uris_of}
use Rattle.rpki_signed.specs.Check.{BeginsWith}
use Rattle.rpki_sigobj.specs.Signed.{Whole, ObjectForm}
use Rattle.rpki_sigobj.specs.Signed.Good.{IsGood}
use Rattle.rpki_sigobj.specs.Signed.Kind.{ObjectKind}
use Rattle.rpki_relying_party.specs.Setting.{Setting, IsWithin}

-- The list has no entry with the serial number of the certificate (RFC 5280, section 5.1.2.6).
-- Which list is asked is this project's own rule: always that of the manifest, even where the
-- certificate itself, of a ROA or a CA, names another one (RFC 6487, section 4.8.6).
abbrev pub IsUnrevoked : RevocationList → Certificate → Type 0
IsUnrevoked list c = ¬ Contains list.tbs.revoked c.tbs.serial_number

-- The octets begin with an object of the kind in DER, which is good under the CA, and of which P
-- holds. That further octets may follow it is this project's own rule.
abbrev pub HasGood : {X : Type 0} → Setting → ObjectKind X → (List ℕ → X → Type 0) → Validated
    → List ℕ → (Whole X → Type 0) → Type 0
HasGood {X} s kind form ca octets P =
    BeginsWith (ObjectForm kind.type form Der) octets (λ (o : Whole X).
    ((v : Validated) × IsGood kind Der s.digest s.verdict ca s.now o v) × P o)

-- The octets begin with a revocation list of the CA: its key signed it, and is named in it, and the
-- list is current (RFC 6487, section 5). Two rules are this project's own: the name of the issuer
-- in the list is not compared, and further octets may follow the list.
pub record IsListOf (verdict : Verdict) (now : Moment) (ca : Validated) (octets : List ℕ)
    (list : RevocationList) : Type 0 where
  pub rest : List ℕ
  pub front : IsOnlyFront (CrlForm Der) octets list rest
  pub key : list.tbs.extensions.authority_key
      ≡ ca.cert.certificate.tbs.extensions.key.subject_key
  pub signed : IsSignedBy verdict ca.cert.certificate.tbs.key list
  pub current : IsWithin list.tbs.this_update list.tbs.next_update now

-- What a publication point says before its files: the certificate of the signer of its manifest,
-- the manifest, and the list of the certificates that are revoked, with its URI.
pub record Point : Type 0 where
  pub signer : Certificate
  pub manifest : Manifest
  pub list_uri : List ℕ
  pub list : RevocationList

-- the folder in which the CA publishes is this one
abbrev pub PublishesIn : Validated → List ℕ → Type 0
PublishesIn ca folder =
    ca.cert.certificate.tbs.extensions.locations.subject.ca_repository ≡ Some folder

-- the manifest of the CA has this URI
abbrev pub NamesManifest : Validated → List ℕ → Type 0
NamesManifest ca uri =
    ca.cert.certificate.tbs.extensions.locations.subject.rpki_manifest ≡ Some uri

-- The copy has these octets for the URI of the file, and they have its hash (sections 6.4 and 6.5).
abbrev pub Has : Setting → UriAndHash → List ℕ → Type 0
Has s file octets = s.finds file.0 (Ok octets) × (s.digest octets ≡ file.1)

-- The octets begin with a manifest that is good under the CA: this is its content, and this the
-- certificate of its signer. That a file may have a type which is not registered (section 4.2.2) is
-- this project's own rule.
abbrev pub IsManifestIn : Setting → Validated → List ℕ → Certificate → Manifest → Type 0
IsManifestIn s ca octets signer manifest =
    HasGood s manifest_kind (ManifestForm Any Der) ca octets (λ o.
    (o.object.signed.cert ≡ signer) × (o.content ≡ manifest))

-- No two of these files have one URI. That URIs are compared octet by octet, here and below, is
-- this project's own rule.
abbrev pub AreOnce : List UriAndHash → Type 0
AreOnce files = AllPairs (λ f g. f.0 ≢ g.0) files

-- The copy has for the URI a manifest that is good under the CA and current (sections 6.2 and 6.3),
-- and that lists no name twice (section 4.2.1): no two of its files have one URI below the folder.
-- Two rules are this project's own: the number and thisUpdate of earlier manifests are not looked at
-- (section 4.2.1), and no earlier version of a point is used (section 6.6).
pub record IsManifestAt (s : Setting) (ca : Validated) (folder uri : List ℕ) (signer : Certificate)
    (manifest : Manifest) : Type 0 where
  pub octets : List ℕ
  pub found : s.finds uri (Ok octets)
  pub good : IsManifestIn s ca octets signer manifest
  pub current : IsWithin manifest.this_update manifest.next_update s.now
  pub once : AreOnce (uris_of folder manifest.files)

-- The certificate of the manifest names this file as its revocation list (RFC 6487, section 4.8.6),
-- and the manifest lists it.
pub record IsListFile (folder : List ℕ) (signer : Certificate) (manifest : Manifest)
    (file : UriAndHash) : Type 0 where
  pub named : signer.tbs.extensions.locations.crl ≡ Some (file.0)
  pub listed : Contains (uris_of folder manifest.files) file

-- The file that the certificate of the manifest names as its revocation list, with this URI, is a
-- revocation list of the CA, and does not revoke that certificate. That no other list of the CA is
-- looked for, with a greater number (RFC 6487, section 5), is this project's own rule.
pub record IsListAt (s : Setting) (ca : Validated) (folder : List ℕ) (signer : Certificate)
    (manifest : Manifest) (uri : List ℕ) (list : RevocationList) : Type 0 where
  pub hash : List ℕ
  pub file : IsListFile folder signer manifest (uri, hash)
  pub octets : List ℕ
  pub found : Has s (uri, hash) octets
  pub list_of : IsListOf s.verdict s.now ca octets list
  pub unrevoked : IsUnrevoked list signer

-- The copy has the manifest and the revocation list of the publication point in this folder, whose
-- manifest has this URI (RFC 6487, section 4.8.8.1). That each file is there, is a part of what
-- the files tell.
pub record IsPointIn (s : Setting) (ca : Validated) (folder uri : List ℕ) (p : Point) : Type 0 where
  pub manifest : IsManifestAt s ca folder uri p.signer p.manifest
  pub list : IsListAt s ca folder p.signer p.manifest p.list_uri p.list
