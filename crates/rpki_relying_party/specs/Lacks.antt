-- Why a publication point is refused: the first check that fails. The sections are those of RFC
-- 9286, where no other RFC is named.
use Rattle.std.specs.Prelude.{◌≡◌, ◌⊎◌, ◌≤◌, ℕ, List, ◌∷◌, ◌++◌, [], Ok, Err, All}
use Rattle.std.specs.Prelude.{Contains, map}
use Rattle.rpki_der.specs.declared.mode.Mode.TheVariants.{Der}
use Rattle.rpki_der.specs.Form.Decodes.{IsOnlyFront}
use Rattle.rpki_der.specs.Grammar.{HasNoFront}
use Rattle.rpki_basics.specs.Moment.{Moment, stamp}
use Rattle.rpki_basics.specs.declared.limits.ManifestRule.TheVariants.{Any}
use Rattle.rpki_crls.specs.Crl.{RevocationList, CrlForm, IsSignedBy}
use Rattle.rpki_faults.specs.Checks.{◌unless◌, Check, IsFirstFault}
use Rattle.rpki_certs.specs.Cert.{Certificate}
use Rattle.rpki_certs.specs.Validate.{Validated}
use Rattle.rpki_certs.specs.Verify.{Verdict}
use Rattle.rpki_files.specs.Manifest.{Manifest, ManifestForm}
use Rattle.rpki_files.specs.Manifest.Checks.{manifest_kind}
use Rattle.rpki_files.specs.Manifest.Uris.{UriAndHash, uris_of}
use Rattle.rpki_signed.specs.Check.{Checks}
use Rattle.rpki_signed.specs.declared.check.CheckError.{CheckError}
use Rattle.rpki_relying_party.specs.Memory.{IsCheckMemory, plain_check}
use Rattle.rpki_relying_party.specs.Point.{AreOnce, Has, IsManifestIn, IsManifestAt, IsListFile}
use Rattle.rpki_relying_party.specs.Point.{IsListAt, IsUnrevoked}
use Rattle.rpki_relying_party.specs.Setting.{Setting}
use Rattle.rpki_relying_party.specs.declared.cause.Cause.{Cause}
use Rattle.rpki_relying_party.specs.declared.cause.Cause.TheVariants as causes
use Rattle.rpki_relying_party.specs.declared.cause.FileFault.{FileFault}
use Rattle.rpki_relying_party.specs.declared.cause.FileFault.TheVariants as files
use Rattle.rpki_relying_party.specs.declared.cause.ListFault.{ListFault}
use Rattle.rpki_relying_party.specs.declared.cause.ListFault.TheVariants as lists
use Rattle.rpki_relying_party.specs.declared.cause.ManifestFault.{ManifestFault}
use Rattle.rpki_relying_party.specs.declared.cause.ManifestFault.TheVariants as manifests

-- ---- the manifest (sections 6.2 and 6.3)

-- The octets begin with no manifest that is good under the CA: this is the fault of the first check
-- that fails, with nothing of the octets.
abbrev pub IsRefusedManifest : Setting → Validated → List ℕ → CheckError → Type 0
IsRefusedManifest s ca octets error =
    Checks manifest_kind (ManifestForm Any Der) Der s.digest s.verdict ca s.now
    (λ k said. said ≡ Ok tt) octets (Err error)
    × (¬ IsCheckMemory error) × (plain_check error ≡ error)

-- What is checked of a manifest, in this order: it was made by now, and the next one is not due.
abbrev pub manifest_checks : Moment → Manifest → List (Check ManifestFault)
manifest_checks now manifest =
    (manifests.NotYet manifest.this_update unless (stamp manifest.this_update ≤ stamp now))
    ∷ (manifests.Stale manifest.next_update unless (stamp now ≤ stamp manifest.next_update))
    ∷ []

-- The copy has for the URI a manifest that is good under the CA, and this is the fault of its first
-- check that fails.
abbrev pub HasOutdated : Setting → Validated → List ℕ → ManifestFault → Type 0
HasOutdated s ca uri fault = (octets : List ℕ) × (signer : Certificate) × (manifest : Manifest)
    × s.finds uri (Ok octets) × IsManifestIn s ca octets signer manifest
    × IsFirstFault (manifest_checks s.now manifest) fault

-- The URI is that of the first file that an earlier one has.
pub record IsFirstRepeated (listed : List UriAndHash) (uri : List ℕ) : Type 0 where
  pub before : List UriAndHash
  pub file : UriAndHash
  pub after : List UriAndHash
  pub order : listed ≡ before ++ file ∷ after
  pub named : file.0 ≡ uri
  pub repeats : Contains (map (λ f. f.0) before) uri
  pub once : AreOnce before

-- The copy has for the URI a manifest that is good under the CA and current, and that lists a file
-- with this URI twice (section 4.2.1).
abbrev pub HasRepeated : Setting → Validated → List ℕ → List ℕ → List ℕ → Type 0
HasRepeated s ca folder uri twice =
    (octets : List ℕ) × (signer : Certificate) × (manifest : Manifest)
    × s.finds uri (Ok octets) × IsManifestIn s ca octets signer manifest
    × (stamp manifest.this_update ≤ stamp s.now) × (stamp s.now ≤ stamp manifest.next_update)
    × IsFirstRepeated (uris_of folder manifest.files) twice

-- Why the CA has no manifest for the URI.
abbrev pub WhyNoManifest : Setting → Validated → List ℕ → List ℕ → ManifestFault → Type 0
WhyNoManifest s ca folder uri (manifests.NoFile why) = s.finds uri (Err why)
WhyNoManifest s ca folder uri (manifests.Refused error) =
    (octets : List ℕ) × s.finds uri (Ok octets) × IsRefusedManifest s ca octets error
WhyNoManifest s ca folder uri (manifests.NotYet time) =
    HasOutdated s ca uri (manifests.NotYet time)
WhyNoManifest s ca folder uri (manifests.Stale time) = HasOutdated s ca uri (manifests.Stale time)
WhyNoManifest s ca folder uri (manifests.Twice twice) = HasRepeated s ca folder uri twice

-- ---- a listed file (sections 6.4 and 6.5)

-- Why the copy has no such file: it finds none for its URI, or one with another hash.
abbrev pub WhyNoFile : Setting → UriAndHash → FileFault → Type 0
WhyNoFile s file (files.NoFile why) = s.finds file.0 (Err why)
WhyNoFile s file files.OtherHash =
    (octets : List ℕ) × s.finds file.0 (Ok octets) × (¬ (s.digest octets ≡ file.1))

-- Why this listed file refuses the point.
abbrev pub IsLostFile : Setting → UriAndHash → Cause → Type 0
IsLostFile s file (causes.File uri fault) = (file.0 ≡ uri) × WhyNoFile s file fault
IsLostFile s file cause = ⊥

-- ---- the revocation list (RFC 6487, section 5)

-- What is checked of a revocation list, in this order: it names the key of the CA, this key signed
-- it, it is current, and it does not revoke the certificate of the manifest.
abbrev pub list_checks : Verdict → Moment → Validated → Certificate → RevocationList
    → List (Check ListFault)
list_checks verdict now ca signer list =
    (lists.OtherKey unless (list.tbs.extensions.authority_key
    ≡ ca.cert.certificate.tbs.extensions.key.subject_key))
    ∷ (lists.BadSignature unless IsSignedBy verdict ca.cert.certificate.tbs.key list)
    ∷ (lists.NotYet list.tbs.this_update unless (stamp list.tbs.this_update ≤ stamp now))
    ∷ (lists.Stale list.tbs.next_update unless (stamp now ≤ stamp list.tbs.next_update))
    ∷ (lists.RevokesManifest unless IsUnrevoked list signer)
    ∷ []

-- The octets begin with a revocation list, and this is the fault of its first check that fails.
abbrev pub HasBadList : Setting → Validated → Certificate → List ℕ → ListFault → Type 0
HasBadList s ca signer octets fault = (list : RevocationList) × (rest : List ℕ)
    × IsOnlyFront (CrlForm Der) octets list rest × IsFirstFault
    (list_checks s.verdict s.now ca signer list) fault

-- Why the octets are no such list.
abbrev pub WhyBadList : Setting → Validated → Certificate → List ℕ → ListFault → Type 0
WhyBadList s ca signer octets lists.Unlisted = ⊥
WhyBadList s ca signer octets lists.Malformed = HasNoFront (CrlForm Der) octets
WhyBadList s ca signer octets fault = HasBadList s ca signer octets fault

-- Why the point with this manifest has no revocation list: the certificate of the manifest names
-- no listed file, or the copy does not have the file, or it is no such list.
abbrev pub WhyNoList : Setting → Validated → List ℕ → Certificate → Manifest → Cause → Type 0
WhyNoList s ca folder signer manifest (causes.List lists.Unlisted) =
    (file : UriAndHash) → ¬ IsListFile folder signer manifest file
WhyNoList s ca folder signer manifest (causes.List fault) =
    (file : UriAndHash) × (octets : List ℕ) × IsListFile folder signer manifest file
    × Has s file octets × WhyBadList s ca signer octets fault
WhyNoList s ca folder signer manifest (causes.File uri fault) =
    (file : UriAndHash) × IsListFile folder signer manifest file
    × IsLostFile s file (causes.File uri fault)
WhyNoList s ca folder signer manifest cause = ⊥

-- ---- the files

-- This is the first of the files that the copy does not have; the revocation list, which was found
-- before, is passed over.
pub record IsFirstLost (s : Setting) (listed : List UriAndHash) (list_uri : List ℕ)
    (file : UriAndHash) (cause : Cause) : Type 0 where
  pub before : List UriAndHash
  pub after : List UriAndHash
  pub order : listed ≡ before ++ file ∷ after
  pub others : All (λ f. (f.0 ≡ list_uri) ⊎ ((octets : List ℕ) × Has s f octets)) before
  pub is_other : ¬ (file.0 ≡ list_uri)
  pub lost : IsLostFile s file cause

-- Why some file of the point is not there.
abbrev pub WhyNoFiles : Setting → List UriAndHash → List ℕ → Cause → Type 0
WhyNoFiles s listed list_uri cause =
    (file : UriAndHash) × IsFirstLost s listed list_uri file cause

-- ---- the point

-- Why the manifest, which is looked at first, refuses the point.
abbrev pub WhyNoManifestOf : Setting → Validated → List ℕ → List ℕ → Cause → Type 0
WhyNoManifestOf s ca folder uri (causes.Manifest fault) = WhyNoManifest s ca folder uri fault
WhyNoManifestOf s ca folder uri cause = ⊥

-- Why the CA has no publication point in this folder, whose manifest has this URI: the manifest, or
-- the revocation list, or a file, in this order.
abbrev pub WhyNoPoint : Setting → Validated → List ℕ → List ℕ → Cause → Type 0
WhyNoPoint s ca folder uri cause =
    WhyNoManifestOf s ca folder uri cause
    ⊎ ((signer : Certificate) × (manifest : Manifest)
    × IsManifestAt s ca folder uri signer manifest
    × (WhyNoList s ca folder signer manifest cause
    ⊎ ((list_uri : List ℕ) × (list : RevocationList)
    × IsListAt s ca folder signer manifest list_uri list
    × WhyNoFiles s (uris_of folder manifest.files) list_uri cause)))
