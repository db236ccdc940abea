-- The checks of a certificate against its profile, in order. The sections are those of RFC 6487,
-- where no other RFC is named.
use Rattle.std.specs.Prelude.{◌≡◌, ◌≢◌, ◌⊎◌, List, [], ◌∷◌, ◌++◌, None, Some, true, false}
use Rattle.sha1.specs.Sha1.{sha1}
use Rattle.rpki_resources.specs.declared.resources.Claim.TheVariants.{Missing, Inherit}
use Rattle.rpki_faults.specs.Checks.{Check, ◌unless◌}
use Rattle.rpki_faults.specs.declared.inspection.InspectionError.{InspectionError}
use Rattle.rpki_faults.specs.declared.inspection.InspectionError.TheVariants as faults
use Rattle.rpki_faults.specs.declared.usage.KeyUsage.TheVariants.{Ca, Ee}
use Rattle.rpki_extensions.specs.declared.claims.Claims.{Claims}
use Rattle.rpki_certs.specs.Cert.{Tbs, IsSelfSigned}

-- The certificate names no resources.
abbrev pub NamesNothing : Claims → Type 0
NamesNothing x =
    (x.as_numbers ≡ Missing) × (x.addresses.v4 ≡ Missing) × (x.addresses.v6 ≡ Missing)

-- The certificate inherits resources of at least one family.
abbrev pub Inherits : Claims → Type 0
Inherits x =
    (x.as_numbers ≡ Inherit) ⊎ ((x.addresses.v4 ≡ Inherit) ⊎ (x.addresses.v6 ≡ Inherit))

-- Every certificate states the identifier of its own key, the SHA-1 digest of the key's bits
-- (4.8.2), and names at least one family of resources (4.8.10 and 4.8.11), which may be inherited
-- or empty.
abbrev pub subject_checks : Tbs → List (Check InspectionError)
subject_checks t =
    (faults.KeyIdentifier unless (t.extensions.key.subject_key ≡ sha1 t.key))
    ∷ (faults.NoResources unless (¬ NamesNothing t.extensions.claims))
    ∷ []

-- A certificate issued by another CA states the identifier of the issuer's key (4.8.3) and the URIs
-- of the issuer's CRL (4.8.6) and certificate (4.8.7).
abbrev pub issued_checks : Tbs → List (Check InspectionError)
issued_checks t =
    (faults.MissingAki unless (t.extensions.key.authority_key ≢ None))
    ∷ (faults.MissingCrlUri unless (t.extensions.locations.crl ≢ None))
    ∷ (faults.MissingCaIssuer unless (t.extensions.locations.ca_issuer ≢ None))
    ∷ []

-- A CA's certificate has the basic constraints (4.8.1) and the key usage (4.8.4) of a CA, no
-- extended key usage (4.8.5), and the URIs of the CA's publication point and manifest (4.8.8.1). It
-- has no URI of a signed object; refusing one that has is this project's own rule.
abbrev pub authority_checks : Tbs → List (Check InspectionError)
authority_checks t =
    (faults.BasicCa unless (t.extensions.key.basic_ca ≡ Some true))
    ∷ (faults.KeyUsage unless (t.extensions.key.usage ≡ Ca))
    ∷ (faults.Eku unless (t.extensions.key.has_purposes ≡ false))
    ∷ (faults.MissingRepository unless (t.extensions.locations.subject.ca_repository ≢ None))
    ∷ (faults.MissingManifest unless (t.extensions.locations.subject.rpki_manifest ≢ None))
    ∷ (faults.SignedObject unless (t.extensions.locations.subject.signed_object ≡ None))
    ∷ []

-- A trust anchor's certificate has the form of a self-signed one (4.8.3), no URI of a CRL (4.8.6)
-- or of an issuer's certificate (4.8.7), and inherits no resources (RFC 8630, section 2.3). That
-- section also asks for a set that is not empty; accepting empty families is this project's own
-- rule.
abbrev pub anchor_checks : Tbs → List (Check InspectionError)
anchor_checks t =
    (faults.TaAki unless IsSelfSigned t)
    ∷ (faults.TaCrlUri unless (t.extensions.locations.crl ≡ None))
    ∷ (faults.TaCaIssuer unless (t.extensions.locations.ca_issuer ≡ None))
    ∷ (faults.TaInherit unless (¬ Inherits t.extensions.claims))
    ∷ []

-- An end entity's certificate has no basic constraints (4.8.1), the key usage of an end entity
-- (4.8.4), and no extended key usage (4.8.5).
abbrev pub entity_checks : Tbs → List (Check InspectionError)
entity_checks t =
    (faults.BasicCa unless (t.extensions.key.basic_ca ≡ None))
    ∷ (faults.KeyUsage unless (t.extensions.key.usage ≡ Ee))
    ∷ (faults.Eku unless (t.extensions.key.has_purposes ≡ false))
    ∷ []

-- The certificate of a published object has the object's URI (4.8.8.2).
abbrev pub object_checks : Tbs → List (Check InspectionError)
object_checks t =
    (faults.MissingSignedObject unless (t.extensions.locations.subject.signed_object ≢ None))
    ∷ []

-- An end entity's certificate has no URI of a publication point or of a manifest (4.8.8.2). Section
-- 4.8.8.2 allows only the URI of the signed object; accepting one of a notification file (RFC 8182,
-- section 3.2) is this project's own rule.
abbrev pub access_checks : Tbs → List (Check InspectionError)
access_checks t =
    (faults.CaAccess unless ((t.extensions.locations.subject.ca_repository ≡ None)
    × (t.extensions.locations.subject.rpki_manifest ≡ None)))
    ∷ []

-- The profile of a trust anchor's certificate.
abbrev pub ta_checks : Tbs → List (Check InspectionError)
ta_checks t = subject_checks t ++ (authority_checks t ++ anchor_checks t)

-- The profile of a CA's certificate.
abbrev pub ca_checks : Tbs → List (Check InspectionError)
ca_checks t = subject_checks t ++ (issued_checks t ++ authority_checks t)

-- The profile of the certificate of an object that need not be published (RFC 9323, section 2).
-- That section allows no subject information access; accepting the URI of a signed object or of a
-- notification file is this project's own rule.
abbrev pub detached_ee_checks : Tbs → List (Check InspectionError)
detached_ee_checks t =
    subject_checks t ++ (issued_checks t ++ (entity_checks t ++ access_checks t))

-- The profile of the certificate of a published object.
abbrev pub ee_checks : Tbs → List (Check InspectionError)
ee_checks t =
    subject_checks t
    ++ (issued_checks t ++ (entity_checks t ++ (object_checks t ++ access_checks t)))
