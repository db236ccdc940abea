-- What the publication point of a certification authority (CA) tells, in the order of its manifest,
-- and why one of its files is refused.
use Rattle.std.specs.Prelude.{◌≡◌, ◌≢◌, ◌⊎◌, ℕ, List, [], ◌∷◌, ◌++◌, None, Some, Err, map}
use Rattle.std.specs.Prelude.{nat_le, if◌then◌else◌, unwrap_or}
use Rattle.rpki_der.specs.declared.mode.Mode.TheVariants.{Der}
use Rattle.rpki_basics.specs.Moment.{Moment, stamp}
use Rattle.rpki_crls.specs.Crl.{RevocationList}
use Rattle.rpki_faults.specs.Checks.{AllHold}
use Rattle.rpki_faults.specs.declared.usage.KeyUsage.TheVariants.{Ee}
use Rattle.rpki_certs.specs.Cert.{Certificate}
use Rattle.rpki_certs.specs.Issuer.{BeginsWithCert, in_der}
use Rattle.rpki_certs.specs.Validate.{Validated, AreCanonical, ca_validation, IsValidatedUnder}
use Rattle.rpki_extensions.specs.declared.claims.Claims.{Claims}
use Rattle.rpki_files.specs.Manifest.Uris.{UriAndHash, uris_of}
use Rattle.rpki_resources.specs.declared.resources.Claim.TheVariants.{Missing, Inherit}
use Rattle.rpki_routes.specs.Aspa.{Aspa}
use Rattle.rpki_routes.specs.Aspa.Form.{AspaForm}
use Rattle.rpki_routes.specs.Aspa.Checks.{aspa_kind}
use Rattle.rpki_routes.specs.Roa.{Roa, addresses, origin_of}
use Rattle.rpki_routes.specs.Roa.Form.{RoaForm}
use Rattle.rpki_routes.specs.Roa.Checks.{roa_kind}
use Rattle.rpki_routes.specs.declared.roa.address.RouteOrigin.{RouteOrigin}
use Rattle.rpki_signed.specs.Check.{Checks}
use Rattle.rpki_sigobj.specs.Signed.Kind.{ObjectKind}
use Rattle.rpki_relying_party.specs.Kind.{kind_of}
use Rattle.rpki_relying_party.specs.Lacks.{WhyNoPoint}
use Rattle.rpki_relying_party.specs.Memory.{IsCheckMemory, IsIssuerMemory}
use Rattle.rpki_relying_party.specs.Memory.{plain_check, plain_issuer}
use Rattle.rpki_relying_party.specs.Payload.{origin_key}
use Rattle.rpki_relying_party.specs.Point.{Point, IsPointIn, Has, HasGood, IsUnrevoked}
use Rattle.rpki_relying_party.specs.Point.{PublishesIn, NamesManifest}
use Rattle.rpki_relying_party.specs.Setting.{Setting}
use Rattle.rpki_relying_party.specs.Under.{SaysOf, IsCaUnder}
use Rattle.rpki_relying_party.specs.declared.cause.Cause.{Cause}
use Rattle.rpki_relying_party.specs.declared.cause.Cause.TheVariants as causes
use Rattle.rpki_relying_party.specs.declared.found.Finding.{Finding}
use Rattle.rpki_relying_party.specs.declared.found.Finding.TheVariants as findings
use Rattle.rpki_relying_party.specs.declared.kind.ListedKind.{ListedKind}
use Rattle.rpki_relying_party.specs.declared.kind.ListedKind.TheVariants as kinds
use Rattle.rpki_relying_party.specs.declared.payload.Payload.{Payload}
use Rattle.rpki_relying_party.specs.declared.payload.Payload.TheVariants as payloads
use Rattle.rpki_relying_party.specs.declared.place.Place.{Place}

-- ---- until when

-- the earlier of two moments
abbrev pub earlier : Moment → Moment → Moment
earlier a b = if nat_le (stamp a) (stamp b) then a else b

-- until when a point holds: as long as all that leads to its CA, the certificate of its manifest,
-- the manifest and the revocation list
abbrev pub until_of : Moment → Point → Moment
until_of until p = earlier until (earlier p.signer.tbs.validity.not_after
    (earlier p.manifest.next_update p.list.tbs.next_update))

-- ---- what octets hold

-- The certificate names no AS numbers, and inherits no addresses (RFC 9582, section 5).
pub record NamesPrefixesAlone (claims : Claims) : Type 0 where
  pub as_numbers : claims.as_numbers ≡ Missing
  pub v4 : claims.addresses.v4 ≢ Inherit
  pub v6 : claims.addresses.v6 ≢ Inherit

-- The octets begin with an object that is good under the CA, with this certificate, which the list
-- does not revoke, and this content.
abbrev pub HasContent : {X : Type 0} → Setting → ObjectKind X → (List ℕ → X → Type 0) → Validated
    → RevocationList → List ℕ → Certificate → X → Type 0
HasContent s kind form ca list octets cert x = HasGood s kind form ca octets (λ o.
    IsUnrevoked list o.object.signed.cert × (o.object.signed.cert ≡ cert) × (o.content ≡ x))

-- The octets begin with a ROA that is good under the CA, whose certificate the list does not revoke
-- and names prefixes alone.
abbrev pub HasRoa : Setting → Validated → RevocationList → List ℕ → Certificate → Roa → Type 0
HasRoa s ca list octets cert roa = HasContent s roa_kind RoaForm ca list octets cert roa
    × NamesPrefixesAlone cert.tbs.extensions.claims

-- The octets begin with an ASPA that is good under the CA and whose certificate the list does not
-- revoke (draft-ietf-sidrops-aspa-profile-15, section 4).
abbrev pub HasAspa : Setting → Validated → RevocationList → List ℕ → Certificate → Aspa → Type 0
HasAspa s ca list octets cert aspa =
    HasContent s aspa_kind (AspaForm s.providers) ca list octets cert aspa

-- The octets begin with the certificate of a CA, which is good under this one (RFC 6487, section
-- 7.2), which the list does not revoke, and whose validated numbers are these. That further octets
-- may follow it is this project's own rule.
abbrev pub HasCa : Setting → Validated → RevocationList → List ℕ → Validated → Type 0
HasCa s ca list octets v =
    BeginsWithCert octets (λ c. AllHold (ca_validation s.verdict c ca s.now)
    × IsUnrevoked list c × IsValidatedUnder (in_der c) ca v × AreCanonical v.sets)

-- The certificate is that of an end entity: it has no basic constraints, and its key usage is that
-- of an end entity (RFC 6487, sections 4.8.1 and 4.8.4).
abbrev pub IsEntity : Certificate → Type 0
IsEntity c = (c.tbs.extensions.key.basic_ca ≡ None) × (c.tbs.extensions.key.usage ≡ Ee)

-- The octets begin with the certificate of an end entity.
abbrev pub HasEntity : List ℕ → Type 0
HasEntity octets = BeginsWithCert octets IsEntity

-- ---- why a file is refused: the first check that fails, with nothing of the octets

-- Why a ROA is refused: a check of it fails, or its certificate does not name prefixes alone.
abbrev pub WhyNoRoa : Setting → Validated → RevocationList → List ℕ → Cause → Type 0
WhyNoRoa s ca list octets (causes.Object error) =
    Checks roa_kind RoaForm Der s.digest s.verdict ca s.now (SaysOf list) octets (Err error)
    × (¬ IsCheckMemory error) × (plain_check error ≡ error)
WhyNoRoa s ca list octets causes.RoaCertificate = (cert : Certificate) × (roa : Roa)
    × HasContent s roa_kind RoaForm ca list octets cert roa
    × (¬ NamesPrefixesAlone cert.tbs.extensions.claims)
WhyNoRoa s ca list octets cause = ⊥

-- Why an ASPA is refused: a check of it fails.
abbrev pub WhyNoAspa : Setting → Validated → RevocationList → List ℕ → Cause → Type 0
WhyNoAspa s ca list octets (causes.Object error) = Checks aspa_kind (AspaForm s.providers) Der
    s.digest s.verdict ca s.now (SaysOf list) octets (Err error)
    × (¬ IsCheckMemory error) × (plain_check error ≡ error)
WhyNoAspa s ca list octets cause = ⊥

-- Why a certificate is refused: a check of it fails. That of an end entity is passed over.
abbrev pub WhyNoCa : Setting → Validated → RevocationList → List ℕ → Cause → Type 0
WhyNoCa s ca list octets (causes.Certificate error) =
    IsCaUnder s.verdict s.now ca list octets (Err error) × (¬ IsIssuerMemory error)
    × (plain_issuer error ≡ error) × (¬ HasEntity octets)
WhyNoCa s ca list octets cause = ⊥

-- ---- what is told: what is said, and the CAs that are held

-- The refusal of what has this URI, for this cause, below the CA whose manifest has the last URI.
abbrev pub refusal : List ℕ → Cause → List ℕ → Finding
refusal uri cause under =
    findings.Refusal (record { uri = uri; cause = cause; under = under })

-- what a payload says, until this moment, by the object with this URI
abbrev pub payload_said : Moment → List ℕ → Payload → Finding
payload_said until object payload =
    findings.Payload payload (record { until = until; object = object })

-- what an origin of a ROA says
abbrev pub origin_said : Moment → List ℕ → RouteOrigin → Finding
origin_said until object origin = payload_said until object (payloads.Origin (origin_key origin))

-- what a ROA says: an origin for each of its addresses
abbrev pub origins_said : Moment → List ℕ → Roa → List Finding
origins_said until object roa =
    map (origin_said until object) (map (origin_of roa.as_id) (addresses roa))

-- what a provider of an ASPA says
abbrev pub provider_said : Moment → List ℕ → ℕ → ℕ → Finding
provider_said until object customer provider = payload_said until object
    (payloads.Provider (record { customer = customer; provider = provider }))

-- what an ASPA says: each provider of its customer
abbrev pub providers_said : Moment → List ℕ → Aspa → List Finding
providers_said until object aspa =
    map (provider_said until object aspa.customer) aspa.providers

-- the place of a child, which the CA with this manifest listed
abbrev pub child_of : Moment → List ℕ → Validated → Place
child_of until under v = record {
  ca = v;
  until = earlier until v.cert.certificate.tbs.validity.not_after;
  listed_by = Some under;
}

-- A file that should hold a ROA says its origins, until the certificate of the ROA ends or all that
-- leads to it does; or it is refused.
abbrev pub RoaTells : Setting → Validated → RevocationList → Moment → List ℕ → List ℕ → List ℕ
    → List Finding → Type 0
RoaTells s ca list until under uri octets said =
    ((cert : Certificate) × (roa : Roa) × HasRoa s ca list octets cert roa
    × (said ≡ origins_said (earlier until cert.tbs.validity.not_after) uri roa))
    ⊎ ((cause : Cause) × WhyNoRoa s ca list octets cause × (said ≡ refusal uri cause under ∷ []))

-- A file that should hold an ASPA says its providers, until the certificate of the ASPA ends or all
-- that leads to it does; or it is refused.
abbrev pub AspaTells : Setting → Validated → RevocationList → Moment → List ℕ → List ℕ → List ℕ
    → List Finding → Type 0
AspaTells s ca list until under uri octets said =
    ((cert : Certificate) × (aspa : Aspa) × HasAspa s ca list octets cert aspa
    × (said ≡ providers_said (earlier until cert.tbs.validity.not_after) uri aspa))
    ⊎ ((cause : Cause) × WhyNoAspa s ca list octets cause × (said ≡ refusal uri cause under ∷ []))

-- A file that should hold a certificate holds that of a child; or that of an end entity, which is
-- passed over; or it is refused.
abbrev pub CaTells : Setting → Validated → RevocationList → Moment → List ℕ → List ℕ → List ℕ
    → List Finding → List Place → Type 0
CaTells s ca list until under uri octets said children =
    ((v : Validated) × HasCa s ca list octets v × (said ≡ [])
    × (children ≡ child_of until under v ∷ []))
    ⊎ ((((v : Validated) → ¬ HasCa s ca list octets v) × HasEntity octets × (said ≡ [])
    × (children ≡ []))
    ⊎ ((cause : Cause) × WhyNoCa s ca list octets cause × (said ≡ refusal uri cause under ∷ [])
    × (children ≡ [])))

-- What is told by a file of this kind; under is the URI of the manifest.
abbrev pub KindTells : Setting → Validated → RevocationList → Moment → List ℕ → List ℕ → List ℕ
    → ListedKind → List Finding → List Place → Type 0
KindTells s ca list until under uri octets kinds.Roa said children =
    RoaTells s ca list until under uri octets said × (children ≡ [])
KindTells s ca list until under uri octets kinds.Aspa said children =
    AspaTells s ca list until under uri octets said × (children ≡ [])
KindTells s ca list until under uri octets kinds.Ca said children =
    CaTells s ca list until under uri octets said children
KindTells s ca list until under uri octets kinds.Other said children =
    (said ≡ []) × (children ≡ [])

-- What is told by a file that the manifest under this URI lists: nothing by the revocation list of
-- the point, which has that other URI, and by another one, which the copy has with its hash, what
-- its kind does.
abbrev pub FileTells : Setting → Validated → List ℕ → RevocationList → Moment → List ℕ → UriAndHash
    → List Finding → List Place → Type 0
FileTells s ca list_uri list until under file said children =
    ((file.0 ≡ list_uri) × (said ≡ []) × (children ≡ []))
    ⊎ ((¬ (file.0 ≡ list_uri)) × ((octets : List ℕ) × Has s file octets
    × KindTells s ca list until under (file.0) octets (kind_of (file.0)) said children))

-- what was told: findings, and the CAs that are held
pub record Told : Type 0 where
  pub said : List Finding
  pub children : List Place

-- What is told by one file after the other.
abbrev pub FilesTell : Setting → Validated → List ℕ → RevocationList → Moment → List ℕ
    → List UriAndHash → List Finding → List Place → Type 0
FilesTell s ca list_uri list until under [] said children = (said ≡ []) × (children ≡ [])
FilesTell s ca list_uri list until under (file ∷ files) said children =
    (x : Told) × (y : Told)
    × FileTells s ca list_uri list until under file x.said x.children
    × FilesTell s ca list_uri list until under files y.said y.children
    × (said ≡ x.said ++ y.said) × (children ≡ x.children ++ y.children)

-- The certificate of the CA names no folder or no manifest (RFC 6487, section 4.8.8.1). No good
-- certificate of a CA is such; where one were, it would tell nothing.
abbrev pub NamesNoPoint : Validated → Type 0
NamesNoPoint ca =
    (ca.cert.certificate.tbs.extensions.locations.subject.ca_repository ≡ None)
    ⊎ (ca.cert.certificate.tbs.extensions.locations.subject.rpki_manifest ≡ None)

-- What is told by the point in this folder, whose manifest has this URI: what its files do.
abbrev pub PointTells : Setting → Place → List ℕ → List ℕ → List Finding → List Place → Type 0
PointTells s place folder uri said children =
    (p : Point) × IsPointIn s place.ca folder uri p
    × FilesTell s place.ca p.list_uri p.list (until_of place.until p) uri
    (uris_of folder p.manifest.files) said children

-- What is told where there is no such point: that it is refused, by the first of the manifest, the
-- revocation list and the files that is not as RFC 9286, section 6, asks for. It stands below the
-- CA that listed this one, or below itself where it is a trust anchor.
abbrev pub NoPointTells : Setting → Place → List ℕ → List ℕ → List Finding → Type 0
NoPointTells s place folder uri said =
    (cause : Cause) × WhyNoPoint s place.ca folder uri cause
    × (said ≡ refusal uri cause (unwrap_or place.listed_by uri) ∷ [])

-- What a place tells: nothing, where its certificate names no point; what the files of its point
-- do; or that the point is refused.
abbrev pub PlaceTells : Setting → Place → List Finding → List Place → Type 0
PlaceTells s place said children =
    (NamesNoPoint place.ca × (said ≡ []) × (children ≡ []))
    ⊎ ((folder : List ℕ) × (uri : List ℕ) × PublishesIn place.ca folder
    × NamesManifest place.ca uri
    × (PointTells s place folder uri said children
    ⊎ (NoPointTells s place folder uri said × (children ≡ []))))
