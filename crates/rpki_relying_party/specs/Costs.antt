-- How much work it is to read a publication point: the files that are looked for, the octets that
-- are read, and what a run holds of them then.
use Rattle.std.specs.Prelude.{◌≡◌, ◌⊎◌, ℕ, ◌+◌, ◌*◌, ◌/◌, ◌<◌, List, [], ◌∷◌, ◌++◌, length, Result}
use Rattle.std.specs.Prelude.{Ok, Err}
use Rattle.rpki_crls.specs.Crl.{RevocationList}
use Rattle.rpki_certs.specs.Cert.{Certificate}
use Rattle.rpki_certs.specs.Validate.{Validated}
use Rattle.rpki_files.specs.Manifest.{Manifest}
use Rattle.rpki_files.specs.Manifest.Uris.{UriAndHash, uris_of}
use Rattle.rpki_resources.specs.Claim.{added}
use Rattle.rpki_routes.specs.Aspa.{Aspa}
use Rattle.rpki_routes.specs.Roa.{Roa, addresses}
use Rattle.rpki_relying_party.specs.Kind.{kind_of}
use Rattle.rpki_relying_party.specs.Lacks.{IsLostFile, WhyNoManifestOf, WhyNoList}
use Rattle.rpki_relying_party.specs.Point.{Has, IsManifestAt, IsListFile, IsListAt, PublishesIn}
use Rattle.rpki_relying_party.specs.Point.{NamesManifest}
use Rattle.rpki_relying_party.specs.Setting.{Setting}
use Rattle.rpki_relying_party.specs.Tells.{HasRoa, HasAspa, HasCa, NamesNoPoint}
use Rattle.rpki_relying_party.specs.declared.cause.Cause.{Cause}
use Rattle.rpki_relying_party.specs.declared.cause.Cause.TheVariants as causes
use Rattle.rpki_relying_party.specs.declared.cause.ManifestFault.TheVariants as manifests
use Rattle.rpki_relying_party.specs.declared.copy.NoFile.{NoFile}
use Rattle.rpki_relying_party.specs.declared.kind.ListedKind.{ListedKind}
use Rattle.rpki_relying_party.specs.declared.kind.ListedKind.TheVariants as kinds
use Rattle.rpki_relying_party.specs.declared.place.Place.{Place}

-- ---- what one thing costs

-- to look for a file, which is opened, and may have two signatures
abbrev pub opening_cost : ℕ
opening_cost = 1024

-- how many blocks the three sets of a CA have
abbrev pub blocks_of : Validated → ℕ
blocks_of v = length v.sets.as_numbers + (length v.sets.v4 + length v.sets.v6)

-- how many blocks a certificate claims of the three families, where it does not inherit
abbrev pub claimed_of : Certificate → ℕ
claimed_of c = length (added c.tbs.extensions.claims.as_numbers)
    + (length (added c.tbs.extensions.claims.addresses.v4)
    + length (added c.tbs.extensions.claims.addresses.v6))

-- To look for a file that a CA lists, whose manifest has the first of these URIs, and the file the
-- second. A certificate that inherits copies the sets of the CA, and a refusal holds both URIs.
abbrev pub listing_cost : Validated → List ℕ → List ℕ → ℕ
listing_cost ca under uri =
    opening_cost + blocks_of ca / 8 + 16 * (length uri + length under)

-- what a refusal takes that names a file: 16 for each octet of its URI
abbrev pub naming_cost : List ℕ → ℕ
naming_cost uri = 16 * length uri

-- to look for the revocation list of a manifest, which a refusal may name
abbrev pub list_cost : List ℕ → ℕ
list_cost uri = opening_cost + naming_cost uri

-- what the refusal of a manifest takes: it may name a file that is listed twice
abbrev pub named_cost : Cause → ℕ
named_cost (causes.Manifest (manifests.Twice uri)) = naming_cost uri
named_cost cause = 0

-- what was found for a URI: this price for looking for it, and one for each octet
abbrev pub found_cost : ℕ → Result (List ℕ) NoFile → ℕ
found_cost price (Ok octets) = price + length octets
found_cost price (Err why) = price

-- what a payload takes, with the URI of the object that says it
abbrev pub payload_cost : ℕ
payload_cost = 2048

-- what a place takes that waits: 16,384, and 8 for each octet of the file with its certificate,
-- also of those after it, and 1,024 for each block of its sets and for each that it claims, which
-- are more where it may claim what its issuer does not have (RFC 8360)
abbrev pub waiting_cost : List ℕ → Validated → ℕ
waiting_cost octets v =
    16384 + 8 * length octets + 1024 * (blocks_of v + claimed_of v.cert.certificate)

-- ---- what is spent, and what on some first steps

-- What a read of a URI costs, at this price for looking for it.
abbrev pub ReadCosts : Setting → ℕ → List ℕ → ℕ → Type 0
ReadCosts s price uri n =
    (found : Result (List ℕ) NoFile) × s.finds uri found × (n ≡ found_cost price found)

-- What some first steps of it cost: that the file is looked for, or all.
abbrev pub ReadStarts : Setting → ℕ → List ℕ → ℕ → Type 0
ReadStarts s price uri n = (n ≡ price) ⊎ ReadCosts s price uri n

-- What is spent on the one thing that is there: what it costs, or nothing where there is none.
abbrev pub CostsOf : {X : Type 0} → (X → Type 0) → (X → ℕ) → ℕ → Type 0
CostsOf {X} Is cost n = ((x : X) × Is x × (n ≡ cost x)) ⊎ (((x : X) → ¬ Is x) × (n ≡ 0))

-- What is spent on what the octets of a file of this kind tell, which the run holds then: on each
-- payload of a good ROA or ASPA, and on the place of a good CA.
abbrev pub HeldCosts : Setting → Validated → RevocationList → ListedKind → List ℕ → ℕ → Type 0
HeldCosts s ca list kinds.Roa octets n =
    CostsOf (λ (o : Certificate × Roa). HasRoa s ca list octets (o.0) (o.1))
    (λ o. payload_cost * length (addresses (o.1))) n
HeldCosts s ca list kinds.Aspa octets n =
    CostsOf (λ (o : Certificate × Aspa). HasAspa s ca list octets (o.0) (o.1))
    (λ o. payload_cost * length o.1.providers) n
HeldCosts s ca list kinds.Ca octets n =
    CostsOf (HasCa s ca list octets) (waiting_cost octets) n
HeldCosts s ca list kinds.Other octets n = n ≡ 0

-- What is spent on a file that the manifest under this URI lists, and that the copy has: on its
-- octets, and on what they tell.
abbrev pub JudgedCosts : Setting → Validated → RevocationList → List ℕ → UriAndHash → ℕ → Type 0
JudgedCosts s ca list under file n = (octets : List ℕ) × (m : ℕ) × Has s file octets
    × HeldCosts s ca list (kind_of (file.0)) octets m
    × (n ≡ found_cost (listing_cost ca under (file.0)) (Ok octets) + m)

-- What is spent on a listed file that is there. On the revocation list, which has the first of
-- these URIs, nothing is spent: it was read before.
abbrev pub FileCosts : Setting → Validated → List ℕ → RevocationList → List ℕ → UriAndHash → ℕ
    → Type 0
FileCosts s ca list_uri list under file n = ((file.0 ≡ list_uri) × (n ≡ 0))
    ⊎ ((¬ (file.0 ≡ list_uri)) × JudgedCosts s ca list under file n)

-- What is spent on some first steps with a listed file: on looking for it, on reading it, or on
-- all.
abbrev pub FileStarts : Setting → Validated → List ℕ → RevocationList → List ℕ → UriAndHash → ℕ
    → Type 0
FileStarts s ca list_uri list under file n = (¬ (file.0 ≡ list_uri))
    × (ReadStarts s (listing_cost ca under (file.0)) (file.0) n
    ⊎ JudgedCosts s ca list under file n)

-- What is spent on a listed file that refuses the point.
abbrev pub LostCosts : Setting → Validated → List ℕ → List ℕ → UriAndHash → ℕ → Type 0
LostCosts s ca list_uri under file n = (¬ (file.0 ≡ list_uri))
    × ((cause : Cause) × IsLostFile s file cause)
    × ReadCosts s (listing_cost ca under (file.0)) (file.0) n

-- What is spent on one file after the other, each of which is there.
abbrev pub FilesCost : Setting → Validated → List ℕ → RevocationList → List ℕ → List UriAndHash → ℕ
    → Type 0
FilesCost s ca list_uri list under [] n = n ≡ 0
FilesCost s ca list_uri list under (file ∷ files) n = (a : ℕ) × (b : ℕ)
    × FileCosts s ca list_uri list under file a × FilesCost s ca list_uri list under files b
    × (n ≡ a + b)

-- What is spent on some first files, each of which is there, and on the next one, so much.
pub record FirstCost (s : Setting) (ca : Validated) (list_uri : List ℕ) (list : RevocationList)
    (under : List ℕ) (Next : UriAndHash → ℕ → Type 0) (files : List UriAndHash) (n : ℕ)
    : Type 0 where
  pub before : List UriAndHash
  pub file : UriAndHash
  pub after : List UriAndHash
  pub order : files ≡ before ++ file ∷ after
  pub first : ℕ
  pub next : ℕ
  pub spent_first : FilesCost s ca list_uri list under before first
  pub spent_next : Next file next
  pub sum : n ≡ first + next

-- What is spent on the files of a manifest up to one that refuses the point.
abbrev pub FilesLost : Setting → Validated → List ℕ → RevocationList → List ℕ → List UriAndHash → ℕ
    → Type 0
FilesLost s ca list_uri list under files n =
    FirstCost s ca list_uri list under (LostCosts s ca list_uri under) files n

-- What is spent on some first files, and on some first steps with the next one.
abbrev pub FilesStart : Setting → Validated → List ℕ → RevocationList → List ℕ → List UriAndHash → ℕ
    → Type 0
FilesStart s ca list_uri list under files n =
    FirstCost s ca list_uri list under (FileStarts s ca list_uri list under) files n

-- What is spent on the revocation list of a manifest: nothing, where its certificate names no
-- listed file.
abbrev pub ListCosts : Setting → List ℕ → Certificate → Manifest → ℕ → Type 0
ListCosts s folder signer manifest n =
    (((file : UriAndHash) → ¬ IsListFile folder signer manifest file) × (n ≡ 0))
    ⊎ ((file : UriAndHash) × IsListFile folder signer manifest file
    × ReadCosts s (list_cost (file.0)) (file.0) n)

-- What is spent on some first steps with the revocation list of a manifest.
abbrev pub ListStarts : Setting → List ℕ → Certificate → Manifest → ℕ → Type 0
ListStarts s folder signer manifest n =
    (file : UriAndHash) × IsListFile folder signer manifest file
    × ReadStarts s (list_cost (file.0)) (file.0) n

-- There is a revocation list, and so much is spent on it, and on the files after it.
abbrev pub AfterList : Setting → Validated → List ℕ → Certificate → Manifest
    → (List ℕ → RevocationList → List UriAndHash → ℕ → Type 0) → ℕ → Type 0
AfterList s ca folder signer manifest Files n =
    (list_uri : List ℕ) × (list : RevocationList) × (a : ℕ) × (b : ℕ)
    × IsListAt s ca folder signer manifest list_uri list × ListCosts s folder signer manifest a
    × Files list_uri list (uris_of folder manifest.files) b × (n ≡ a + b)

-- What is spent after the manifest, which has the second of these URIs: on the revocation list,
-- which is read first, and where there is one, on the files.
abbrev pub ListedCosts : Setting → Validated → List ℕ → List ℕ → Certificate → Manifest → ℕ → Type 0
ListedCosts s ca folder under signer manifest n =
    (((cause : Cause) × WhyNoList s ca folder signer manifest cause)
    × ListCosts s folder signer manifest n)
    ⊎ AfterList s ca folder signer manifest (λ list_uri list files m.
    FilesCost s ca list_uri list under files m ⊎ FilesLost s ca list_uri list under files m) n

-- What is spent on some first steps after the manifest.
abbrev pub ListedStarts : Setting → Validated → List ℕ → List ℕ → Certificate → Manifest → ℕ
    → Type 0
ListedStarts s ca folder under signer manifest n = ListStarts s folder signer manifest n
    ⊎ AfterList s ca folder signer manifest (λ list_uri list files m.
    FilesStart s ca list_uri list under files m) n

-- There is a manifest, and so much is spent on it, and after it.
abbrev pub AfterManifest : Setting → Validated → List ℕ → List ℕ
    → (Certificate → Manifest → ℕ → Type 0) → ℕ → Type 0
AfterManifest s ca folder uri Listed n =
    (signer : Certificate) × (manifest : Manifest) × (a : ℕ) × (b : ℕ)
    × IsManifestAt s ca folder uri signer manifest × ReadCosts s opening_cost uri a
    × Listed signer manifest b × (n ≡ a + b)

-- What is spent on a manifest that is refused for this: on reading it, and on the refusal.
abbrev pub RefusedCosts : Setting → List ℕ → Cause → ℕ → Type 0
RefusedCosts s uri cause n =
    (m : ℕ) × ReadCosts s opening_cost uri m × (n ≡ m + named_cost cause)

-- What is spent on the manifest with this URI, where it refuses the point in this folder.
abbrev pub NoManifestCosts : Setting → Validated → List ℕ → List ℕ → ℕ → Type 0
NoManifestCosts s ca folder uri n =
    (cause : Cause) × WhyNoManifestOf s ca folder uri cause × RefusedCosts s uri cause n

-- What is spent on some first steps with the manifest, or on all, where it refuses the point.
abbrev pub ManifestStarts : Setting → Validated → List ℕ → List ℕ → ℕ → Type 0
ManifestStarts s ca folder uri n =
    ReadStarts s opening_cost uri n ⊎ NoManifestCosts s ca folder uri n

-- What is spent on the point in this folder, whose manifest has this URI: on the manifest, and
-- where it is good and current, after it.
abbrev pub PointCosts : Setting → Validated → List ℕ → List ℕ → ℕ → Type 0
PointCosts s ca folder uri n = NoManifestCosts s ca folder uri n
    ⊎ AfterManifest s ca folder uri (ListedCosts s ca folder uri) n

-- What is spent on some first steps with the point in this folder, whose manifest has this URI.
abbrev pub PointStarts : Setting → Validated → List ℕ → List ℕ → ℕ → Type 0
PointStarts s ca folder uri n = ManifestStarts s ca folder uri n
    ⊎ AfterManifest s ca folder uri (ListedStarts s ca folder uri) n

-- What is spent on a place: one, where its certificate names no point, and else on its point.
abbrev pub OnPlace : Place → (List ℕ → List ℕ → ℕ → Type 0) → ℕ → Type 0
OnPlace place Point n = (NamesNoPoint place.ca × (n ≡ 1))
    ⊎ ((folder : List ℕ) × (uri : List ℕ) × PublishesIn place.ca folder
    × NamesManifest place.ca uri × Point folder uri n)

-- To read the place is so much work.
abbrev pub PlaceCosts : Setting → Place → ℕ → Type 0
PlaceCosts s place n = OnPlace place (PointCosts s place.ca) n

-- To read the place is more work than so much: some first steps are.
abbrev pub PlaceExceeds : Setting → Place → ℕ → Type 0
PlaceExceeds s place room =
    (n : ℕ) × OnPlace place (PointStarts s place.ca) n × (room < n)
