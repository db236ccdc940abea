-- Where more is to be had: access descriptions. The sections are those of RFC 5280, where no other
-- RFC is named.
use Rattle.std.specs.Prelude.{◌≡◌, ℕ, List, [], ◌∷◌, Option, None, Some, if◌then◌else◌, bytes_eq}
use Rattle.rpki_der.specs.declared.mode.Mode.{Mode}
use Rattle.rpki_der.specs.Grammar.{ObjectIdentifier}
use Rattle.rpki_der.specs.Form.Keyed.{First, first_said}
use Rattle.rpki_der.specs.Form.Made.{Understood, made}
use Rattle.rpki_der.specs.Form.Parts.{Sequence, SequenceOf, sequence_at, items_at}
use Rattle.rpki_der.specs.Read.Parse.{Parser, ◌>>=◌, oid_at}
use Rattle.rpki_der.specs.Tags.{SEQUENCE}
use Rattle.rpki_basics.specs.Uri.{IsRsync, IsHttps}
use Rattle.rpki_extensions.specs.declared.access.Access.{Access}
use Rattle.rpki_extensions.specs.declared.access.SubjectAccess.{SubjectAccess}
use Rattle.rpki_extensions.specs.Identifiers.{id_pkix}
use Rattle.rpki_extensions.specs.Names.{GeneralNameForm, IsNamed, general_name_at, named}
use Rattle.rpki_extensions.specs.Uri.{rsync_of, https_of}

-- id-ad, and an arc (4.2.2.1)
abbrev pub id_ad : ℕ → List ℕ
id_ad arc = id_pkix 0x30 arc

-- id-ad-caIssuers (4.2.2.1)
abbrev pub ca_issuers : List ℕ
ca_issuers = id_ad 2

-- id-ad-caRepository (4.2.2.2)
abbrev pub ca_repository : List ℕ
ca_repository = id_ad 5

-- id-ad-rpkiManifest (RFC 6487, section 4.8.8.1)
abbrev pub rpki_manifest : List ℕ
rpki_manifest = id_ad 10

-- id-ad-signedObject (RFC 6487, section 4.8.8.2)
abbrev pub signed_object : List ℕ
signed_object = id_ad 11

-- id-ad-rpkiNotify (RFC 8182, section 3.2)
abbrev pub rpki_notify : List ℕ
rpki_notify = id_ad 13

-- AccessDescription: SEQUENCE { accessMethod OBJECT IDENTIFIER, accessLocation GeneralName }
-- (4.2.2.1)
abbrev pub AccessForm : Mode → List ℕ → Access → Type 0
AccessForm mode octets access = Sequence mode (
    (λ o. ObjectIdentifier mode o access.method)
    ∷ (λ o. GeneralNameForm mode o access.location)
    ∷ []) octets

-- The description has this method, and its location is this URI, of whose text P holds.
abbrev pub IsLocated : (List ℕ → Type 0) → List ℕ → Access → List ℕ → Type 0
IsLocated P method access uri = (access.method ≡ method) × IsNamed P access.location uri

-- The first rsync URI of the issuer's certificate, if there is one (RFC 6487, section 4.8.7). That
-- the first one counts, and that there may be none, is this project's own rule.
abbrev pub IsIssuerAccess : List Access → Option (List ℕ) → Type 0
IsIssuerAccess list uri = First (IsLocated IsRsync ca_issuers) list uri

-- AuthorityInfoAccessSyntax: SEQUENCE OF AccessDescription (4.2.2.1). That there may be none is
-- this project's own rule.
abbrev pub AuthorityAccessForm : Mode → List ℕ → Option (List ℕ) → Type 0
AuthorityAccessForm mode = Understood IsIssuerAccess (SequenceOf mode (AccessForm mode))

-- Each is the first rsync URI of its method, and for the notification file the first https URI, if
-- there is one (RFC 6487, section 4.8.8; RFC 8182, section 3.2). URIs of another scheme are gone
-- past. That the first one counts, and that there may be none, is this project's own rule.
pub record AreSubjectAccess (list : List Access) (x : SubjectAccess) : Type 0 where
  pub ca_repository : First (IsLocated IsRsync ca_repository) list x.ca_repository
  pub rpki_manifest : First (IsLocated IsRsync rpki_manifest) list x.rpki_manifest
  pub signed_object : First (IsLocated IsRsync signed_object) list x.signed_object
  pub rpki_notify : First (IsLocated IsHttps rpki_notify) list x.rpki_notify

-- SubjectInfoAccessSyntax: SEQUENCE OF AccessDescription (4.2.2.2). That there may be none is this
-- project's own rule.
abbrev pub SubjectAccessForm : Mode → List ℕ → SubjectAccess → Type 0
SubjectAccessForm mode = Understood AreSubjectAccess (SequenceOf mode (AccessForm mode))

-- ---- as functions

-- what stands in the SEQUENCE
unfoldable pub access_fields_at : Parser Access
access_fields_at mode bytes = do
  method ← oid_at mode bytes
  location ← general_name_at mode method.1
  Some (record { method = method.0; location = location.0 }, location.1)

-- an access description
abbrev pub access_at : Parser Access
access_at = sequence_at access_fields_at

-- access descriptions, as many as there are
abbrev pub accesses_at : Parser (List Access)
accesses_at = items_at SEQUENCE access_at

-- the URI of a description with this method, by what makes one of a text
abbrev pub located : {X : Type 0} → (List ℕ → Option X) → List ℕ → Access → Option X
located of method access = if bytes_eq access.method method then named of access.location else None

-- the first rsync URI of the issuer's certificate
abbrev pub issuer_of : List Access → Option (List ℕ)
issuer_of list = first_said (located rsync_of ca_issuers) list

-- what the descriptions say of the subject
abbrev pub subject_of : List Access → SubjectAccess
subject_of list = record {
  ca_repository = first_said (located rsync_of ca_repository) list;
  rpki_manifest = first_said (located rsync_of rpki_manifest) list;
  signed_object = first_said (located rsync_of signed_object) list;
  rpki_notify = first_said (located https_of rpki_notify) list;
}

-- What reads the access descriptions of the issuer: the URI of its certificate, if they have one.
abbrev pub authority_access_at : Parser (Option (List ℕ))
authority_access_at = sequence_at (made issuer_of accesses_at)

-- What reads the access descriptions of a certificate's subject.
abbrev pub subject_access_at : Parser SubjectAccess
subject_access_at = sequence_at (made subject_of accesses_at)
