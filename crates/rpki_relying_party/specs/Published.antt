-- What is published below a certification authority (CA), file by file: payloads, and the CAs that
-- lead to them. The sections are those of RFC 9286, where no other RFC is named.
use Rattle.std.specs.Prelude.{◌≡◌, ◌⊎◌, ℕ, List, Some, All, Contains, map}
use Rattle.rpki_basics.specs.Moment.{Moment}
use Rattle.rpki_certs.specs.Cert.{Certificate}
use Rattle.rpki_certs.specs.Validate.{Validated}
use Rattle.rpki_files.specs.Manifest.Uris.{uris_of}
use Rattle.rpki_routes.specs.Aspa.{Aspa}
use Rattle.rpki_routes.specs.Roa.{Roa, addresses, origin_of}
use Rattle.rpki_routes.specs.declared.roa.address.RouteOrigin.{RouteOrigin}
use Rattle.rpki_tal.specs.Tal.{Locator}
use Rattle.rpki_relying_party.specs.Kind.{kind_of}
use Rattle.rpki_relying_party.specs.Paths.{Leads, Passes}
use Rattle.rpki_relying_party.specs.Payload.{held_in, origin_key}
use Rattle.rpki_relying_party.specs.Place.{key_of}
use Rattle.rpki_relying_party.specs.Point.{Point, IsPointIn, Has, PublishesIn, NamesManifest}
use Rattle.rpki_relying_party.specs.Runs.{IsStartOf}
use Rattle.rpki_relying_party.specs.Setting.{Setting}
use Rattle.rpki_relying_party.specs.Tells.{HasRoa, HasAspa, HasCa, child_of, earlier, until_of}
use Rattle.rpki_relying_party.specs.Walk.{Left, places_left}
use Rattle.rpki_relying_party.specs.declared.found.Found.{Found}
use Rattle.rpki_relying_party.specs.declared.kind.ListedKind.{ListedKind}
use Rattle.rpki_relying_party.specs.declared.kind.ListedKind.TheVariants as kinds
use Rattle.rpki_relying_party.specs.declared.payload.Held.{Held}
use Rattle.rpki_relying_party.specs.declared.payload.Payload.{Payload}
use Rattle.rpki_relying_party.specs.declared.payload.Payload.TheVariants as payloads
use Rattle.rpki_relying_party.specs.declared.place.Place.{Place}

-- ---- the files of a publication point

-- This is the publication point of the CA, whose certificate names its folder and the URI of its
-- manifest (RFC 6487, section 4.8.8.1). The copy has all of it: the manifest, the revocation list,
-- and each other file that is listed, with its hash (sections 6.4 and 6.5).
pub record IsPointOf (s : Setting) (ca : Validated) (folder uri : List ℕ) (p : Point) : Type 0 where
  pub folder_named : PublishesIn ca folder
  pub manifest_named : NamesManifest ca uri
  pub point : IsPointIn s ca folder uri p
  pub files : All (λ f. (f.0 ≡ p.list_uri) ⊎ ((octets : List ℕ) × Has s f octets))
      (uris_of folder p.manifest.files)

-- A file of a publication point: the point, with the URI of its manifest, and the URI, the hash and
-- the octets of the file.
pub record PublishedFile : Type 0 where
  pub point : Point
  pub manifest_uri : List ℕ
  pub uri : List ℕ
  pub hash : List ℕ
  pub octets : List ℕ

-- The CA publishes the file, which is of this kind: the manifest lists it, the copy has it with its
-- hash, and it is not the revocation list of the point.
pub record IsPublished (s : Setting) (ca : Validated) (kind : ListedKind) (file : PublishedFile)
    : Type 0 where
  pub folder : List ℕ
  pub point : IsPointOf s ca folder file.manifest_uri file.point
  pub listed : Contains (uris_of folder file.point.manifest.files) (file.uri, file.hash)
  pub is_other : ¬ (file.uri ≡ file.point.list_uri)
  pub found : Has s (file.uri, file.hash) file.octets
  pub is_kind : kind_of file.uri ≡ kind

-- ---- payloads

-- Until when a payload holds, and by which file: until the first end of the certificate of the ROA
-- or ASPA, of the point, and of all that leads to the CA.
abbrev pub held_by : Place → PublishedFile → Certificate → Held
held_by place file cert = record {
  until = earlier (until_of place.until file.point) cert.tbs.validity.not_after;
  object = file.uri;
}

-- The CA publishes a ROA, and the payload is one of its origins: the ROA is good under the CA and
-- not revoked, and its certificate names prefixes alone.
pub record PublishesOrigin (s : Setting) (place : Place) (x : Payload) (h : Held) : Type 0 where
  pub file : PublishedFile
  pub published : IsPublished s place.ca kinds.Roa file
  pub cert : Certificate
  pub roa : Roa
  pub good : HasRoa s place.ca file.point.list file.octets cert roa
  pub origin : RouteOrigin
  pub named : Contains (map (origin_of roa.as_id) (addresses roa)) origin
  pub payload : x ≡ payloads.Origin (origin_key origin)
  pub held : h ≡ held_by place file cert

-- The CA publishes an ASPA, and the payload is one of its providers: the ASPA is good under the CA
-- and not revoked.
pub record PublishesProvider (s : Setting) (place : Place) (x : Payload) (h : Held) : Type 0 where
  pub file : PublishedFile
  pub published : IsPublished s place.ca kinds.Aspa file
  pub cert : Certificate
  pub aspa : Aspa
  pub good : HasAspa s place.ca file.point.list file.octets cert aspa
  pub provider : ℕ
  pub named : Contains aspa.providers provider
  pub payload : x ≡ payloads.Provider (record { customer = aspa.customer; provider = provider })
  pub held : h ≡ held_by place file cert

-- The CA publishes the payload, in a ROA or in an ASPA.
abbrev pub PublishesPayload : Setting → Place → Payload → Held → Type 0
PublishesPayload s place x h = PublishesOrigin s place x h ⊎ PublishesProvider s place x h

-- ---- chains

-- The first CA publishes the certificate of the second, which is good under it and not revoked.
pub record PublishesCa (s : Setting) (place child : Place) : Type 0 where
  pub file : PublishedFile
  pub published : IsPublished s place.ca kinds.Ca file
  pub ca : Validated
  pub good : HasCa s place.ca file.point.list file.octets ca
  pub is_child : child ≡ child_of (until_of place.until file.point) file.manifest_uri ca

-- A chain of CAs, of any length, leads from the start to one that publishes the payload: each
-- publishes the certificate of the next one.
abbrev pub IsPayloadBelow : Setting → Place → Payload → Held → Type 0
IsPayloadBelow s start x h =
    (path : List Place) × (place : Place) × Leads (PublishesCa s) start path place
    × PublishesPayload s place x h

-- ---- what a run finds of it

-- The payload is among what was found, whatever its hold is.
abbrev pub HoldsPayload : Found → Payload → Type 0
HoldsPayload found x = (h : Held) × (held_in found.payloads x ≡ Some h)

-- Each payload that is published below a trust anchor of the locator is held: each to which a chain
-- of CAs leads from it, of any length, though perhaps not for as long, unless some place on the
-- chain has the key of one that was left unread.
abbrev pub FindsPublished : Setting → Locator → Found → List (Left Place) → Type 0
FindsPublished s tal found unread =
    (start place : Place) (path : List Place) (x : Payload) (h : Held)
    → IsStartOf s tal start → Leads (PublishesCa s) start path place
    → PublishesPayload s place x h
    → HoldsPayload found x ⊎ Passes key_of (places_left unread) start path

-- ---- moments

-- the same copy, read at another moment
abbrev pub at_moment : Setting → Moment → Setting
at_moment s t = record s { now = t }
