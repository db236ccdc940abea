-- The key of a place: octets that hold all that decides what the place says, but for until when,
-- and below which CA a refusal stands.
use Rattle.std.specs.Prelude.{◌≡◌, ℕ, ◌/◌, ◌^◌, List, [], ◌∷◌, ◌++◌, Option, None, Some, length}
use Rattle.std.specs.Int.{bytes_high_first}
use Rattle.std.specs.List.{flat_map}
use Rattle.rpki_resources.specs.declared.block.Block.{Block}
use Rattle.rpki_certs.specs.Cert.{Tbs}
use Rattle.rpki_certs.specs.Validate.{Sets}
use Rattle.rpki_relying_party.specs.declared.place.Place.{Place}

-- The number in k + 1 octets, the highest first. One that they can't hold makes the first larger
-- than an octet, so no two numbers have the same.
unfoldable pub octets_of : ℕ → ℕ → List ℕ
octets_of k n = n / 256 ^ k ∷ bytes_high_first k n

-- octets, after their number
abbrev pub part_of : List ℕ → List ℕ
part_of octets = octets_of 7 (length octets) ++ octets

-- a URI, after whether there is one
abbrev pub uri_part : Option (List ℕ) → List ℕ
uri_part None = 0 ∷ []
uri_part (Some uri) = 1 ∷ part_of uri

-- the two ends of a block
abbrev pub ends_of : {T : Type 0} → (T → ℕ) → Block T → List ℕ
ends_of f b = octets_of 15 (f b.min) ++ octets_of 15 (f b.max)

-- the ends of each block, after their number
abbrev pub set_part : {T : Type 0} → (T → ℕ) → List (Block T) → List ℕ
set_part f blocks = octets_of 7 (length blocks) ++ flat_map (ends_of f) blocks

-- what is signed of the certificate of the CA
abbrev pub tbs_of : Place → Tbs
tbs_of p = p.ca.cert.certificate.tbs

-- the public key and its identifier, and the URIs of the folder and of the manifest
abbrev pub cert_part : Tbs → List ℕ
cert_part t =
    part_of t.key ++ (part_of t.extensions.key.subject_key
    ++ (uri_part t.extensions.locations.subject.ca_repository
    ++ uri_part t.extensions.locations.subject.rpki_manifest))

-- the three sets
abbrev pub sets_part : Sets → List ℕ
sets_part s =
    set_part (λ (n : ℕ). n) s.as_numbers
    ++ (set_part (λ (n : ℕ). n) s.v4 ++ set_part (λ (n : ℕ). n) s.v6)

-- the key of a place
abbrev pub key_of : Place → List ℕ
key_of p = cert_part (tbs_of p) ++ sets_part p.ca.sets

-- The two places agree on all that their keys are made of.
pub record AreAlike (p q : Place) : Type 0 where
  pub key : (tbs_of p).key ≡ (tbs_of q).key
  pub identifier : (tbs_of p).extensions.key.subject_key ≡ (tbs_of q).extensions.key.subject_key
  pub folder : (tbs_of p).extensions.locations.subject.ca_repository
      ≡ (tbs_of q).extensions.locations.subject.ca_repository
  pub manifest : (tbs_of p).extensions.locations.subject.rpki_manifest
      ≡ (tbs_of q).extensions.locations.subject.rpki_manifest
  pub as_numbers : p.ca.sets.as_numbers ≡ q.ca.sets.as_numbers
  pub v4 : p.ca.sets.v4 ≡ q.ca.sets.v4
  pub v6 : p.ca.sets.v6 ≡ q.ca.sets.v6
