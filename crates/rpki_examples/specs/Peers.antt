-- Lists of peers: a format of this crate's own, with an optional field and a list.
use Rattle.std.specs.Prelude.{ℕ, ◌<◌, ◌^◌, List, [], ◌∷◌, ◌++◌, Option, Some, All}
use Rattle.std.specs.List.{flat_map}
use Rattle.rpki_der.specs.declared.mode.Mode.{Mode}
use Rattle.rpki_der.specs.Tags.{SEQUENCE, INTEGER, IA5_STRING}
use Rattle.rpki_der.specs.Grammar.{IntegerBelow, Ia5String, Optional}
use Rattle.rpki_der.specs.Form.Parts.{Sequence, SequenceOf, sequence_of_at}
use Rattle.rpki_der.specs.Read.Parse.{Parser, ◌>>=◌, optional, u32_at, ia5_at}
use Rattle.rpki_der.specs.Write.Parts.{optional_octets, IsEach}
use Rattle.rpki_der.specs.Write.Written.{value_octets, number_octets}

-- what a list of peers says
pub record PeerList : Type 0 where
  pub local : ℕ
  pub note : Option (List ℕ)
  pub peers : List ℕ

-- the numbers and the characters are those that the ASN.1 has
pub record IsPeerList (p : PeerList) : Type 0 where
  pub local : p.local < 2 ^ 32
  pub note : IsEach (All (λ c. c < 128)) p.note
  pub peers : All (λ n. n < 2 ^ 32) p.peers

-- SEQUENCE { local INTEGER (0..4294967295), note IA5String OPTIONAL, peers SEQUENCE OF INTEGER
-- (0..4294967295) }
abbrev pub PeersForm : Mode → List ℕ → PeerList → Type 0
PeersForm mode octets p = Sequence mode (
    (λ o. IntegerBelow (2 ^ 32) mode o p.local)
    ∷ (λ o. Optional (Ia5String mode) o p.note)
    ∷ (λ o. SequenceOf mode (IntegerBelow (2 ^ 32) mode) o p.peers)
    ∷ []) octets

-- the fields, as they are read one after another
unfoldable pub fields_at : Parser PeerList
fields_at mode octets = do
  local ← u32_at mode octets
  note ← optional IA5_STRING ia5_at mode local.1
  peers ← sequence_of_at INTEGER u32_at mode note.1
  Some (record { local = local.0; note = note.0; peers = peers.0 }, peers.1)

-- the fields, as they are written
abbrev pub peers_contents : PeerList → List ℕ
peers_contents p =
    number_octets p.local
    ++ (optional_octets (value_octets IA5_STRING) p.note
    ++ value_octets SEQUENCE (flat_map number_octets p.peers))

-- a list of peers in DER
abbrev pub peers_octets : PeerList → List ℕ
peers_octets p = value_octets SEQUENCE (peers_contents p)
