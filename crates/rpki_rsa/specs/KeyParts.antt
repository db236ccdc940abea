-- A key, part by part.
use Rattle.std.specs.Prelude.{◌≡◌, ℕ, ◌+◌, ◌/◌, ◌%◌, ◌<◌, ◌≤◌, List, [], ◌∷◌, ◌++◌, length}
use Rattle.std.specs.Prelude.{slice_index}
use Rattle.rpki_der.specs.Numbers.{number}
use Rattle.rpki_der.specs.Tags.{SEQUENCE, INTEGER}
use Rattle.rpki_der.specs.Write.Written.{not_negative}
use Rattle.rpki_rsa.specs.Signature.{key_with, IsRsaKey, HasOctets, least_octets, most_octets}
use Rattle.rpki_rsa.specs.Signature.{header_octets, octets_after}

-- the first octet of a length that has two octets more (X.690, section 8.1.3.5)
abbrev pub length_of_two_octets : ℕ
length_of_two_octets = 0x82

-- the header of a value with this number of octets of contents, which are 256 to 65535 (X.690,
-- sections 8.1.2 and 8.1.3.5)
abbrev pub header : ℕ → ℕ → List ℕ
header identifier k = identifier ∷ length_of_two_octets ∷ k / 256 ∷ k % 256 ∷ []

-- the octets in front of this number of octets of a modulus' contents, which are 256 to 513
abbrev pub key_front : ℕ → List ℕ
key_front k = header SEQUENCE (k + (header_octets + octets_after)) ++ header INTEGER k

-- the INTEGER 65537
abbrev pub key_end : List ℕ
key_end = INTEGER ∷ 0x03 ∷ 0x01 ∷ 0x00 ∷ 0x01 ∷ []

-- The key has these contents of its modulus: 256 to 513 octets, since a zero may stand in front.
pub record HasContents (key contents : List ℕ) : Type 0 where
  pub whole : key ≡ key_with contents
  pub least : least_octets ≤ length contents
  pub most : length contents ≤ most_octets + 1

-- the octets of a number that is not zero, without zeros in front, and the contents of an INTEGER
-- that has it
pub record HasDigits (contents octets : List ℕ) : Type 0 where
  pub whole : contents ≡ not_negative octets
  pub head : 0 < slice_index octets 0

-- the octets are those of the modulus of the key
pub record IsModulusOf (key octets : List ℕ) : Type 0 where
  pub is_key : IsRsaKey key (number 0 octets)
  pub long : HasOctets (number 0 octets) (length octets)
  pub least : least_octets ≤ length octets
  pub most : length octets ≤ most_octets
