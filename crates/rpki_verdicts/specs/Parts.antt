-- The parts of a line, by their places.
use Rattle.std.specs.Prelude.{◌≡◌, ℕ, ◌+◌, List, take, drop, slice_index}
use Rattle.rpki_verdicts.specs.Verdicts.{digest_length, AreDigits}

-- the code of a space
abbrev pub space : ℕ
space = 32

-- the code of LF
abbrev pub line_feed : ℕ
line_feed = 10

-- where the digest of the message begins: after that of the key and a space
abbrev pub message_place : ℕ
message_place = digest_length + 1

-- where the digest of the signature begins: after that of the message and a space
abbrev pub signature_place : ℕ
signature_place = message_place + digest_length + 1

-- the two spaces and the LF stand at their places
pub record IsSpaced (line : List ℕ) : Type 0 where
  pub first : slice_index line digest_length ≡ space
  pub second : slice_index line (message_place + digest_length) ≡ space
  pub last : slice_index line (signature_place + digest_length) ≡ line_feed

-- the separators stand at their places, and these are the three parts before them
pub record HasParts (line key message signature : List ℕ) : Type 0 where
  pub spaced : IsSpaced line
  pub first : take digest_length line ≡ key
  pub second : take digest_length (drop message_place line) ≡ message
  pub third : take digest_length (drop signature_place line) ≡ signature

-- the separators stand at their places, and the parts before them are lower hexadecimal digits
pub record HasDigests (line : List ℕ) : Type 0 where
  pub spaced : IsSpaced line
  pub first : AreDigits (take digest_length line)
  pub second : AreDigits (take digest_length (drop message_place line))
  pub third : AreDigits (take digest_length (drop signature_place line))
