-- What a trust anchor locator says.
use Rattle.std.specs.Prelude.{ℕ, List}
use Rattle.rpki_tal.specs.declared.uri.TalUri.{TalUri}

-- A locator.
pub record Locator : Type 0 where
  -- the octets of the name that the caller gave it
  pub name : List ℕ
  -- where the certificate of the trust anchor is published, in the order of preference
  pub uris : List TalUri
  -- the bits of the trust anchor's key
  pub key : List ℕ
