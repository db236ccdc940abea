-- Which routes an address of a ROA stands for.
use Rattle.std.specs.Prelude.{◌≡◌, ◌≤◌, ℕ, List, All, IfSome, unwrap_or}
use Rattle.rpki_resources.specs.Prefix.{Network, first_of}
use Rattle.rpki_routes.specs.Roa.{Address}

-- The prefix of the address covers the one of the route: it is not longer, and the route begins
-- with its bits. The route is not longer than the maximum length, or than the prefix where none is
-- set. RFC 6811, section 2, calls a route matched only where its origin AS is that of the ROA, too:
-- of it nothing is asked here.
pub record IsMatched (a : Address) (route : Network) : Type 0 where
  pub shorter : a.prefix.len ≤ route.len
  pub within : route.len ≤ unwrap_or a.max_length a.prefix.len
  pub begun : first_of route.addr a.prefix.len ≡ a.prefix.addr

-- No maximum length of the addresses is above this one.
abbrev pub AreWithin : ℕ → List Address → Type 0
AreWithin most addresses = All (λ a. IfSome a.max_length (λ max. max ≤ most)) addresses
