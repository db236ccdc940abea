-- Texts that last for good.
use Rattle.std.specs.Prelude.{◌≡◌, length, IsUtf8}
use Rattle.rpki_der.specs.declared.static_text.StaticText.TheInside.{Inside}
pub mod Owned

-- What a text holds: the place at which its octets are seen, how many these are, and that they are
-- UTF-8 (RFC 3629).
pub record IsStaticText (t : Inside) : Type 0 where
  pub based : t.seen.ptr ≡ t.base
  pub whole : t.len ≡ length t.seen.items
  pub utf8 : IsUtf8 t.seen.items
