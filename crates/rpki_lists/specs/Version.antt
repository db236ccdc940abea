-- The version of a content, where it is 0.
use Rattle.std.specs.Prelude.{ℕ, List}
use Rattle.rpki_der.specs.Tags.{INTEGER}
use Rattle.rpki_der.specs.declared.mode.Mode.{Mode}
use Rattle.rpki_der.specs.Grammar.{Integer, Optional}
use Rattle.rpki_der.specs.Read.Parse.{Parser, primitive, this}
use Rattle.rpki_der.specs.Form.Made.{Ignored}
use Rattle.rpki_der.specs.Form.Parts.{Explicit, context_at}

-- [0] INTEGER that is 0 (RFC 9286, section 4.2.1; RFC 9323, section 4.1; RFC 9582, section 4.1;
-- draft-michaelson-rpki-rta, section 4)
abbrev pub VersionForm : Mode → List ℕ → Unit {0} → Type 0
VersionForm mode octets _ = Explicit 0 mode (λ c. Integer mode c 0) octets

-- version [0] INTEGER DEFAULT 0: it may be left out. That it may be written in DER too, against
-- X.690, section 11.5, is this project's own rule.
abbrev pub OptionalVersion : Mode → List ℕ → Type 0
OptionalVersion mode = Ignored (Optional (VersionForm mode))

-- the version
abbrev pub version_at : Parser (Unit {0})
version_at = context_at 0 (primitive INTEGER (this 0))
