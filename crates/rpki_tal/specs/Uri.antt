-- URIs of trust anchors (RFC 8630, section 2.2), and their order.
use Rattle.std.specs.Prelude.{◌≡◌, ℕ, Bool, true, false, not, List, ◌++◌, codes, Result, Ok, Err}
use Rattle.std.specs.List.{filter}
use Rattle.rpki_basics.specs.declared.uri.Error.{Error}
use Rattle.rpki_basics.specs.declared.uri.Error.TheVariants.{InvalidCharacters, BadScheme, BadUri}
use Rattle.rpki_basics.specs.declared.uri.Error.TheVariants.{Memory}
use Rattle.rpki_basics.specs.Uri.{IsRsync, IsHttps, AreHttpsSegments, IsUriOf}
use Rattle.rpki_tal.specs.declared.uri.TalUri.{TalUri}
use Rattle.rpki_tal.specs.declared.uri.TalUri.TheVariants.{Rsync, Https}

-- The text of a URI.
abbrev pub uri_text : TalUri → List ℕ
uri_text (Rsync text) = text
uri_text (Https text) = text

-- Whether a URI is an https URI.
abbrev pub is_https : TalUri → Bool
is_https (Rsync text) = false
is_https (Https text) = true

-- The text is this URI of a trust anchor: an rsync URI or an https URI (RFC 8630, section 2.2).
-- That the URI of a directory, which RFC 8630, section 2.3, forbids, is not refused is this
-- project's own rule.
abbrev pub IsTalUri : List ℕ → TalUri → Type 0
IsTalUri text (Rsync uri) = (uri ≡ text) × IsRsync text
IsTalUri text (Https uri) = (uri ≡ text) × IsHttps text

-- The text is no rsync URI, and no https URI for this cause.
abbrev pub IsNoTalUri : List ℕ → Error → Type 0
IsNoTalUri text cause =
    ¬ IsRsync text × IsUriOf (codes "https") AreHttpsSegments text (Err cause)

-- The URI of this text, or the cause why it is none, unless memory runs out.
abbrev pub IsTalUriOf : List ℕ → Result TalUri Error → Type 0
IsTalUriOf text (Ok uri) = IsTalUri text uri
IsTalUriOf text (Err InvalidCharacters) = IsNoTalUri text InvalidCharacters
IsTalUriOf text (Err BadScheme) = IsNoTalUri text BadScheme
IsTalUriOf text (Err BadUri) = IsNoTalUri text BadUri
IsTalUriOf text (Err Memory) = Unit {0}

-- The https URIs in their order, and then the rsync URIs in theirs.
abbrev pub https_first : List TalUri → List TalUri
https_first uris = filter is_https uris ++ filter (λ uri. not (is_https uri)) uris
