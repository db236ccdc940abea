-- The text of a trust anchor locator. The section is that of RFC 8630.
use Rattle.std.specs.Prelude.{◌≡◌, ◌≢◌, ℕ, List, [], ◌∷◌}
use Rattle.base64.specs.Engines.{standard}
use Rattle.base64.specs.GeneralPurpose.{encode_of, IsBytes}
use Rattle.rpki_der.specs.declared.mode.Mode.TheVariants.{Der}
use Rattle.rpki_der.specs.Grammar.{Items, Front}
use Rattle.rpki_basics.specs.Key.{KeyForm}
use Rattle.rpki_tal.specs.declared.uri.TalUri.{TalUri}
use Rattle.rpki_tal.specs.Lines.{NUMBER_SIGN, IsLine, IsComment, without_blanks}
use Rattle.rpki_tal.specs.Uri.{IsTalUri}

-- A line whose text is a URI of a trust anchor (2.2).
abbrev pub IsUriLine : List ℕ → TalUri → Type 0
IsUriLine octets uri = (text : List ℕ) × IsLine octets text × IsTalUri text uri

-- Comments come before the list, which does not begin with # (2.2).
abbrev pub HasComments : List ℕ → List ℕ → Type 0
HasComments text list =
    (comments : List (List ℕ)) × Front (Items IsComment) text comments list
    × ((more : List ℕ) → list ≢ NUMBER_SIGN ∷ more)

-- The list is URIs, each on a line of its own, and an empty line; and the rest follows it (2.2).
-- That there may be no URI is this project's own rule.
abbrev pub HasUris : List ℕ → List TalUri → List ℕ → Type 0
HasUris list uris rest =
    (end : List ℕ) × Front (Items IsUriLine) list uris end × Front IsLine end [] rest

-- The text is base64 of these octets (RFC 4648, section 4), broken up by blanks. It is canonical:
-- that bits which no octet needs have to be zeros is this project's own rule, since RFC 4648,
-- section 3.5, leaves it open.
abbrev pub IsBase64 : List ℕ → List ℕ → Type 0
IsBase64 text octets = IsBytes octets × (without_blanks text ≡ encode_of standard octets)

-- The text is base64 of octets that begin with this key (2.2). Octets after the key are left, which
-- is this project's own rule.
abbrev pub HasKey : List ℕ → List ℕ → Type 0
HasKey text key =
    (octets : List ℕ) × (after : List ℕ) × IsBase64 text octets
    × Front (KeyForm Der) octets key after

-- URIs, an empty line, and a key in base64 (2.2).
abbrev pub HasList : List ℕ → List TalUri → List ℕ → Type 0
HasList list uris key = (rest : List ℕ) × HasUris list uris rest × HasKey rest key

-- The text of a locator: comments, URIs, an empty line, and a key in base64 (2.2).
abbrev pub TalForm : List ℕ → List TalUri → List ℕ → Type 0
TalForm text uris key = (list : List ℕ) × HasComments text list × HasList list uris key

-- The text is this locator and no other.
pub record IsOnlyTal (text : List ℕ) (uris : List TalUri) (key : List ℕ) : Type 0 where
  pub form : TalForm text uris key
  pub only : (others : List TalUri) (other : List ℕ) → TalForm text others other
      → (others ≡ uris) × (other ≡ key)

-- The text is no locator.
abbrev pub IsNoTal : List ℕ → Type 0
IsNoTal text = (uris : List TalUri) (key : List ℕ) → TalForm text uris key → ⊥
