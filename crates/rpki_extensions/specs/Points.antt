-- Where the revocation list is published. The sections are those of RFC 5280, where no other RFC is
-- named.
use Rattle.std.specs.Prelude.{ℕ, List, [], ◌∷◌, Some}
use Rattle.rpki_der.specs.declared.mode.Mode.{Mode}
use Rattle.rpki_der.specs.Form.Keyed.{First, first_said}
use Rattle.rpki_der.specs.Form.Made.{Understood, partly}
use Rattle.rpki_der.specs.Form.Parts.{Sequence, Explicit, ImplicitOf, sequence_at, context_at}
use Rattle.rpki_der.specs.Read.Parse.{Parser, ◌>>=◌}
use Rattle.rpki_basics.specs.Uri.{IsRsync}
use Rattle.rpki_extensions.specs.declared.name.GeneralName.{GeneralName}
use Rattle.rpki_extensions.specs.Names.{GeneralNameForm, IsNamed, general_names_at, named}
use Rattle.rpki_extensions.specs.Uri.{rsync_of}

-- The first of the names that is an rsync URI is this one (RFC 6487, section 4.8.6). That the first
-- one counts is this project's own rule.
abbrev pub IsFirstRsync : List GeneralName → List ℕ → Type 0
IsFirstRsync names uri = First (IsNamed IsRsync) names (Some uri)

-- fullName [0] IMPLICIT GeneralNames, which is a SEQUENCE OF GeneralName (4.2.1.13), with an rsync
-- URI, of which the first one is kept
abbrev pub FullNameForm : Mode → List ℕ → List ℕ → Type 0
FullNameForm mode = Understood IsFirstRsync (ImplicitOf 0 mode (GeneralNameForm mode))

-- DistributionPoint: SEQUENCE { distributionPoint [0] DistributionPointName }, where the name is a
-- CHOICE, so that [0] is explicit (4.2.1.13). Neither reasons nor the issuer of the list are
-- allowed (RFC 6487, section 4.8.6).
abbrev pub PointForm : Mode → List ℕ → List ℕ → Type 0
PointForm mode octets uri = Sequence mode (
    (λ o. Explicit 0 mode (λ c. FullNameForm mode c uri) o)
    ∷ []) octets

-- CRLDistributionPoints: SEQUENCE { DistributionPoint } (4.2.1.13), of one point (RFC 6487, section
-- 4.8.6)
abbrev pub PointsForm : Mode → List ℕ → List ℕ → Type 0
PointsForm mode octets uri = Sequence mode (
    (λ o. PointForm mode o uri)
    ∷ []) octets

-- ---- as functions

-- the first rsync URI of the names
abbrev pub first_rsync_at : Parser (List ℕ)
first_rsync_at = partly (first_said (named rsync_of)) general_names_at

-- what stands in the point
unfoldable pub point_fields_at : Parser (List ℕ)
point_fields_at mode bytes = do
  uri ← context_at 0 (context_at 0 first_rsync_at) mode bytes
  Some uri

-- what stands in the SEQUENCE of points
unfoldable pub one_point_at : Parser (List ℕ)
one_point_at mode bytes = do
  uri ← sequence_at point_fields_at mode bytes
  Some uri

-- the URI of the list
abbrev pub points_at : Parser (List ℕ)
points_at = sequence_at one_point_at
