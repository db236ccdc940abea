-- Certificate policies.
use Rattle.std.specs.Prelude.{ℕ, List, [], ◌∷◌, Option, Some, None, bytes_eq, if◌then◌else◌}
use Rattle.rpki_der.specs.declared.mode.Mode.{Mode}
use Rattle.rpki_der.specs.Grammar.{ObjectIdentifier, ListOf, Skipped}
use Rattle.rpki_der.specs.Numbers.{MAX_DEPTH}
use Rattle.rpki_der.specs.Form.Made.{partly}
use Rattle.rpki_der.specs.Form.Parts.{Sequence, sequence_at}
use Rattle.rpki_der.specs.Read.Parse.{Parser, ◌>>=◌, oid_at, skip_all_at}
use Rattle.rpki_faults.specs.declared.overclaim.Overclaim.{Overclaim}
use Rattle.rpki_faults.specs.declared.overclaim.Overclaim.TheVariants.{Refuse, Trim}
use Rattle.rpki_extensions.specs.Identifiers.{id_pkix}

-- The policy that says what is done with a claim of too much: id-cp-ipAddr-asNumber (RFC 6484,
-- section 1.2) where it is refused, and id-cp-ipAddr-asNumber-v2 (RFC 8360, section 4.2.1) where it
-- is trimmed.
abbrev pub policy_oid : Overclaim → List ℕ
policy_oid Refuse = id_pkix 14 2
policy_oid Trim = id_pkix 14 3

-- PolicyInformation: SEQUENCE { policyIdentifier, policyQualifiers } (RFC 5280, section 4.2.1.4),
-- with one of the two identifiers of `policy_oid`. That any values may follow the identifier is
-- this project's own rule.
abbrev pub PolicyForm : Mode → List ℕ → Overclaim → Type 0
PolicyForm mode octets overclaim = Sequence mode (
    (λ o. ObjectIdentifier mode o (policy_oid overclaim))
    ∷ ListOf (Skipped mode MAX_DEPTH)
    ∷ []) octets

-- CertificatePolicies: SEQUENCE { PolicyInformation } (RFC 5280, section 4.2.1.4), of one policy
-- (RFC 6487, section 4.8.9)
abbrev pub PoliciesForm : Mode → List ℕ → Overclaim → Type 0
PoliciesForm mode octets overclaim = Sequence mode (
    (λ o. PolicyForm mode o overclaim)
    ∷ []) octets

-- ---- as functions

-- what the policy with this identifier says
abbrev pub overclaim_of : List ℕ → Option Overclaim
overclaim_of oid =
    if bytes_eq oid (policy_oid Refuse) then Some Refuse
    else if bytes_eq oid (policy_oid Trim) then Some Trim
    else None

-- the identifier and what follows it
unfoldable pub policy_fields_at : Parser Overclaim
policy_fields_at mode bytes = do
  overclaim ← partly overclaim_of oid_at mode bytes
  qualifiers ← skip_all_at mode overclaim.1
  Some (overclaim.0, qualifiers.1)

-- what stands in the SEQUENCE of policies
unfoldable pub one_policy_at : Parser Overclaim
one_policy_at mode bytes = do
  overclaim ← sequence_at policy_fields_at mode bytes
  Some overclaim

-- the policy
abbrev pub policies_at : Parser Overclaim
policies_at = sequence_at one_policy_at
