-- The trust anchor of a locator (RFC 8630), or why there is none.
use Rattle.std.specs.Prelude.{◌≡◌, ◌≢◌, ◌⊎◌, ◌≤◌, ◌<◌, ◌^◌, ℕ, List, [], ◌∷◌, ◌++◌, length, Result}
use Rattle.std.specs.Prelude.{Ok, Err, All, Contains, codes, flat_map}
use Rattle.rpki_basics.specs.Moment.{stamp}
use Rattle.rpki_faults.specs.Checks.{AllHold}
use Rattle.rpki_faults.specs.Text.Validation.{validation_text}
use Rattle.rpki_certs.specs.Cert.{Certificate}
use Rattle.rpki_certs.specs.Issuer.{BeginsWithCert, IsAnchored, in_der}
use Rattle.rpki_certs.specs.Validate.{Validated, ta_validation, IsAnchorOf as HasClaimed}
use Rattle.rpki_certs.specs.declared.issuer.IssuerError.{IssuerError}
use Rattle.rpki_certs.specs.declared.issuer.IssuerError.TheVariants as issuers
use Rattle.rpki_tal.specs.Tal.{Locator}
use Rattle.rpki_tal.specs.Uri.{uri_text, https_first}
use Rattle.rpki_tal.specs.declared.uri.TalUri.{TalUri}
use Rattle.rpki_relying_party.specs.Memory.{IsIssuerMemory}
use Rattle.rpki_relying_party.specs.Setting.{Setting}
use Rattle.rpki_relying_party.specs.Texts.{no_file_text}
use Rattle.rpki_relying_party.specs.declared.anchor.AnchorFault.{AnchorFault}
use Rattle.rpki_relying_party.specs.declared.anchor.AnchorFault.TheVariants as anchors
use Rattle.rpki_relying_party.specs.declared.copy.NoFile.{NoFile}
use Rattle.rpki_relying_party.specs.declared.copy.NoFile.TheVariants.{Missing, TooLarge}

-- A locator has at most so many URIs, which is this project's own rule.
abbrev pub most_uris : ℕ
most_uris = 64

-- ---- candidates

-- What a copy is asked for where it keeps the certificate of the trust anchor that is published at
-- this URI: the URI after `ta:`, which no certificate can name.
abbrev pub kept_text : List ℕ → List ℕ
kept_text uri = codes "ta:" ++ uri

-- What is asked for at a URI: the file of the URI itself, and what is kept of it.
abbrev pub candidates_at : TalUri → List (List ℕ)
candidates_at uri = uri_text uri ∷ kept_text (uri_text uri) ∷ []

-- The candidates of these URIs, in their order.
abbrev pub candidates : List TalUri → List (List ℕ)
candidates uris = flat_map candidates_at uris

-- ---- what is found for one; a read of another one, or again of the same, may find anything else

-- A file of 2 ^ 64 octets or more is found for it.
abbrev pub HasHuge : (List ℕ → Result (List ℕ) NoFile → Type 0) → List ℕ → Type 0
HasHuge finds text = (octets : List ℕ) × finds text (Ok octets) × (2 ^ 64 ≤ length octets)

-- What is found for it: octets, or why there are none. A file of 2 ^ 64 octets or more counts as
-- too large.
abbrev pub FindsFor : (List ℕ → Result (List ℕ) NoFile → Type 0) → List ℕ
    → Result (List ℕ) NoFile → Type 0
FindsFor finds text (Ok octets) = finds text (Ok octets) × (length octets < 2 ^ 64)
FindsFor finds text (Err why) = finds text (Err why) ⊎ ((why ≡ TooLarge) × HasHuge finds text)

-- No file is found for it, for this reason.
abbrev pub LacksFor : (List ℕ → Result (List ℕ) NoFile → Type 0) → NoFile → List ℕ → Type 0
LacksFor finds why text = FindsFor finds text (Err why)

-- No file is found for it.
abbrev pub LacksFile : (List ℕ → Result (List ℕ) NoFile → Type 0) → List ℕ → Type 0
LacksFile finds text = (why : NoFile) × LacksFor finds why text

-- Octets are found for it that begin with a certificate of which P holds. That further octets may
-- follow it is this project's own rule.
abbrev pub HasCert : (List ℕ → Result (List ℕ) NoFile → Type 0) → (Certificate → Type 0) → List ℕ
    → Type 0
HasCert finds P text =
    (octets : List ℕ) × FindsFor finds text (Ok octets) × BeginsWithCert octets P

-- Octets are found for it that begin with no such certificate.
abbrev pub HasOther : (List ℕ → Result (List ℕ) NoFile → Type 0) → (Certificate → Type 0) → List ℕ
    → Type 0
HasOther finds P text =
    (octets : List ℕ) × FindsFor finds text (Ok octets) × (¬ BeginsWithCert octets P)

-- No file is found for it, or one that begins with no such certificate.
abbrev pub Lacks : (List ℕ → Result (List ℕ) NoFile → Type 0) → (Certificate → Type 0) → List ℕ
    → Type 0
Lacks finds P text = LacksFile finds text ⊎ HasOther finds P text

-- The certificate has this key.
abbrev pub HasKey : List ℕ → Certificate → Type 0
HasKey key c = c.tbs.key ≡ key

-- The certificate is a good one of the trust anchor with this key: it has the key, and passes the
-- validation of a trust anchor, which it signed itself (RFC 8630, section 3).
abbrev pub IsGoodFor : Setting → List ℕ → Certificate → Type 0
IsGoodFor s key c = HasKey key c × AllHold (ta_validation s.verdict c s.now)

-- ---- one candidate after the other

-- P holds of the first of these texts of which Q does not.
pub record IsFirst (P Q : List ℕ → Type 0) (texts : List (List ℕ)) : Type 0 where
  pub before : List (List ℕ)
  pub text : List ℕ
  pub after : List (List ℕ)
  pub order : texts ≡ before ++ text ∷ after
  pub others : All Q before
  pub here : P text

-- No file is found for any of these, and this is the first reason that says more than that the copy
-- has none.
pub record IsFirstReason (finds : List ℕ → Result (List ℕ) NoFile → Type 0)
    (texts : List (List ℕ)) (why : NoFile) : Type 0 where
  pub before : List (List ℕ)
  pub text : List ℕ
  pub after : List (List ℕ)
  pub order : texts ≡ before ++ text ∷ after
  pub missing : All (LacksFor finds Missing) before
  pub here : LacksFor finds why text
  pub says_more : why ≢ Missing
  pub others : All (LacksFile finds) after

-- No file is found for any of these: the copy has none for any, or there is a first reason that
-- says more.
abbrev pub LackFiles : (List ℕ → Result (List ℕ) NoFile → Type 0) → List (List ℕ) → NoFile → Type 0
LackFiles finds texts why =
    ((why ≡ Missing) × All (LacksFor finds Missing) texts) ⊎ IsFirstReason finds texts why

-- The certificate at the front of what is found is a good one of the trust anchor with this key.
abbrev pub HasAnchor : Setting → List ℕ → Validated → List ℕ → Type 0
HasAnchor s key v text = HasCert s.finds (λ c. IsGoodFor s key c × HasClaimed (in_der c) v) text

-- The certificate that is found has this key, and is refused for the fault of the first check that
-- fails.
abbrev pub HasRefused : Setting → List ℕ → IssuerError → List ℕ → Type 0
HasRefused s key error text =
    (octets : List ℕ) × FindsFor s.finds text (Ok octets) × BeginsWithCert octets (HasKey key)
    × IsAnchored s.verdict s.now octets (Err error) × (¬ IsIssuerMemory error)

-- Why a good certificate of the trust anchor with this key is found for none of these: no file is
-- found for any; or it is for some, but for none one with the key; or the first one with the key is
-- refused, and none is good.
abbrev pub WhyNoneGood : Setting → List ℕ → List (List ℕ) → AnchorFault → Type 0
WhyNoneGood s key texts anchors.TooManyUris = ⊥
WhyNoneGood s key texts (anchors.NoFile why) = LackFiles s.finds texts why
WhyNoneGood s key texts anchors.OtherKey =
    All (Lacks s.finds (HasKey key)) texts
    × ((text : List ℕ) × Contains texts text × HasOther s.finds (HasKey key) text)
WhyNoneGood s key texts (anchors.Refused error) =
    All (Lacks s.finds (IsGoodFor s key)) texts
    × IsFirst (HasRefused s key error) (Lacks s.finds (HasKey key)) texts
WhyNoneGood s key texts anchors.Memory = ⊥

-- What looking at octets comes to: a good certificate of the trust anchor with this key is at their
-- front; or one with the key is, and is refused; or none with the key is.
abbrev pub IsJudged : Setting → List ℕ → List ℕ → Result Validated AnchorFault → Type 0
IsJudged s key octets (Ok v) =
    BeginsWithCert octets (λ c. IsGoodFor s key c × HasClaimed (in_der c) v)
IsJudged s key octets (Err (anchors.Refused error)) =
    BeginsWithCert octets (HasKey key) × IsAnchored s.verdict s.now octets (Err error)
    × (¬ IsIssuerMemory error)
IsJudged s key octets (Err anchors.OtherKey) = ¬ BeginsWithCert octets (HasKey key)
IsJudged s key octets (Err fault) = ⊥

-- What trying these texts comes to: the first good certificate, or why there is none.
abbrev pub IsTried : Setting → List ℕ → List (List ℕ) → Result Validated AnchorFault → Type 0
IsTried s key texts (Ok v) = IsFirst (HasAnchor s key v) (Lacks s.finds (IsGoodFor s key)) texts
IsTried s key texts (Err fault) = WhyNoneGood s key texts fault

-- ---- the trust anchor

-- The certificate is that of the trust anchor of the locator: the first good one among the
-- candidates of its URIs, HTTPS first (RFC 8630, section 3).
abbrev pub IsAnchorOf : Setting → Locator → Validated → Type 0
IsAnchorOf s tal v =
    (length tal.uris ≤ most_uris)
    × IsFirst (HasAnchor s tal.key v) (Lacks s.finds (IsGoodFor s tal.key))
    (candidates (https_first tal.uris))

-- No certificate with this key that is found for this begins to be valid only later.
abbrev pub HasBegun : Setting → List ℕ → List ℕ → Type 0
HasBegun s key text =
    (octets : List ℕ) → FindsFor s.finds text (Ok octets)
    → ¬ BeginsWithCert octets
    (λ c. HasKey key c × (stamp s.now < stamp c.tbs.validity.not_before))

-- So it is with each candidate of the locator.
abbrev pub HaveBegun : Setting → Locator → Type 0
HaveBegun s tal =
    (text : List ℕ) → Contains (candidates (https_first tal.uris)) text → HasBegun s tal.key text

-- Why the locator has no trust anchor: it has too many URIs; or none of its candidates is good; or
-- memory ran out.
abbrev pub WhyNoAnchor : Setting → Locator → AnchorFault → Type 0
WhyNoAnchor s tal anchors.TooManyUris = most_uris < length tal.uris
WhyNoAnchor s tal anchors.Memory = length tal.uris ≤ most_uris
WhyNoAnchor s tal fault =
    (length tal.uris ≤ most_uris)
    × WhyNoneGood s tal.key (candidates (https_first tal.uris)) fault

-- Of two faults the first, unless the other says more: that there is a file says more than that
-- there is none, and that there is a certificate with the key says most.
abbrev pub first_fault : AnchorFault → AnchorFault → AnchorFault
first_fault (anchors.NoFile Missing) here = here
first_fault (anchors.NoFile why) (anchors.NoFile other) = anchors.NoFile why
first_fault anchors.OtherKey (anchors.NoFile other) = anchors.OtherKey
first_fault (anchors.Refused error) here = anchors.Refused error
first_fault before here = here

-- The fault is that the certificate is refused, and not that memory ran out while it was looked at.
abbrev pub IsRefusalOf : IssuerError → AnchorFault → Type 0
IsRefusalOf error fault = (¬ IsIssuerMemory error) × (fault ≡ anchors.Refused error)

-- Why a locator has no trust anchor, in words. Which fault a decoder meets first is left open.
abbrev pub anchor_fault_text : AnchorFault → List ℕ
anchor_fault_text anchors.TooManyUris = codes "more than 64 URIs"
anchor_fault_text (anchors.NoFile why) = codes "its certificate " ++ no_file_text why
anchor_fault_text anchors.OtherKey = codes "no certificate with its key"
anchor_fault_text (anchors.Refused (issuers.Decode error)) =
    codes "its certificate is refused: malformed"
anchor_fault_text (anchors.Refused (issuers.Validation fault)) =
    codes "its certificate is refused: " ++ validation_text fault
anchor_fault_text anchors.Memory = codes "out of memory"
