-- What a validation run under a locator finds, and what it leaves unread.
use Rattle.std.specs.Prelude.{◌≡◌, ◌≢◌, ◌⊎◌, ◌≤◌, ℕ, List, Option, None, Some, Bool, true, false}
use Rattle.std.specs.Prelude.{◌&&◌, Contains, bytes_eq, codes, count_by, unwrap_or, String}
use Rattle.std.specs.BTreeMap.{BTreeMap, get_by_text}
use Rattle.std.specs.Option.{option_or, option_eq}
use Rattle.rpki_certs.specs.Validate.{Validated}
use Rattle.rpki_tal.specs.Tal.{Locator}
use Rattle.rpki_relying_party.specs.Anchors.{IsAnchorOf, WhyNoAnchor, anchor_fault_text}
use Rattle.rpki_relying_party.specs.Costs.{PlaceCosts, PlaceExceeds}
use Rattle.rpki_relying_party.specs.Found.{Lists, HasAsLong, SaysLike}
use Rattle.rpki_relying_party.specs.Lacks.{WhyNoPoint}
use Rattle.rpki_relying_party.specs.Paths.{IsChild, IsSaid, IsFound, Leads, Passes, TellsOne}
use Rattle.rpki_relying_party.specs.Place.{key_of}
use Rattle.rpki_relying_party.specs.Point.{PublishesIn, NamesManifest}
use Rattle.rpki_relying_party.specs.Reading.{GoodTells}
use Rattle.rpki_relying_party.specs.Setting.{Setting}
use Rattle.rpki_relying_party.specs.Tells.{PlaceTells, refusal}
use Rattle.rpki_relying_party.specs.Texts.{cause_text}
use Rattle.rpki_relying_party.specs.Walk.{Left, Read, IsWalk, places_left}
use Rattle.rpki_relying_party.specs.declared.anchor.AnchorFault.{AnchorFault}
use Rattle.rpki_relying_party.specs.declared.anchor.AnchorFault.TheVariants as anchors
use Rattle.rpki_relying_party.specs.declared.cause.Cause.{Cause}
use Rattle.rpki_relying_party.specs.declared.cause.Cause.TheVariants as causes
use Rattle.rpki_relying_party.specs.declared.found.Finding.{Finding}
use Rattle.rpki_relying_party.specs.declared.found.Found.{Found}
use Rattle.rpki_relying_party.specs.declared.locator.Counts.{Counts}
use Rattle.rpki_relying_party.specs.declared.locator.RunFault.{RunFault}
use Rattle.rpki_relying_party.specs.declared.locator.RunFault.TheVariants as faults
use Rattle.rpki_relying_party.specs.declared.place.Place.{Place}
use Rattle.rpki_relying_party.specs.declared.walk.Why.{Why}
use Rattle.rpki_relying_party.specs.declared.walk.Why.TheVariants.{Limit, Memory}

-- ---- a run

-- The trust anchor as a place: it holds until its certificate ends, and no CA listed it.
abbrev pub start_place : Validated → Place
start_place ca = record {
  ca = ca;
  until = ca.cert.certificate.tbs.validity.not_after;
  listed_by = None;
}

-- The place is that of a trust anchor of the locator.
abbrev pub IsStartOf : Setting → Locator → Place → Type 0
IsStartOf s tal start = (ca : Validated) × IsAnchorOf s tal ca × (start ≡ start_place ca)

-- A chain of children, of any length, leads from a trust anchor of the locator to a place that says
-- x.
abbrev pub IsSaidUnder : Setting → Locator → Finding → Type 0
IsSaidUnder s tal x = (start : Place) × IsStartOf s tal start × IsSaid (PlaceTells s) start x

-- There is a trust anchor of the locator below which all was found: of each chain of children that
-- leads from it, something alike to all that its last place says, unless some place on the chain has
-- the key of one that was left unread.
abbrev pub FindsAllUnder : Setting → Locator → Found → List (Left Place) → Type 0
FindsAllUnder s tal found unread =
    (start : Place) × IsStartOf s tal start
    × ((path : List Place) (p : Place) → Leads (IsChild (PlaceTells s)) start path p
    → IsFound (PlaceTells s) SaysLike (HasAsLong found) p
    ⊎ Passes key_of (places_left unread) start path)

-- A trust anchor of the locator was read first, whose point is not refused, and from it on places of
-- each key once, within this limit on work; what was found before and after is that, and those were
-- left unread.
abbrev pub IsRunUnder : Setting → Locator → ℕ → Found → Found → List (Left Place) → Type 0
IsRunUnder s tal limit old new unread =
    (first : Read Place Finding) × IsStartOf s tal first.place
    × GoodTells s first.place first.said first.children
    × IsWalk (PlaceTells s) (PlaceCosts s) (PlaceExceeds s) key_of (Lists old) (Lists new)
    (HasAsLong old) (HasAsLong new) first limit unread

-- Places with one key tell one thing, whenever they are read, as where the copy does not change.
abbrev pub TellsSteadily : Setting → Type 0
TellsSteadily s = TellsOne (PlaceTells s) key_of SaysLike

-- Why there was no run within this limit, unless memory ran out: the locator has no trust anchor;
-- or it has one whose certificate names a point that is refused, which was found out within the
-- limit; or one of which to read the place is more work than the limit.
abbrev pub WhyNoRun : Setting → Locator → ℕ → RunFault → Type 0
WhyNoRun s tal limit (faults.Anchor fault) = WhyNoAnchor s tal fault × (fault ≢ anchors.Memory)
WhyNoRun s tal limit (faults.Point cause) = (ca : Validated) × (folder : List ℕ) × (uri : List ℕ)
    × IsAnchorOf s tal ca × PublishesIn ca folder × NamesManifest ca uri
    × WhyNoPoint s ca folder uri cause
    × ((cost : ℕ) × PlaceCosts s (start_place ca) cost × (cost ≤ limit))
WhyNoRun s tal limit faults.Limit =
    (ca : Validated) × IsAnchorOf s tal ca × PlaceExceeds s (start_place ca) limit
WhyNoRun s tal limit faults.Memory = Unit {0}

-- What a fault of the trust anchor is of the run: want of memory is that of the run.
abbrev pub IsFaultOf : AnchorFault → RunFault → Type 0
IsFaultOf fault (faults.Anchor same) = (same ≡ fault) × (fault ≢ anchors.Memory)
IsFaultOf fault (faults.Point cause) = ⊥
IsFaultOf fault faults.Limit = ⊥
IsFaultOf fault faults.Memory = fault ≡ anchors.Memory

-- why there is no run, as it is shown
abbrev pub run_fault_text : RunFault → List ℕ
run_fault_text (faults.Anchor fault) = anchor_fault_text fault
run_fault_text (faults.Point cause) = cause_text cause
run_fault_text faults.Limit = codes "not read: limit reached"
run_fault_text faults.Memory = codes "out of memory"

-- ---- places that were left unread

-- The CA that listed a place, by the URI of its manifest; a trust anchor, which none listed, stands
-- for itself.
abbrev pub lister_of : Place → Option (List ℕ)
lister_of p =
    option_or p.listed_by p.ca.cert.certificate.tbs.extensions.locations.subject.rpki_manifest

-- whether two places were left for the same
abbrev pub is_same : Why → Why → Bool
is_same Limit Limit = true
is_same Memory Memory = true
is_same why other = false

-- whether this CA listed the place, which was left for this
abbrev pub is_left : Why → List ℕ → Left Place → Bool
is_left why uri u = is_same u.why why && option_eq bytes_eq (lister_of u.place) (Some uri)

-- how many places that this CA listed were left for this
abbrev pub left_under : List (Left Place) → Why → List ℕ → ℕ
left_under unread why uri = count_by (is_left why uri) unread

-- why places are refused, so many of which were left for this
abbrev pub left_cause : Why → ℕ → Cause
left_cause Limit count = causes.Limit count
left_cause Memory count = causes.Memory count

-- The refusal for a place that was left unread: it stands for the CA that listed the place, and
-- says how many were left for the same, where these are the numbers.
abbrev pub IsRefusalFor : (Why → List ℕ → ℕ) → Left Place → Finding → Type 0
IsRefusalFor counts u x =
    (uri : List ℕ) × (lister_of u.place ≡ Some uri)
    × (x ≡ refusal uri (left_cause u.why (counts u.why uri)) uri)

-- The refusals for places that were left unread: for each CA that listed some, how many were left
-- for the limit, and how many for want of memory.
abbrev pub IsLeftRefusal : List (Left Place) → Finding → Type 0
IsLeftRefusal unread x =
    (u : Left Place) × Contains unread u × IsRefusalFor (left_under unread) u x

-- The findings of which P holds were put to what was found.
pub record KeepsAll (P : Finding → Type 0) (old new : Found) : Type 0 where
  -- nothing that was found is lost
  pub stays : (x : Finding) → HasAsLong old x → HasAsLong new x
  -- each of these is found now
  pub kept : (x : Finding) → P x → HasAsLong new x
  -- and nothing else
  pub lists : (x : Finding) → Lists new x → Lists old x ⊎ P x

-- the number that is kept for a URI
abbrev pub count_for : {Y : Type 0} → BTreeMap (String Y) ℕ → List ℕ → ℕ
count_for counts uri = unwrap_or (get_by_text counts uri) 0

-- the number of those that were left for this
abbrev pub counted : Counts → Why → List ℕ → ℕ
counted counts Limit uri = count_for counts.limit uri
counted counts Memory uri = count_for counts.memory uri
