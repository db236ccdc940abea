-- What comes of reading the publication point of a place.
use Rattle.std.specs.Prelude.{◌≡◌, ◌⊎◌, ℕ, ◌<◌, ◌≤◌, List, [], unwrap_or}
use Rattle.rpki_relying_party.specs.Costs.{PlaceCosts, PlaceExceeds}
use Rattle.rpki_relying_party.specs.Lacks.{WhyNoPoint}
use Rattle.rpki_relying_party.specs.Point.{PublishesIn, NamesManifest}
use Rattle.rpki_relying_party.specs.Setting.{Setting}
use Rattle.rpki_relying_party.specs.Tells.{NamesNoPoint, PointTells}
use Rattle.rpki_relying_party.specs.declared.found.Finding.{Finding}
use Rattle.rpki_relying_party.specs.declared.found.Refusal.{Refusal}
use Rattle.rpki_relying_party.specs.declared.place.Place.{Place}
use Rattle.rpki_relying_party.specs.declared.point.PointReading.{PointReading}
use Rattle.rpki_relying_party.specs.declared.point.PointReading.TheVariants as readings

-- What a place tells that is not refused: nothing, where its certificate names no point, and else
-- what the files of its point do.
abbrev pub GoodTells : Setting → Place → List Finding → List Place → Type 0
GoodTells s place said children =
    (NamesNoPoint place.ca × (said ≡ []) × (children ≡ []))
    ⊎ ((folder : List ℕ) × (uri : List ℕ) × PublishesIn place.ca folder
    × NamesManifest place.ca uri × PointTells s place folder uri said children)

-- The certificate of the place names a point, which is refused so: below the CA that listed the
-- place, or below itself where it is a trust anchor.
abbrev pub IsRefusedPlace : Setting → Place → Refusal → Type 0
IsRefusedPlace s place r = (folder : List ℕ) × (uri : List ℕ) × PublishesIn place.ca folder
    × NamesManifest place.ca uri × WhyNoPoint s place.ca folder uri r.cause
    × (r.uri ≡ uri) × (r.under ≡ unwrap_or place.listed_by uri)

-- What came of reading the point of a place within some room: what it tells, or how it is refused,
-- at the cost of reading it, one at least; or that this is more than there was room for.
abbrev pub IsPointReading : Setting → Place → ℕ → PointReading → Type 0
IsPointReading s place room (readings.Told t) = GoodTells s place t.said.items t.children.items
    × PlaceCosts s place t.cost × (0 < t.cost) × (t.cost ≤ room)
IsPointReading s place room (readings.Refused r cost) =
    IsRefusedPlace s place r × PlaceCosts s place cost × (0 < cost) × (cost ≤ room)
IsPointReading s place room readings.Cut = PlaceExceeds s place room

-- Nothing was told, at the cost of one; or there was no room for that.
abbrev pub TellsNothing : ℕ → PointReading → Type 0
TellsNothing room (readings.Told t) =
    (t.said.items ≡ []) × (t.children.items ≡ []) × (t.cost ≡ 1) × (0 < room)
TellsNothing room (readings.Refused r cost) = ⊥
TellsNothing room readings.Cut = room ≡ 0
