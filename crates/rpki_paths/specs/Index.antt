-- Certificates, keys and CRLs by their key identifiers (RFC 6487, section 4.8.2).
use Rattle.std.specs.Prelude.{◌≡◌, ◌<◌, ◌↔◌, ℕ, List, [], Option, None, Some, Vec, cond}
use Rattle.std.specs.Prelude.{AllPairs, slice_get}
use Rattle.std.specs.declared.alloc.Global.{Global}
use Rattle.std.specs.BTreeMap.{get, is_at, BTreeMap}
use Rattle.std.specs.Ordering.{nat_cmp}
use Rattle.std.specs.Cmp.Lexicographic.{slice_cmp}
use Rattle.rpki_paths.specs.declared.key_id_index.KeyIdIndex.{KeyIdIndex}
use Rattle.rpki_paths.specs.Cert.{IsIn}

-- The places of an index that stand at a key, or none.
abbrev pub listed_in : Option (Vec ℕ Global) → List ℕ
listed_in None = []
listed_in (Some places) = places.items

-- The places that a map has of an identifier.
abbrev pub listed : BTreeMap (List ℕ) (Vec ℕ Global) → List ℕ → List ℕ
listed m id = listed_in (get (slice_cmp nat_cmp) m id)

-- The new map has this at the key, and what it had at others.
abbrev pub IsPut : List ℕ → Option (Vec ℕ Global) → BTreeMap (List ℕ) (Vec ℕ Global) →
    BTreeMap (List ℕ) (Vec ℕ Global) → Type 0
IsPut id places old new =
    (q : List ℕ) → get (slice_cmp nat_cmp) new q
    ≡ cond (is_at (slice_cmp nat_cmp id) q) places (get (slice_cmp nat_cmp) old q)

-- The places that an index has of an identifier, and none where there is no identifier.
abbrev pub places_of : KeyIdIndex → Option (List ℕ) → List ℕ
places_of index None = []
places_of index (Some id) = listed index.map id

-- The list ascends, and has just the places at which the identifier stands.
pub record IsNamed (ids : List (List ℕ)) (id : List ℕ) (places : List ℕ) : Type 0 where
  pub ascends : AllPairs (λ i j. i < j) places
  pub exact : (i : ℕ) → IsIn i places ↔ (slice_get ids i ≡ Some id)

-- The places of the identifier that a certificate names, and none where it names none.
abbrev pub IsNamedBy : List (List ℕ) → Option (List ℕ) → List ℕ → Type 0
IsNamedBy ids None places = places ≡ []
IsNamedBy ids (Some id) places = IsNamed ids id places

-- The index has the places of each of these identifiers.
abbrev pub IsIndex : List (List ℕ) → KeyIdIndex → Type 0
IsIndex ids index = (id : List ℕ) → IsNamed ids id (listed index.map id)
