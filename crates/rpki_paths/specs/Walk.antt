-- What a walk up the carried CAs finds, and why it stops.
use Rattle.std.specs.Prelude.{◌≡◌, ◌≢◌, ℕ, ◌<◌, List, [], ◌∷◌, Option, Some, IsTrue}
use Rattle.std.specs.Prelude.{IsFalse}
use Rattle.std.specs.Prelude.{slice_get, slice_index, suc, Bool}
use Rattle.rpki_faults.specs.declared.family.Family.{Family}
use Rattle.rpki_faults.specs.declared.family.Family.TheVariants.{As, V4, V6}
use Rattle.rpki_paths.specs.declared.family_resources.FamilyResources.{FamilyResources}
use Rattle.rpki_paths.specs.declared.path_resources.PathResources.{PathResources}
use Rattle.rpki_paths.specs.declared.walker.Found.{Found}
use Rattle.rpki_paths.specs.declared.walker.Found.TheVariants.{NoIssuer, Invalid, Issuer}
use Rattle.rpki_paths.specs.declared.walker.PathFault.{PathFault}
use Rattle.rpki_paths.specs.declared.walker.PathFault.TheVariants.{NoValidIssuer, Returns, Revoked}
use Rattle.rpki_paths.specs.declared.walker.PathFault.TheVariants.{NotCovered, Memory}
use Rattle.rpki_paths.specs.Cert.{Cert, Numbers, IsIn, IsSelfSigned, at_place}
use Rattle.rpki_paths.specs.Sets.{StandsFor, IsCovered, CoversNearest}
use Rattle.rpki_paths.specs.Path.{IsChain, IsOff, IsPath, IsLinkCovered, explicit_sets}

-- The resources of a path in one family, of those that sets has in all three.
abbrev pub resources_in : PathResources → Family → Option (FamilyResources Numbers)
resources_in sets As = sets.asn
resources_in sets V4 = sets.v4
resources_in sets V6 = sets.v6

-- P holds in each family.
abbrev pub InEach : (Family → Type 0) → Type 0
InEach P = P As × P V4 × P V6

-- P fails in this family, and in none before it: AS numbers come first, then IPv4, then IPv6.
abbrev pub FailsFirst : (Family → Type 0) → Family → Type 0
FailsFirst P As = ¬ (P As)
FailsFirst P V4 = P As × ¬ (P V4)
FailsFirst P V6 = P As × P V4 × ¬ (P V6)

-- The certificates as paths see them, at places that count from a number on.
abbrev pub placed : {C : Type 0} → (C → Cert) → ℕ → List C → List Cert
placed cert n [] = []
placed cert n (c ∷ cs) = at_place n (cert c) ∷ placed cert (suc n) cs

-- Of the CAs with this identifier, `d` is the first whose key verifies the certificate.
pub record IsNext (cas : List Cert) (aki : Option (List ℕ)) (verifies : List ℕ → Bool) (d : Cert) :
    Type 0 where
  pub index : ℕ
  pub at_index : slice_get cas index ≡ Some d
  pub named : aki ≡ Some d.ski
  pub verified : IsTrue (verifies d.key)
  pub first : (j : ℕ) (x : Cert) → j < index → slice_get cas j ≡ Some x → aki ≡ Some x.ski →
      IsFalse (verifies x.key)

-- Each issuer on a chain is the first of the CAs that what is below names whose key verifies it.
abbrev pub AreFirst : List Cert → List Cert → Type 0
AreFirst cas [] = Unit {0}
AreFirst cas (c ∷ []) = Unit {0}
AreFirst cas (d ∷ c ∷ p) = IsNext cas c.aki c.verifies d × AreFirst cas (c ∷ p)

-- There are CAs with this identifier, and the key of none verifies the certificate.
abbrev pub IsUnverified : List Cert → Option (List ℕ) → (List ℕ → Bool) → Type 0
IsUnverified cas aki verifies =
    ((d : Cert) × IsIn d cas × (aki ≡ Some d.ski))
    × ((d : Cert) → IsIn d cas → aki ≡ Some d.ski → IsFalse (verifies d.key))

-- What a search for the issuer among the CAs says.
abbrev pub FoundSays : List Cert → Option (List ℕ) → (List ℕ → Bool) → Found → Type 0
FoundSays cas aki verifies NoIssuer = (d : Cert) → IsIn d cas → ¬ (aki ≡ Some d.ski)
FoundSays cas aki verifies Invalid = IsUnverified cas aki verifies
FoundSays cas aki verifies (Issuer i) =
    (d : Cert) × (next : IsNext cas aki verifies d) × (next.index ≡ i)

-- `c` is not self-signed, and of the first CA that it names whose key verifies it, and of the index
-- of that CA, P holds.
abbrev pub HasNext : (Cert → ℕ → Type 0) → List Cert → Cert → Type 0
HasNext P cas c =
    ¬ (IsSelfSigned c) × (d : Cert) × (next : IsNext cas c.aki c.verifies d) × P d next.index

-- In this family, the claim of `d` covers the nearest explicit set of these resources, where it has
-- to under the mode of `c`.
abbrev pub CoversIn : PathResources → Cert → Cert → Family → Type 0
CoversIn sets c d f = CoversNearest (λ n. n) c.overclaim (resources_in sets f) (d.claim f)

-- The CA with index `i` comes next above `c`: its number in visited is not turn, it has not revoked
-- `c`, and its claims cover these resources.
abbrev pub GoesOn : List Cert → Cert → PathResources → List ℕ → ℕ → ℕ → Type 0
GoesOn cas c sets visited turn i =
    HasNext (λ d j. (j ≡ i) × (slice_index visited i ≢ turn) × IsFalse (d.revokes c.serial)
    × InEach (λ f. CoversIn sets c d f)) cas c

-- Why no CA comes next above `c`, which is asked in the order of `IsRefused`, below.
abbrev pub EndsWith : PathFault → List Cert → Cert → PathResources → List ℕ → ℕ → Type 0
EndsWith NoValidIssuer cas c sets visited turn =
    ¬ (IsSelfSigned c) × IsUnverified cas c.aki c.verifies
EndsWith Returns cas c sets visited turn = HasNext (λ d i. slice_index visited i ≡ turn) cas c
EndsWith Revoked cas c sets visited turn =
    HasNext (λ d i. (slice_index visited i ≢ turn) × IsTrue (d.revokes c.serial)) cas c
EndsWith (NotCovered family) cas c sets visited turn =
    HasNext (λ d i. (slice_index visited i ≢ turn) × IsFalse (d.revokes c.serial)
    × FailsFirst (λ f. CoversIn sets c d f) family) cas c
EndsWith Memory cas c sets visited turn = ⊥

-- A covered chain of first issuers goes up to the head `c`, which is not self-signed.
pub record IsReached (cas : List Cert) (ee c : Cert) (p : List Cert) : Type 0 where
  pub chain : IsChain cas ee (c ∷ p)
  pub first : AreFirst cas (c ∷ p)
  pub covered : IsLinkCovered (c ∷ p)
  pub not_self_signed : ¬ (IsSelfSigned c)

-- A covered chain goes up to a head of which, with its next issuer and the path below, P holds.
abbrev pub StopsWhere : (Cert → Cert → List Cert → Type 0) → List Cert → Cert → Type 0
StopsWhere P cas ee =
    (c : Cert) × (d : Cert) × (p : List Cert) × IsReached cas ee c p × IsNext cas c.aki c.verifies d
    × P c d p

-- Why a walk from `ee` is refused. It asks in this order: the key of a CA that is named as the
-- issuer verifies the certificate; the first such CA is not on the path, it has not revoked the
-- certificate, and its claims cover what is below, AS numbers first.
abbrev pub IsRefused : PathFault → List Cert → Cert → Type 0
IsRefused NoValidIssuer cas ee =
    (c : Cert) × (p : List Cert) × IsReached cas ee c p × IsUnverified cas c.aki c.verifies
IsRefused Returns cas ee = StopsWhere (λ c d p. ¬ (IsOff d (c ∷ p))) cas ee
IsRefused Revoked cas ee =
    StopsWhere (λ c d p. IsOff d (c ∷ p) × IsTrue (d.revokes c.serial)) cas ee
IsRefused (NotCovered family) cas ee =
    StopsWhere (λ c d p. IsOff d (c ∷ p) × IsFalse (d.revokes c.serial)
    × FailsFirst (λ f. IsCovered (λ n. n) c.overclaim (explicit_sets (c ∷ p) f) (d.claim f)) family)
    cas ee
IsRefused Memory cas ee = Unit {0}

-- The CAs whose number in visited is turn are those that stand on the path.
pub record AreVisited (cas : List Cert) (visited : List ℕ) (turn : ℕ) (p : List Cert) : Type 0 where
  pub on : (i : ℕ) (d : Cert) → slice_get cas i ≡ Some d → slice_index visited i ≡ turn
      → ¬ (IsOff d p)
  pub off : (i : ℕ) (d : Cert) → slice_get cas i ≡ Some d → slice_index visited i ≢ turn → IsOff d p

-- Numbers other than turn are as they were.
abbrev pub KeepsVisited : ℕ → List ℕ → List ℕ → Type 0
KeepsVisited turn old new =
    (i : ℕ) → slice_index new i ≢ turn → slice_index new i ≡ slice_index old i

-- A covered path of `ee` with this head, each issuer on it the first that verifies what is below;
-- the resources stand for it, and its CAs are visited.
pub record IsWalked (cas : List Cert) (ee head : Cert) (sets : PathResources) (visited : List ℕ)
    (turn : ℕ) : Type 0 where
  pub below : List Cert
  pub path : IsPath cas ee (head ∷ below)
  pub first : AreFirst cas (head ∷ below)
  pub covered : IsLinkCovered (head ∷ below)
  pub stands : (f : Family) →
      StandsFor (λ n. n) (resources_in sets f) (explicit_sets (head ∷ below) f)
  pub visits : AreVisited cas visited turn (head ∷ below)
