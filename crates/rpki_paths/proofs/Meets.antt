-- The numbers that are kept of a path are the meet of its explicit sets.
use Rattle.std.proofs.Common.{◌≡◌, ℕ, Bool, true, false, ◌&&◌, List, [], ◌∷◌, Option, None, Some}
use Rattle.std.proofs.Common.{IsTrue, refl, sym, ap, ◌∙◌, subst, inl, inr}
use Rattle.std.proofs.Math.Bool.{and_comm, and-true}
use Rattle.std.proofs.lemmas.Bool.{and_parts, true≢false}
use Rattle.rpki_resources.specs.declared.block.Block.{Block}
use Rattle.rpki_resources.specs.declared.resources.Claim.{Claim}
use Rattle.rpki_resources.specs.declared.resources.Claim.TheVariants.{Missing, Inherit, Explicit}
use Rattle.rpki_resources.specs.Blocks.{holds}
use Rattle.rpki_resources.specs.Claim.{HasBlocks, IsCoveredBy}
use Rattle.rpki_faults.specs.declared.family.Family.{Family}
use Rattle.rpki_faults.specs.declared.overclaim.Overclaim.{Overclaim}
use Rattle.rpki_faults.specs.declared.overclaim.Overclaim.TheVariants.{Refuse, Trim}
use Rattle.rpki_paths.specs.declared.family_resources.FamilyResources.{FamilyResources}
use Rattle.rpki_paths.specs.Cert.{Cert, Numbers, IsIn}
use Rattle.rpki_paths.specs.Sets.{with_claim, meet, IsCovered, StandsFor, IsWithSet, IsWithClaim}
use Rattle.rpki_paths.specs.Sets.{CoversNearest}
use Rattle.rpki_paths.specs.Path.{explicit_sets}
use Rattle.rpki_paths.specs.Anchor.{Supply, Tal, Ca, Takes, supplied_claim}
use Rattle.rpki_paths.specs.Laws.{IssuerKeepsMeet, AnchoredIsPathSet, AnchoredIsKnown}
use Rattle.rpki_paths.specs.Laws.{PathSetIsWithinEach}

-- what lies in a set is not cut by it
absorbed : (a b : Bool) → (IsTrue b → IsTrue a) → b ≡ a && b
absorbed true b h = refl
absorbed false true h = sym (h refl)
absorbed false false h = refl

-- the set covers the nearest one, where it has to
abbrev HoldsNearest : {T : Type 0} → (T → ℕ) → Overclaim → List (List (Block T)) → List (Block T)
    → Type 0
HoldsNearest f Refuse [] set = Unit {0}
HoldsNearest f Refuse (t ∷ r) set = (n : ℕ) → IsTrue (holds f t n) → IsTrue (holds f set n)
HoldsNearest f Trim sets set = Unit {0}

holds-nearest : {T : Type 0} (f : T → ℕ) (mode : Overclaim) (sets : List (List (Block T)))
    (claim : Claim (List (Block T))) (set : List (Block T)) → HasBlocks claim set
    → IsCovered f mode sets claim → HoldsNearest f mode sets set
holds-nearest f Refuse [] claim set named cov = tt
holds-nearest f Refuse (t ∷ r) Missing set named cov =
    λ n h. absurd (true≢false (sym h ∙ ap (λ l. holds f l n) cov))
holds-nearest f Refuse (t ∷ r) Inherit set named cov = absurd named
holds-nearest f Refuse (t ∷ r) (Explicit s) set named cov = λ n h. ap (λ l. holds f l n) named
    ∙ cov n h
holds-nearest f Trim sets claim set named cov = tt

with-set : {T : Type 0} (f : T → ℕ) (mode : Overclaim)
    (old new : Option (FamilyResources (List (Block T))))
    (set : List (Block T)) (sets : List (List (Block T))) →
    StandsFor f old sets → HoldsNearest f mode sets set → IsWithSet f mode old set new
    → StandsFor f new (set ∷ sets)
with-set f mode old None set sets stands cov step = absurd step
with-set f mode None (Some new) set sets stands cov step = (
  step.1,
  λ n. ap (λ m. holds f m n) step.0 ∙ sym (and-true (holds f set n))
      ∙ ap (λ l. holds f set n && meet f l n) (sym stands),
)
with-set f mode (Some old) (Some new) set [] stands cov step = absurd stands
with-set f Trim (Some old) (Some new) set (t ∷ r) stands cov step = (
  step.1,
  λ n. step.0 n ∙ and_comm (holds f old.met n) (holds f set n)
      ∙ ap (λ b. holds f set n && b) (stands.1 n),
)
with-set f Refuse (Some old) (Some new) set (t ∷ r) stands cov step = (
  step.1,
  λ n. ap (λ m. holds f m n) step.0 ∙ stands.1 n
      ∙ absorbed (holds f set n) (meet f (t ∷ r) n)
      (λ e. cov n (and_parts (holds f t n) (meet f r n) e).0),
)

with-named : {T : Type 0} (claim : Claim (List (Block T))) (set : List (Block T))
    (sets : List (List (Block T))) → HasBlocks claim set → set ∷ sets ≡ with_claim claim sets
with-named Missing set sets h = ap (λ l. l ∷ sets) h
with-named Inherit set sets h = absurd h
with-named (Explicit s) set sets h = ap (λ l. l ∷ sets) h

pub issuer-keeps : {T : Type 0} (f : T → ℕ) → IssuerKeepsMeet f
issuer-keeps f mode old new claim sets stands cov (inl step) =
    subst (λ o. StandsFor f o (with_claim claim sets)) (sym step.1)
    (subst (λ c. StandsFor f old (with_claim c sets)) (sym step.0) stands)
issuer-keeps f mode old new claim sets stands cov (inr step) =
    subst (λ l. StandsFor f new l) (with-named claim step.0 sets step.1)
    (with-set f mode old new step.0 sets stands
    (holds-nearest f mode sets claim step.0 step.1 cov) step.2)

-- the resources tell whether the claim covers what is below
pub covers_nearest : {T : Type 0} (f : T → ℕ) (mode : Overclaim)
    (resources : Option (FamilyResources (List (Block T)))) (sets : List (List (Block T)))
    (claim : Claim (List (Block T))) →
    StandsFor f resources sets → IsCovered f mode sets claim → CoversNearest f mode resources claim
covers_nearest f Refuse None sets claim stands cov = tt
covers_nearest f Refuse (Some k) [] claim stands cov = absurd stands
covers_nearest f Refuse (Some k) (s ∷ sets) claim stands cov =
    subst (λ l. IsCoveredBy f claim l) (sym stands.0) cov
covers_nearest f Trim resources sets claim stands cov = tt

pub from-covers_nearest : {T : Type 0} (f : T → ℕ) (mode : Overclaim)
    (resources : Option (FamilyResources (List (Block T)))) (sets : List (List (Block T)))
    (claim : Claim (List (Block T))) →
    StandsFor f resources sets → CoversNearest f mode resources claim → IsCovered f mode sets claim
from-covers_nearest f Refuse None sets claim stands cov =
    subst (λ l. IsCovered f Refuse l claim) (sym stands) tt
from-covers_nearest f Refuse (Some k) [] claim stands cov = absurd stands
from-covers_nearest f Refuse (Some k) (s ∷ sets) claim stands cov =
    subst (λ l. IsCoveredBy f claim l) stands.0 cov
from-covers_nearest f Trim resources sets claim stands cov = tt

covered-inherit : (mode : Overclaim) (sets : List Numbers) → IsCovered (λ n. n) mode sets Inherit
covered-inherit Refuse [] = tt
covered-inherit Refuse (s ∷ sets) = tt
covered-inherit Trim sets = tt

pub anchored-stands : (head : Cert) (p : List Cert) (s : Supply) (f : Family)
    (old new : Option (FamilyResources Numbers))
    → StandsFor (λ n. n) old (explicit_sets (head ∷ p) f) → Takes (head ∷ p) s
    → IsWithClaim (λ n. n) head.overclaim old (supplied_claim s f) new →
    StandsFor (λ n. n) new (with_claim (supplied_claim s f) (explicit_sets (head ∷ p) f))
anchored-stands head p (Tal key) f old new stands takes step =
    issuer-keeps (λ n. n) head.overclaim old new Inherit (explicit_sets (head ∷ p) f) stands
    (covered-inherit head.overclaim (explicit_sets (head ∷ p) f)) step
anchored-stands head p (Ca ski key sets) f old new stands takes step =
    issuer-keeps (λ n. n) head.overclaim old new (Explicit (sets f))
    (explicit_sets (head ∷ p) f) stands (takes f) step

-- the resources have the numbers that all sets have
pub family-numbers : (resources : FamilyResources Numbers) (sets : List Numbers)
    → StandsFor (λ n. n) (Some resources) sets → (n : ℕ)
    → holds (λ k. k) resources.met n ≡ meet (λ k. k) sets n
family-numbers resources [] stands n = absurd stands
family-numbers resources (t ∷ r) stands n = stands.1 n

pub anchored-set : AnchoredIsPathSet
anchored-set head p s f old new stands takes step =
    family-numbers new (with_claim (supplied_claim s f) (explicit_sets (head ∷ p) f))
    (anchored-stands head p s f old (Some new) stands takes step)

none-inherits : (claim : Claim Numbers) (sets : List Numbers) → with_claim claim sets ≡ []
    → claim ≡ Inherit
none-inherits Missing sets e = absurd cc
none-inherits Inherit sets e = refl
none-inherits (Explicit s) sets e = absurd cc

pub anchored-known : AnchoredIsKnown
anchored-known head p (Tal key) f explicit takes e =
    explicit takes.0 (none-inherits (head.claim f) (explicit_sets p f) e)
anchored-known head p (Ca ski key sets) f explicit takes e = absurd cc

meet-within : (sets : List Numbers) (t : Numbers) → IsIn t sets → (n : ℕ)
    → IsTrue (meet (λ k. k) sets n) → IsTrue (holds (λ k. k) t n)
meet-within [] t i n h = absurd i
meet-within (s ∷ sets) t i n h =
    let parts = and_parts (holds (λ k. k) s n) (meet (λ k. k) sets n) h in
    elim i [
      | inl e ↦ ap (λ (u : Numbers). holds (λ k. k) u n) e
          ∙ parts.0
      | inr j ↦ meet-within sets t j n parts.1
    ]

pub path_set-within : PathSetIsWithinEach
path_set-within p s f t i n h =
    meet-within (with_claim (supplied_claim s f) (explicit_sets p f)) t i n h
