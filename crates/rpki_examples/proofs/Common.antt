-- Whether two sets have a number in common.
use Rattle.std.proofs.Common.{◌≡◌, ◌∙◌, ◌≤◌, ◌↔◌, ℕ, List, [], ◌∷◌, Bool, true, false, not}
use Rattle.std.proofs.Common.{IsTrue, refl, sym, arith}
use Rattle.std.proofs.lemmas.Bool.{and_from, and_parts, or_left}
use Rattle.rpki_resources.specs.declared.block.Block.{Block}
use Rattle.rpki_resources.specs.Blocks.{Holds, holds, within, IsIntersection, IsCanonical}
use Rattle.rpki_resources.proofs.Sets.Between.{between-in}
use Rattle.rpki_resources.proofs.Sets.Rises.{clash}
use Rattle.rpki_examples.specs.Sets.{HaveCommon}

abbrev n_of : ℕ → ℕ
n_of n = n

-- the first number of a set is in it
first-held : (b : Block ℕ) (bs : List (Block ℕ)) → b.min ≤ b.max → Holds n_of (b ∷ bs) b.min
first-held b bs l =
    or_left (within n_of b.min b) (holds n_of bs b.min)
    (between-in b.min b.max b.min (omega arith) l)

-- what is left is in both
left-common : (first second left : List (Block ℕ)) → IsIntersection n_of first second left
    → IsCanonical n_of left → (left ≡ [] → ⊥) → HaveCommon first second
left-common first second [] i c some = absurd (some refl)
left-common first second (b ∷ bs) i c some =
    let both = and_parts (holds n_of first b.min) (holds n_of second b.min)
    (sym (i b.min) ∙ first-held b bs c.1) in
    (b.min, both.0, both.1)

-- what is in both is left
common-left : (first second left : List (Block ℕ)) → IsIntersection n_of first second left
    → HaveCommon first second → left ≡ [] → ⊥
common-left first second [] i common e =
    let both = and_from (holds n_of first common.0) (holds n_of second common.0) common.1 common.2
    in
    let none = i common.0 in
    cc
common-left first second (b ∷ bs) i common e = cc

-- the set that is left has a number exactly where both have one
pub some-left : (first second left : List (Block ℕ)) (empty : Bool)
    → IsIntersection n_of first second left → IsCanonical n_of left
    → (IsTrue empty ↔ (left ≡ [])) → IsTrue (not empty) ↔ HaveCommon first second
some-left first second left true i c e =
    ((λ y. cc), λ common. absurd (common-left first second left i common (e.0 refl)))
some-left first second left false i c e =
    ((λ y. left-common first second left i c (λ none. clash false (e.1 none) refl)), λ common. refl)
