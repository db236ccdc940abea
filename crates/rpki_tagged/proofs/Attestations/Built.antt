-- What is built of a builder: whether it names something, and why it is refused.
use Rattle.std.proofs.Common.{◌≡◌, ℕ, List, [], ◌∷◌, Bool, false, arith, inl, inr, sym, ◌∙◌}
use Rattle.std.proofs.Common.{◌<◌, ◌^◌, length, refl, subst, Result, Ok, Err}
use Rattle.std.specs.Prelude.{not, IsTrue, IfOk, IfErr, OnOk}
use Rattle.std.proofs.lemmas.Bool.{or_left}
use Rattle.rpki_basics.specs.declared.build.BuildError.{BuildError}
use Rattle.rpki_basics.specs.declared.build.BuildError.TheVariants as error
use Rattle.rpki_basics.specs.declared.build.BuildFault.TheVariants.{NoResources}
use Rattle.rpki_lists.specs.Built.{IsNotBuilt}
use Rattle.rpki_resources.specs.declared.block.Block.{Block}
use Rattle.rpki_resources.specs.Blocks.{within, holds, Holds, IsSetOf, RisesFrom}
use Rattle.rpki_resources.proofs.Sets.Between.{between-in}
use Rattle.rpki_tagged.specs.Attestation.{Attestation, attestation_contents}
use Rattle.rpki_tagged.specs.Built.{HaveNumber, IsBuiltOf, IsTooLong, HasNumbers}
use Rattle.rpki_tagged.specs.Built.{attestation_checks}
use Rattle.rpki_lists.specs.Named.{Set, is_empty}

-- in blocks that ascend there is a number, unless there is no block
pub number-there : {T : Type 0} (f : T → ℕ) (a : ℕ) (set : List (Block T)) (none : Bool)
    → none ≡ is_empty set → RisesFrom f a set → IsTrue (not none) → (n : ℕ) × Holds f set n
number-there f a [] none e r some = absurd cc
number-there f a (b ∷ set) none e r some = (
  f b.min,
  or_left (within f (f b.min) b) (holds f set (f b.min))
      (between-in (f b.min) (f b.max) (f b.min) (omega arith) r.1),
)

pub nothing-there : {T : Type 0} (set : List (Block T)) (none : Bool) → none ≡ is_empty set
    → not none ≡ false → set ≡ []
nothing-there [] none e h = refl
nothing-there (b ∷ set) none e h = absurd cc

pub none-there : (set : Set) → set ≡ [] → HaveNumber set → ⊥
none-there [] e h = absurd cc
none-there (b ∷ set) e h = absurd cc

-- what is built of blocks has a number exactly if they have
have-alike : (blocks set : Set) → IsSetOf blocks set → HaveNumber set → HaveNumber blocks
have-alike blocks set s h = (h.0, sym (s.same h.0) ∙ h.1)

have-back : (blocks set : Set) → IsSetOf blocks set → HaveNumber blocks → HaveNumber set
have-back blocks set s h = (h.0, s.same h.0 ∙ h.1)

pub some-built : (builder content : Attestation) → IsBuiltOf builder content → HasNumbers content
    → HasNumbers builder
some-built builder content b (inl n) =
    inl (have-alike builder.as_resources content.as_resources b.numbers n)
some-built builder content b (inr (inl n)) =
    inr (inl (have-alike builder.v4_resources content.v4_resources b.v4 n))
some-built builder content b (inr (inr n)) =
    inr (inr (have-alike builder.v6_resources content.v6_resources b.v6 n))

pub none-built : (builder content : Attestation) → IsBuiltOf builder content
    → (HasNumbers content → ⊥) → HasNumbers builder → ⊥
none-built builder content b none (inl n) =
    none (inl (have-back builder.as_resources content.as_resources b.numbers n))
none-built builder content b none (inr (inl n)) =
    none (inr (inl (have-back builder.v4_resources content.v4_resources b.v4 n)))
none-built builder content b none (inr (inr n)) =
    none (inr (inr (have-back builder.v6_resources content.v6_resources b.v6 n)))

-- what holds of one value holds of each that is this one
pub if-same : {T E : Type 0} (P : T → Type 0) (r : Result T E) (a : T) → IfOk r (λ s. s ≡ a)
    → OnOk r (P a) → IfOk r P
if-same P (Ok s) a e h = subst P (sym e) h
if-same P (Err f) a e h = tt

-- what is refused for its length
pub short-refused : (builder content : Attestation) (r : Result Attestation BuildError)
    → IsBuiltOf builder content → HasNumbers content
    → IfErr r (IsNotBuilt [] (length (attestation_contents content) < 2 ^ 32 → ⊥))
    → IfErr r (IsNotBuilt (attestation_checks builder) (IsTooLong builder))
short-refused builder content (Ok a) b some h = tt
short-refused builder content (Err (error.Fault f)) b some h = absurd h
short-refused builder content (Err error.TooLong) b some h =
    ((some-built builder content b some, tt), (content, b, h.1))
short-refused builder content (Err error.Memory) b some h = tt

-- what is refused since it names nothing
pub nothing-refused : (builder content : Attestation) → IsBuiltOf builder content
    → (HasNumbers content → ⊥)
    → IsNotBuilt (attestation_checks builder) (IsTooLong builder) (error.Fault NoResources)
nothing-refused builder content b none = inr (none-built builder content b none, refl)
