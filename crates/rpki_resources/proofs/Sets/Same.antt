-- equal sets have equal blocks
use Rattle.std.proofs.Common.{◌≡◌, ℕ, ◌+◌, ◌≤◌, List, [], ◌∷◌, true, false, ◌||◌, arith, inl, inr}
use Rattle.std.proofs.Common.{refl, sym, ◌∙◌}
use Rattle.std.proofs.lemmas.Bool.Decides.{leb_tells}
use Rattle.rpki_resources.specs.declared.block.Block.{Block}
use Rattle.rpki_resources.specs.Blocks.{within, holds, RisesFrom, SameSet}
use Rattle.rpki_resources.proofs.Sets.Between.{between-in, between-after}
use Rattle.std.proofs.lemmas.Bool.{or_left}
use Rattle.rpki_resources.proofs.Sets.Rises.{holds-below, held-above, clash}

same-block : {T : Type 0} (x y : Block T) → x.min ≡ y.min → x.max ≡ y.max → x ≡ y
same-block x y p q = λ i. record { min = p i; max = q i }

module _ {T : Type 0} (f : T → ℕ) where
  -- the first number of a set is in no set that begins later
  begins : (a : ℕ) (x y : Block T) (xs ys : List (Block T)) → f x.min ≤ f x.max
      → RisesFrom f a (y ∷ ys) → SameSet f (x ∷ xs) (y ∷ ys) → f y.min ≤ f x.min
  begins a x y xs ys v r e =
      held-above f (f y.min) (f x.min) (y ∷ ys) (omega arith, r.1, r.2)
      (sym (e (f x.min)) ∙ or_left (within f (f x.min) x) (holds f xs (f x.min))
      (between-in (f x.min) (f x.max) (f x.min) (omega arith) v))

  -- the first block of a set doesn't end after that of the other
  ends : (x y : Block T) (xs ys : List (Block T)) → f x.min ≡ f y.min → f y.min ≤ f y.max
      → RisesFrom f (f y.max + 2) ys → SameSet f (x ∷ xs) (y ∷ ys) → f x.max ≤ f y.max
  ends x y xs ys l v r e = elim (leb_tells (f x.max) (f y.max)) [
    | inl p ↦ p.1
    | inr q ↦
        let n : ℕ = f y.max + 1 in
        let held : (within f n y || holds f ys n) ≡ true = sym (e n)
        ∙ or_left (within f n x) (holds f xs n)
        (between-in (f x.min) (f x.max) n (omega arith) (omega arith)) in
        let after : within f n y ≡ false = between-after (f y.min) (f y.max) n (omega arith) in
        let below : holds f ys n ≡ false = holds-below f (f y.max + 2) n ys r (omega arith) in
        absurd (clash (within f n y || holds f ys n) held (rw (after, below) refl))
  ]

  rest : (a c n : ℕ) (x y : Block T) (xs ys : List (Block T)) → f x.max ≡ f y.max
      → RisesFrom f (f x.max + 2) xs → RisesFrom f (f y.max + 2) ys → SameSet f (x ∷ xs) (y ∷ ys)
      → holds f xs n ≡ holds f ys n
  rest a c n x y xs ys h r s e = elim (leb_tells n (f x.max)) [
    | inl p ↦ holds-below f (f x.max + 2) n xs r (omega arith)
        ∙ sym (holds-below f (f y.max + 2) n ys s (omega arith))
    | inr q ↦
        let same : (within f n x || holds f xs n) ≡ (within f n y || holds f ys n) = e n in
        rw (
          between-after (f x.min) (f x.max) n q.1,
          between-after (f y.min) (f y.max) n (omega arith),
        ) at same
  ]

  pub same_blocks : ((x y : T) → f x ≡ f y → x ≡ y) → (a c : ℕ) (xs ys : List (Block T))
      → RisesFrom f a xs → RisesFrom f c ys → SameSet f xs ys → xs ≡ ys
  same_blocks exact a c [] [] r s e = refl
  same_blocks exact a c [] (y ∷ ys) r s e =
      absurd (clash (within f (f y.min) y || holds f ys (f y.min))
      (or_left (within f (f y.min) y) (holds f ys (f y.min))
      (between-in (f y.min) (f y.max) (f y.min) (omega arith) s.1)) (sym (e (f y.min))))
  same_blocks exact a c (x ∷ xs) [] r s e =
      absurd (clash (within f (f x.min) x || holds f xs (f x.min))
      (or_left (within f (f x.min) x) (holds f xs (f x.min))
      (between-in (f x.min) (f x.max) (f x.min) (omega arith) r.1)) (e (f x.min)))
  same_blocks exact a c (x ∷ xs) (y ∷ ys) r s e =
      let d : SameSet f (y ∷ ys) (x ∷ xs) = λ n. sym (e n) in
      let low₁ : f y.min ≤ f x.min = begins c x y xs ys r.1 s e in
      let low₂ : f x.min ≤ f y.min = begins a y x ys xs s.1 r d in
      let low : f x.min ≡ f y.min = omega arith in
      let high₁ : f x.max ≤ f y.max = ends x y xs ys low s.1 s.2 e in
      let high₂ : f y.max ≤ f x.max = ends y x ys xs (sym low) r.1 r.2 d in
      let high : f x.max ≡ f y.max = omega arith in
      let first : x ≡ y = same-block x y (exact x.min y.min low) (exact x.max y.max high) in
      let others : xs ≡ ys =
      same_blocks exact (f x.max + 2) (f y.max + 2) xs ys r.2 s.2
      (λ n. rest a c n x y xs ys high r.2 s.2 e) in
      λ i. first i ∷ others i
