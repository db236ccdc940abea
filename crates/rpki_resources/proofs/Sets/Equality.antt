-- comparing blocks compares sets
use Rattle.std.proofs.Common.{◌≡◌, ℕ, List, Bool, ◌==◌}
use Rattle.std.specs.Bool.{Decides}
use Rattle.std.specs.Cmp.Lexicographic.{pointwise, pointwise_decides}
use Rattle.std.proofs.lemmas.Bool.Decides.{Decides-eqb, Decides-at, Decides-like, Decides-and}
use Rattle.rpki_resources.specs.declared.block.Block.{Block}
use Rattle.rpki_resources.specs.Equal.{same_ends}

module _ {T : Type 0} (f : T → ℕ) (eq : T → T → Bool) (exact : (x y : T) → f x ≡ f y → x ≡ y)
    (alike : (x y : T) → eq x y ≡ (f x == f y)) where
  decides : (x y : T) → Decides (eq x y) (x ≡ y)
  decides x y = Decides-like (eq x y) (exact x y) (λ e i. f (e i))
      (Decides-at (eq x y) (f x == f y) (alike x y) (Decides-eqb (f x) (f y)))

  both : (a b : Block T) → Decides (same_ends eq a b) (a ≡ b)
  both a b = Decides-like (same_ends eq a b) (λ p i. record { min = p.0 i; max = p.1 i })
      (λ e. ((λ i. (e i).min), (λ i. (e i).max)))
      (Decides-and (eq a.min b.min) (eq a.max b.max) (decides a.min b.min)
      (decides a.max b.max))

  pub lists-decide : (xs ys : List (Block T)) → Decides (pointwise (same_ends eq) xs ys) (xs ≡ ys)
  lists-decide xs ys = pointwise_decides both xs ys
