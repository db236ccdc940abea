-- Items of JSON that say what was read, one after the other.
use Rattle.std.proofs.Common.{◌≡◌, ◌<◌, ◌≤◌, ◌+◌, ℕ, List, [], ◌∷◌, ◌++◌, get_or, length, subst, sym, take}
use Rattle.std.proofs.lemmas.List.{take_all, take_more}
use Rattle.std.proofs.lemmas.Slice.Zip.{all_zipped_more}
use Rattle.std.specs.List.{AllZip}
use Rattle.serde_json.specs.Data.{Data}
use Rattle.serde_json.specs.View.{items_view, view}
use Rattle.serde_json.specs.declared.value.Value.{Value}
use Rattle.rpki_payloads.specs.Slurm.Said.{ItemsSay}

module _ {X : Type 0} (Says : Data → X → Type 0) where
  abbrev Both : Value → X → Type 0
  Both v x = Says (view v) x

  items-say : (vs : List Value) (xs : List X) → AllZip Both vs xs
      → ItemsSay Says (items_view vs) xs
  items-say [] [] h = tt
  items-say [] (x ∷ xs) h = absurd h
  items-say (v ∷ vs) [] h = absurd h
  items-say (v ∷ vs) (x ∷ xs) h = (h.0, items-say vs xs h.1)

  -- one item more
  pub say-more : (vs : List Value) (xs : List X) (i : ℕ) (v : Value) (x : X)
      → length vs ≡ length xs → i < length xs → v ≡ get_or vs i v → x ≡ get_or xs i x
      → AllZip Both (take i vs) (take i xs) → Says (view v) x
      → AllZip Both (take (i + 1) vs) (take (i + 1) xs)
  say-more vs xs i v x same l v-is x-is h says =
      subst (λ (ys : List X). AllZip Both (take (i + 1) vs) ys) (sym (take_more xs i x l))
      (subst (λ (ws : List Value). AllZip Both ws (take i xs ++ get_or xs i x ∷ []))
      (sym (take_more vs i v (subst (λ (n : ℕ). i < n) (sym same) l)))
      (all_zipped_more Both (take i vs) (take i xs) (get_or vs i v) (get_or xs i x) h
      (subst (λ (w : Value). Both w (get_or xs i x)) v-is (subst (λ (y : X). Both v y) x-is says))))

  -- after the last item
  pub say-all : (vs : List Value) (xs : List X) (i : ℕ) → length vs ≡ length xs
      → length xs ≤ i → AllZip Both (take i vs) (take i xs) → ItemsSay Says (items_view vs) xs
  say-all vs xs i same all h =
      items-say vs xs (subst (λ (ws : List Value). AllZip Both ws xs)
      (take_all i vs (subst (λ (n : ℕ). n ≤ i) (sym same) all))
      (subst (λ (ys : List X). AllZip Both (take i vs) ys) (take_all i xs all) h))
