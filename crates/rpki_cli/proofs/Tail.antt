-- The words after a trust anchor.
use Rattle.std.proofs.Common.{◌≡◌, ◌<◌, ◌≤◌, ◌+◌, ◌-◌, ◌&&◌, ◌∙◌, ℕ, List, [], ◌∷◌, Bor, Bool, true}
use Rattle.std.proofs.Common.{false, arith, refl, sym, ap, subst, length, get_or, take, drop, map}
use Rattle.std.proofs.Common.{Contains}
use Rattle.std.proofs.Math.ListN.{get_or-map}
use Rattle.std.proofs.lemmas.List.{take_all, take_rest, drop_all, length-map, take-map, drop-map}
use Rattle.std.proofs.lemmas.List.{get_or-map as get_or-mapped}
use Rattle.std.proofs.lemmas.List.Sums.{position_or_len_is}
use Rattle.std.proofs.lemmas.Slice.Eq.{bytes_eq-Decides}
use Rattle.std.specs.List.{position_or_len}
use Rattle.std.specs.Str.{bytes_eq}
use Rattle.rpki_cli.specs.Words.{texts, are_named, word_with, is_with, chain_in, pairs_in, path_in}
use Rattle.rpki_cli.specs.Words.{paths_in, others_in}
use Rattle.rpki_cli.proofs.Anchored.{named-append}

-- where the first `with` stands
first-with : (words : List (Bor (List ℕ))) (i : ℕ) (d : Bor (List ℕ)) → i ≤ length words
    → ((k : ℕ) → k < i → is_with (get_or words k d).now ≡ false)
    → (i < length words → is_with (get_or words i d).now ≡ true)
    → position_or_len is_with (texts words) ≡ i
first-with words i d l before at =
    position_or_len_is is_with (texts words) i d.now
    (omega (arith, l, length-map words (λ (x : Bor (List ℕ)). x.now)))
    (λ k h. subst (λ (w : List ℕ). is_with w ≡ false)
    (sym (get_or-map (λ (x : Bor (List ℕ)). x.now) words k d)) (before k h))
    (λ h. subst (λ (w : List ℕ). is_with w ≡ true)
    (sym (get_or-map (λ (x : Bor (List ℕ)). x.now) words i d))
    (at (omega (arith, h, length-map words (λ (x : Bor (List ℕ)). x.now)))))

module _ (words : List (Bor (List ℕ))) (i : ℕ) (d : Bor (List ℕ)) (l : i < length words)
    (at : is_with (get_or words i d).now ≡ true)
    (before : (k : ℕ) (e : Bor (List ℕ)) → k < i → is_with (get_or words k e).now ≡ false) where
  found : position_or_len is_with (texts words) ≡ i
  found = first-with words i d (omega (arith, l)) (λ k h. before k d h) (λ h. at)

  -- what stands before it
  pub chain-found : texts (take i words) ≡ chain_in (texts words)
  chain-found = sym (take-map (λ (x : Bor (List ℕ)). x.now) i words)
      ∙ ap (λ (n : ℕ). take n (texts words)) (sym found)

  -- what stands after it
  pub pairs-found : texts (take (length words - (i + 1)) (drop (i + 1) words))
      ≡ pairs_in (texts words)
  pairs-found = ap texts (take_rest words (i + 1))
      ∙ sym (drop-map (λ (x : Bor (List ℕ)). x.now) (i + 1) words)
      ∙ ap (λ (n : ℕ). drop (n + 1) (texts words)) (sym found)

-- there is none
no-with : (words : List (Bor (List ℕ)))
    → ((k : ℕ) (e : Bor (List ℕ)) → k < length words → is_with (get_or words k e).now ≡ false)
    → position_or_len is_with (texts words) ≡ length words
no-with [] none = refl
no-with (w ∷ ws) none =
    first-with (w ∷ ws) (length (w ∷ ws)) w (omega arith) (λ k h. none k w h)
    (λ h. absurd (omega (arith, h)))

pub chain-whole : (words : List (Bor (List ℕ)))
    → ((k : ℕ) (e : Bor (List ℕ)) → k < length words → is_with (get_or words k e).now ≡ false)
    → texts words ≡ chain_in (texts words)
chain-whole words none =
    sym (take_all (length words) (texts words)
    (omega (arith, length-map words (λ (x : Bor (List ℕ)). x.now))))
    ∙ ap (λ (n : ℕ). take n (texts words)) (sym (no-with words none))

pub no-pairs : (words : List (Bor (List ℕ)))
    → ((k : ℕ) (e : Bor (List ℕ)) → k < length words → is_with (get_or words k e).now ≡ false)
    → ◌≡◌ {A = List (List ℕ)} [] (pairs_in (texts words))
no-pairs words none =
    sym (drop_all (length words + 1) (texts words)
    (omega (arith, length-map words (λ (x : Bor (List ℕ)). x.now))))
    ∙ ap (λ (n : ℕ). drop (n + 1) (texts words)) (sym (no-with words none))

-- the word at a place
at-word : (words : List (Bor (List ℕ))) (k : ℕ) (d : Bor (List ℕ)) (e : List ℕ) → k < length words
    → get_or (texts words) k e ≡ (get_or words k d).now
at-word words k d e l = get_or-mapped (λ (x : Bor (List ℕ)). x.now) words k d e l

-- a word of the list is `with`
pub with-at : (words : List (Bor (List ℕ))) (k : ℕ) (d : Bor (List ℕ)) → k < length words
    → is_with (get_or words k d).now ≡ true → Contains (texts words) word_with
with-at words k d l e =
    let is : (get_or words k d).now ≡ word_with =
    (bytes_eq-Decides (get_or words k d).now word_with).0 e in (
      k,
      omega (arith, l, length-map words (λ (x : Bor (List ℕ)). x.now)),
      at-word words k d word_with l ∙ is,
    )

not-both : (b : Bool) → b ≡ true → b ≡ false → ⊥
not-both b t f = cc

-- none is `with`
pub without-with : (words : List (Bor (List ℕ)))
    → ((k : ℕ) (d : Bor (List ℕ)) → k < length words → is_with (get_or words k d).now ≡ false)
    → Contains (texts words) word_with → ⊥
without-with [] none c = absurd (omega (arith, c.1))
without-with (w ∷ ws) none c =
    let l : c.0 < length (w ∷ ws) =
    omega (arith, c.1, length-map (w ∷ ws) (λ (x : Bor (List ℕ)). x.now)) in
    let e : (get_or (w ∷ ws) c.0 w).now ≡ word_with =
    sym (at-word (w ∷ ws) c.0 w word_with l) ∙ c.2 in
    not-both (bytes_eq (get_or (w ∷ ws) c.0 w).now word_with)
    ((bytes_eq-Decides (get_or (w ∷ ws) c.0 w).now word_with).1 e) (none c.0 w l)

module _ (chain pairs : List (Bor (List ℕ))) (tail : List (List ℕ)) (a : Bool)
    (before : texts chain ≡ chain_in tail) (is : a ≡ are_named (texts chain)) where
  both-named : (b : Bool) → texts pairs ≡ pairs_in tail → b ≡ are_named (map path_in (texts pairs))
      → (a && b) ≡ are_named (others_in tail)
  both-named b after e =
      ap (λ (x : Bool). x && b) (is ∙ ap are_named before)
      ∙ ap (λ (x : Bool). are_named (chain_in tail) && x)
      (e ∙ ap (λ (ps : List (List ℕ)). are_named (map path_in ps)) after)
      ∙ sym (named-append (chain_in tail) (paths_in tail))

  -- the certificates have names, and so it is for the pairs to say
  pub named-by-pairs : (b : Bool) → texts pairs ≡ pairs_in tail
      → b ≡ are_named (map path_in (texts pairs)) → a ≡ true → b ≡ are_named (others_in tail)
  named-by-pairs b after e t =
      ap (λ (x : Bool). x && b) (sym t) ∙ both-named b after e

  -- a certificate has none
  pub unnamed-chain : a ≡ false → a ≡ are_named (others_in tail)
  unnamed-chain f =
      f ∙ ap (λ (x : Bool). x && are_named (paths_in tail)) (sym f ∙ (is ∙ ap are_named before))
      ∙ sym (named-append (chain_in tail) (paths_in tail))
