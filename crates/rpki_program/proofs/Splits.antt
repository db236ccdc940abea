-- Words and their items.
use Rattle.std.proofs.Common.{◌≡◌, ◌++◌, ◌+◌, ◌-◌, ◌<◌, ◌≤◌, ◌∙◌, ℕ, List, [], ◌∷◌, Bor, Option, None, Some}
use Rattle.std.proofs.Common.{arith, sym, ap, subst, suc, codes, drop, get_or, length, map}
use Rattle.std.proofs.Common.{append_assoc, drop-cons, drop-drop, refl, take, true}
use Rattle.std.proofs.Math.ListN.{drop_of_length-le}
use Rattle.std.proofs.Math.Seq.{drop-append_seam}
use Rattle.std.proofs.lemmas.List.{append-nil, drop-map, length-drop, take_all}
use Rattle.std.proofs.lemmas.Str.Pattern.{IsSplitOnceResult, split_parts}
use Rattle.std.specs.Prelude.{IfSome}
use Rattle.rpki_cli.specs.Words.{texts}
use Rattle.rpki_program.specs.Verify.Items.{AreItems, IsNext, no_more, next, ended}
use Rattle.rpki_program.specs.Verify.Words.{IsWordOf, takes_value}
use Rattle.rpki_program.specs.declared.verify.items.Item.{Item}
use Rattle.rpki_program.specs.declared.verify.items.Item.TheVariants.{Operand, Value}
use Rattle.rpki_program.specs.declared.verify.options.OptionName.{OptionName}

-- the parts around an equals sign
pub parted : (word : List ℕ) (r : Option (Bor (List ℕ) × Bor (List ℕ))) → IsSplitOnceResult 61 word r
    → IfSome r (λ p. word ≡ p.0.now ++ (codes "=" ++ p.1.now))
parted word None h = tt
parted word (Some x) h = (split_parts 61 word (Some x) h (omega arith)).0

-- Whatever items the words left are, the words are those so far and these.
abbrev pub SoFar : List (List ℕ) → List Item → List (List ℕ) → Type 0
SoFar words items left = (rest : List Item) → AreItems left rest → AreItems words (items ++ rest)

-- no item yet
pub begun : (words : List (Bor (List ℕ))) (items : List Item) → items ≡ []
    → SoFar (texts words) items (texts (drop 0 words))
begun words items e rest r =
    subst (λ (o : List Item). AreItems (texts words) (o ++ rest)) (sym e) r

-- the words from a place on, as a slice has them
tail-all : (words : List (Bor (List ℕ))) (k : ℕ)
    → take (length words - k) (drop k words) ≡ drop k words
tail-all words k = take_all (length words - k) (drop k words) (omega (arith, length-drop k words))

-- the words at a place
words-at : (words : List (Bor (List ℕ))) (at : ℕ) (d : Bor (List ℕ)) → at < length words
    → texts (drop at words)
    ≡ (get_or words at d).now ∷ texts (take (length words - (at + 1)) (drop (at + 1) words))
words-at words at d l =
    let next : suc at ≡ at + 1 = omega arith in
    ap texts (drop-cons words at d l)
    ∙ (ap (λ (n : ℕ). (get_or words at d).now ∷ texts (drop n words)) next
    ∙ ap (λ (ws : List (Bor (List ℕ))). (get_or words at d).now ∷ texts ws)
    (sym (tail-all words (at + 1))))

-- those after an item
words-after : (words : List (Bor (List ℕ))) (at n : ℕ) (these after : List (List ℕ))
    → texts (drop at words) ≡ these ++ after → n ≡ length these
    → after ≡ texts (drop (at + n) words)
words-after words at n these after e l =
    sym (drop-append_seam these after)
    ∙ (ap (λ (k : ℕ). drop k (these ++ after)) (sym l)
    ∙ (ap (λ (q : List (List ℕ)). drop n q) (sym e)
    ∙ (drop-map (λ (w : Bor (List ℕ)). w.now) n (drop at words)
    ∙ ap texts (drop-drop n at words))))

-- one more item
pub taken : (words : List (Bor (List ℕ))) (at n : ℕ) (d : Bor (List ℕ))
    (items new : List Item) (item : Item) → at < length words
    → IsNext (get_or words at d).now
    (texts (take (length words - (at + 1)) (drop (at + 1) words))) (Some (item, n))
    → new ≡ items ++ item ∷ [] → SoFar (texts words) items (texts (drop at words))
    → SoFar (texts words) new (texts (drop (at + n) words))
taken words at n d items new item l (these, after, h, cut, count) e before rest r =
    let left : texts (drop at words) ≡ these ++ after = words-at words at d l ∙ cut in
    let now = words-after words at n these after left count in
    subst (λ (o : List Item). AreItems (texts words) o)
    (sym (ap (λ (o : List Item). o ++ rest) e ∙ append_assoc items (item ∷ []) rest))
    (before (item ∷ rest) (subst (λ (q : List (List ℕ)). AreItems q (item ∷ rest)) (sym left)
    (next these after h (subst (λ (q : List (List ℕ)). AreItems q rest) (sym now) r))))

-- operands alone are left
pub closed : (words : List (Bor (List ℕ))) (at : ℕ) (d : Bor (List ℕ)) (items new : List Item)
    → at < length words → (get_or words at d).now ≡ codes "--"
    → new ≡ items
    ++ map Operand (texts (take (length words - (at + 1)) (drop (at + 1) words)))
    → SoFar (texts words) items (texts (drop at words)) → AreItems (texts words) new
closed words at d items new l dashes e before =
    let after = texts (take (length words - (at + 1)) (drop (at + 1) words)) in
    subst (λ (o : List Item). AreItems (texts words) o) (sym e) (before (map Operand after)
    (subst (λ (q : List (List ℕ)). AreItems q (map Operand after))
    (sym (words-at words at d l ∙ ap (λ (q : List ℕ). q ∷ after) dashes)) ended))

-- an option and the value behind it
pub next-value : (word : List ℕ) (words rest : List (Bor (List ℕ))) (value : Bor (List ℕ))
    (n : OptionName) → words ≡ value ∷ rest → IsWordOf word n → takes_value n ≡ true
    → IsNext word (texts words) (Some (Value n value.now, 2))
next-value word words rest value n e is takes = (
  word ∷ value.now ∷ [],
  texts rest,
  (is, takes, refl),
  ap (λ (ws : List (Bor (List ℕ))). word ∷ texts ws) e,
  refl,
)

-- nothing is left
pub finished : (words : List (Bor (List ℕ))) (at : ℕ) (items : List Item) → length words ≤ at
    → SoFar (texts words) items (texts (drop at words)) → AreItems (texts words) items
finished words at items l before =
    subst (λ (o : List Item). AreItems (texts words) o) (append-nil items)
    (before [] (subst (λ (q : List (List ℕ)). AreItems q [])
    (sym (ap texts (drop_of_length-le words {i = at} l))) no_more))
