-- Anchors that files make, one after the other.
use Rattle.std.proofs.Common.{◌≡◌, ◌<◌, ◌≤◌, ◌+◌, ◌∙◌, ℕ, List, [], ◌∷◌, ◌++◌, Bor}
use Rattle.std.proofs.Common.{Bool, true, false, Ok, Err, refl, sym, ap, subst, inr, arith}
use Rattle.std.proofs.Common.{length, get_or, take, drop, append_assoc, suc}
use Rattle.std.proofs.Math.Seq.{drop-cons}
use Rattle.std.proofs.lemmas.List.{append-nil, length-append, length-drop}
use Rattle.std.proofs.lemmas.List.{drop_all, length-take-le}
use Rattle.std.proofs.lemmas.List.Splits.{length-slice_split}
use Rattle.std.specs.List.{slice_split}
use Rattle.std.specs.Prelude.{if◌then◌else◌}
use Rattle.rpki_basics.specs.Moment.{Moment}
use Rattle.rpki_certs.specs.Verify.{Verdict}
use Rattle.rpki_command.specs.Anchors.{Given, given_in, Makes, MakesOf, MakeEach, AreMade}
use Rattle.rpki_cli.specs.Words.{texts, is_locator, is_colon, path_in, files_of_anchor}
use Rattle.rpki_cli.specs.Words.{files_of_anchors}
use Rattle.rpki_command.specs.declared.anchors.Anchor.{Anchor}
use Rattle.rpki_command.specs.declared.anchors.AnchorError.{AnchorError}

-- the words from a place on
left-at : (words : List (Bor (List ℕ))) (place : ℕ) (d : Bor (List ℕ)) → place < length words
    → drop place words ≡ get_or words place d ∷ drop (place + 1) words
left-at words place d l =
    let next : suc place ≡ place + 1 = omega arith in
    drop-cons words place d l
    ∙ ap (λ (n : ℕ). get_or words place d ∷ drop n words) next

some-of : (b : Bool) (path : List ℕ)
    → 1 ≤ length (if b then path ∷ [] else slice_split is_colon path)
some-of true path = omega arith
some-of false path = omega (arith, length-slice_split is_colon path)

-- an anchor has files
files-some : (word : List ℕ) → 1 ≤ length (files_of_anchor word)
files-some word = some-of (is_locator word) (path_in word)

one-of : (b : Bool) (path : List ℕ) → b ≡ true
    → length (if b then path ∷ [] else slice_split is_colon path) ≡ 1
one-of true path e = refl
one-of false path e = absurd cc

-- a locator has one
files-one : (word : List ℕ) → is_locator word ≡ true → length (files_of_anchor word) ≡ 1
files-one word e = one-of (is_locator word) (path_in word) e

-- an anchor with these files
abbrev pub given_of : List ℕ → List (List ℕ) → Given
given_of word own = record { locates = is_locator word; files = own }

-- of the anchors that are left, the first, and those after it
given-next : (word : List ℕ) (words : List (List ℕ)) (files own others : List (List ℕ))
    → own ≡ take (length (files_of_anchor word)) files
    → others ≡ drop (length (files_of_anchor word)) files
    → given_in (word ∷ words) files
    ≡ given_of word own ∷ given_in words others
given-next word words files own others e f =
    let n = length (files_of_anchor word) in
    ap (λ (os : List (List ℕ)). record { locates = is_locator word; files = os }
    ∷ given_in words (drop n files)) (sym e)
    ∙ ap (λ (os : List (List ℕ)). given_of word own ∷ given_in words os) (sym f)

-- ---- the files that are left

-- The words up to a place name these anchors, and of the others these files are left.
pub record IsCutAt (words : List (Bor (List ℕ))) (all : List (List ℕ)) (place : ℕ)
    (left : List (List ℕ)) (done : List Given) : Type 0 where
  pub cut : given_in (texts words) all
      ≡ done ++ given_in (texts (drop place words)) left
  pub enough : length (files_of_anchors (texts (drop place words))) ≤ length left

module _ (words : List (Bor (List ℕ))) (all : List (List ℕ)) where
  pub none-cut : length (files_of_anchors (texts words)) ≤ length all → IsCutAt words all 0 all []
  none-cut l = record { cut = refl; enough = l }

  module _ (place : ℕ) (left own others : List (List ℕ)) (done : List Given)
      (d : Bor (List ℕ)) (n : ℕ) (is : IsCutAt words all place left done)
      (there : place < length words)
      (count : n ≡ length (files_of_anchor (get_or words place d).now))
      (front : own ≡ take n left) (back : others ≡ drop n left) where
    abbrev word : List ℕ
    word = (get_or words place d).now

    e : own ≡ take (length (files_of_anchor word)) left
    e = front ∙ ap (λ (m : ℕ). take m left) count

    f : others ≡ drop (length (files_of_anchor word)) left
    f = back ∙ ap (λ (m : ℕ). drop m left) count

    pub split : given_in (texts words) all
        ≡ done ++ (given_of word own
        ∷ given_in (texts (drop (place + 1) words)) others)
    split = is.cut
        ∙ ap (λ (ws : List (Bor (List ℕ))).
        done ++ given_in (texts ws) left) (left-at words place d there)
        ∙ ap (λ (g : List Given). done ++ g)
        (given-next word (texts (drop (place + 1) words)) left own others e f)

    long : length (files_of_anchor word)
        + length (files_of_anchors (texts (drop (place + 1) words))) ≤ length left
    long = omega (
      arith,
      is.enough,
      ap (λ (ws : List (Bor (List ℕ))). length (files_of_anchors (texts ws)))
          (left-at words place d there),
      length-append (files_of_anchor word)
          (files_of_anchors (texts (drop (place + 1) words))),
    )

    -- its files are there
    pub own-long : length (files_of_anchor word) ≤ length left
    own-long = omega (arith, long)

    all-own : length own ≡ length (files_of_anchor word)
    all-own = ap length e ∙ length-take-le (length (files_of_anchor word)) left own-long

    pub own-some : 1 ≤ length own
    own-some = omega (arith, all-own, files-some word)

    pub own-one : (b : Bool) → b ≡ is_locator word → b ≡ true → length own ≡ 1
    own-one b i t = all-own ∙ files-one word (sym i ∙ t)

    pub cut-more : IsCutAt words all (place + 1) others (done ++ given_of word own ∷ [])
    cut-more = record {
      cut = split
          ∙ sym (append_assoc done (given_of word own ∷ [])
          (given_in (texts (drop (place + 1) words)) others));
      enough = omega (
        arith,
        long,
        ap length f,
        length-drop (length (files_of_anchor word)) left,
      );
    }

  pub all-cut : (place : ℕ) (left : List (List ℕ)) (done : List Given)
      → IsCutAt words all place left done → (place < length words → ⊥)
      → given_in (texts words) all ≡ done
  all-cut place left done is l = is.cut
      ∙ ap (λ (ws : List (Bor (List ℕ))). done ++ given_in (texts ws) left)
      (drop_all place words (omega (arith, l)))
      ∙ append-nil done

-- ---- the anchors that they make

module _ (verdict : Verdict) (now : Moment) where
  each-more : (done : List Given) (g : Given) (anchors : List Anchor) (a : Anchor)
      → MakeEach verdict now done anchors → Makes verdict now g (Ok a)
      → MakeEach verdict now (done ++ g ∷ []) (anchors ++ a ∷ [])
  each-more [] g [] a h m = (m, tt)
  each-more [] g (b ∷ anchors) a h m = absurd h
  each-more (d ∷ done) g [] a h m = absurd h
  each-more (d ∷ done) g (b ∷ anchors) a h m = (h.0, each-more done g anchors a h.1 m)

  -- The anchors of the words up to a place are made, and of the others these files are left.
  pub record AreMadeTo (words : List (Bor (List ℕ))) (all : List (List ℕ)) (place : ℕ)
      (left : List (List ℕ)) (anchors : List Anchor) : Type 0 where
    pub done : List Given
    pub each : MakeEach verdict now done anchors
    pub is_cut : IsCutAt words all place left done

  module _ (words : List (Bor (List ℕ))) (all : List (List ℕ)) where
    pub none-made : length (files_of_anchors (texts words)) ≤ length all
        → AreMadeTo words all 0 all []
    none-made l = record { done = []; each = tt; is_cut = none-cut words all l }

    module _ (place : ℕ) (left own others : List (List ℕ)) (anchors : List Anchor)
        (d : Bor (List ℕ)) (n : ℕ) (is : AreMadeTo words all place left anchors)
        (there : place < length words)
        (count : n ≡ length (files_of_anchor (get_or words place d).now))
        (front : own ≡ take n left) (back : others ≡ drop n left) where
      abbrev named : List ℕ
      named = (get_or words place d).now

      pub one-made : (a : Anchor) → MakesOf verdict now (is_locator named) own (Ok a)
          → AreMadeTo words all (place + 1) others (anchors ++ a ∷ [])
      one-made a m = record {
        done = is.done ++ given_of named own ∷ [];
        each = each-more is.done (given_of named own) anchors a is.each m;
        is_cut = cut-more words all place left own others is.done d n is.is_cut there count front
            back;
      }

      pub one-unmade : (fault : AnchorError)
          → MakesOf verdict now (is_locator named) own (Err fault)
          → AreMade verdict now (given_in (texts words) all) (Err fault)
      one-unmade fault m = inr (record {
        before = is.done;
        first = given_of named own;
        after = given_in (texts (drop (place + 1) words)) others;
        cut = split words all place left own others is.done d n is.is_cut there count front back;
        made = anchors;
        each = is.each;
        unmade = m;
      })

    pub all-made : (place : ℕ) (left : List (List ℕ)) (anchors : List Anchor)
        → AreMadeTo words all place left anchors → (place < length words → ⊥)
        → MakeEach verdict now (given_in (texts words) all) anchors
    all-made place left anchors is l =
        subst (λ (g : List Given). MakeEach verdict now g anchors)
        (sym (all-cut words all place left is.done is.is_cut l)) is.each
