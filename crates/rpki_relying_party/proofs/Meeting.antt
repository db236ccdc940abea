-- Places are met, and passed over or left.
use Rattle.std.proofs.Common.{◌≡◌, ℕ, List, [], ◌∷◌, ◌++◌, Bool, true, false, map, refl, sym, subst}
use Rattle.std.proofs.Common.{ap, ◌∙◌, append_assoc}
use Rattle.std.specs.Prelude.{IsTrue, IsPermutation}
use Rattle.std.proofs.lemmas.Bool.{true≢false}
use Rattle.std.proofs.lemmas.List.{append-nil, map-append}
use Rattle.std.proofs.lemmas.List.Elements.{All-nil, All-push}
use Rattle.std.proofs.lemmas.List.Sorted.{IsPermutation-refl, IsPermutation-sym}
use Rattle.std.proofs.lemmas.List.Sorted.{IsPermutation-trans, IsPermutation-append_right}
use Rattle.std.proofs.lemmas.List.Sorted.{IsPermutation-middle}
use Rattle.rpki_relying_party.specs.Walk.{Left}
use Rattle.rpki_relying_party.specs.Steps.{ArePassed, left_for, passed_by}
use Rattle.rpki_relying_party.specs.declared.walk.Why.TheVariants.{Memory}

-- one of those that were to be put was put
pub put-one : {X : Type 0} (all rest old new : List X) (x : X) → IsPermutation all (x ∷ rest ++ old)
    → IsPermutation (x ∷ old) new → IsPermutation all (rest ++ new)
put-one all rest old new x h i =
    IsPermutation-trans all (x ∷ rest ++ old) (rest ++ new) h
    (IsPermutation-trans (x ∷ rest ++ old) (rest ++ x ∷ old) (rest ++ new)
    (IsPermutation-sym (rest ++ x ∷ old) (x ∷ rest ++ old) (IsPermutation-middle rest x old))
    (IsPermutation-append_right rest (x ∷ old) new i))

module _ {P : Type 0} (key : P → List ℕ) (read lacking : List ℕ → Bool) where
  abbrev IsOver : P → Type 0
  IsOver p = IsTrue (read (key p))

  abbrev IsLacking : P → Type 0
  IsLacking p = (¬ IsTrue (read (key p))) × IsTrue (lacking (key p))

  pub passed-none : (unread : List (Left P)) (waiting : List P)
      → ArePassed key read lacking unread unread waiting waiting
  passed-none unread waiting = record {
    passed = [];
    over = All-nil IsOver;
    left = [];
    lack = All-nil IsLacking;
    now = sym (append-nil unread);
    split = IsPermutation-refl waiting;
  }

  module _ (unread mid-unread : List (Left P)) (waiting mid : List P)
      (a : ArePassed key read lacking unread mid-unread waiting mid) where
    -- the others in another order
    split-then : (waiting2 : List P) → IsPermutation mid waiting2
        → IsPermutation waiting (a.passed ++ (a.left ++ waiting2))
    split-then waiting2 h = IsPermutation-trans waiting (a.passed ++ (a.left ++ mid))
        (a.passed ++ (a.left ++ waiting2)) a.split
        (IsPermutation-append_right a.passed (a.left ++ mid) (a.left ++ waiting2)
        (IsPermutation-append_right a.left mid waiting2 h))

    pub passed-then : (waiting2 : List P) → IsPermutation mid waiting2
        → ArePassed key read lacking unread mid-unread waiting waiting2
    passed-then waiting2 h = record {
      passed = a.passed;
      over = a.over;
      left = a.left;
      lack = a.lack;
      now = a.now;
      split = split-then waiting2 h;
    }

    module _ (p : P) (waiting2 : List P) (h : IsPermutation mid (p ∷ waiting2)) where
      before : IsPermutation waiting (a.passed ++ (a.left ++ p ∷ waiting2))
      before = split-then (p ∷ waiting2) h

      -- one more is passed over
      over-more : IsOver p → ArePassed key read lacking unread mid-unread waiting waiting2
      over-more t = record {
        passed = a.passed ++ p ∷ [];
        over = All-push IsOver a.passed p a.over t;
        left = a.left;
        lack = a.lack;
        now = a.now;
        split = subst (λ (l : List P). IsPermutation waiting l)
            (sym (append_assoc a.passed (p ∷ []) (a.left ++ waiting2)))
            (IsPermutation-trans waiting (a.passed ++ (a.left ++ p ∷ waiting2))
            (a.passed ++ p ∷ (a.left ++ waiting2)) before
            (IsPermutation-append_right a.passed (a.left ++ p ∷ waiting2)
            (p ∷ (a.left ++ waiting2)) (IsPermutation-middle a.left p waiting2)));
      }

      -- one more is left
      left-more : IsLacking p
          → ArePassed key read lacking unread (mid-unread ++ left_for p Memory 0 ∷ []) waiting
          waiting2
      left-more t = record {
        passed = a.passed;
        over = a.over;
        left = a.left ++ p ∷ [];
        lack = All-push IsLacking a.left p a.lack t;
        now = ap (λ (l : List (Left P)). l ++ left_for p Memory 0 ∷ []) a.now
            ∙ append_assoc unread (map (λ q. left_for q Memory 0) a.left)
            (left_for p Memory 0 ∷ [])
            ∙ ap (λ (l : List (Left P)). unread ++ l)
            (sym (map-append (λ q. left_for q Memory 0) a.left (p ∷ [])));
        split = subst (λ (l : List P). IsPermutation waiting (a.passed ++ l))
            (sym (append_assoc a.left (p ∷ []) waiting2)) before;
      }

      -- it is passed over where its key was read, and else left
      pub passed-more : (is_read : Bool) → is_read ≡ read (key p)
          → (is_read ≡ false → IsTrue (lacking (key p))) → (unread2 : List (Left P))
          → unread2 ≡ mid-unread ++ passed_by p is_read
          → ArePassed key read lacking unread unread2 waiting waiting2
      passed-more true e l unread2 u =
          subst (λ (v : List (Left P)). ArePassed key read lacking unread v waiting waiting2)
          (sym (u ∙ append-nil mid-unread)) (over-more (sym e))
      passed-more false e l unread2 u =
          subst (λ (v : List (Left P)). ArePassed key read lacking unread v waiting waiting2)
          (sym u) (left-more (λ t. true≢false (sym t ∙ sym e), l refl))
