-- Entries are counted while a rule is tested.
use Rattle.std.proofs.Common.{◌≡◌, ℕ, true, false, ◌+◌, ◌≤◌, List, [], ◌∷◌, ◌++◌, length}
use Rattle.std.proofs.Common.{Option, Some, None, Result, Ok, Err, refl, sym, ap, ◌∙◌, append_assoc}
use Rattle.std.proofs.Common.{arith}
use Rattle.std.proofs.lemmas.List.{length-append, append-nil}
use Rattle.rpki_der.specs.declared.mode.Mode.TheVariants.{Der}
use Rattle.rpki_der.specs.Read.Parse.{Parser, ◌>>=◌, all_of}
use Rattle.rpki_lists.specs.Entries.{Shrinks}
use Rattle.rpki_lists.specs.Rules.{goes_on, admits, lets_all, PassesBy}
use Rattle.rpki_lists.proofs.Lists.{all-first, all-refused, all-ended}

abbrev pub with_all : {X : Type 0} → List X → Option (List X) → Option (List X)
with_all front None = None
with_all front (Some xs) = Some (front ++ xs)

with_all-none : {X : Type 0} (o : Option (List X)) → with_all [] o ≡ o
with_all-none None = refl
with_all-none (Some xs) = refl

with_all-twice : {X : Type 0} (front : List X) (x : X) (o : Option (List X))
    → with_all front (o >>= λ xs. Some (x ∷ xs)) ≡ with_all (front ++ x ∷ []) o
with_all-twice front x None = refl
with_all-twice front x (Some xs) =
    ap (λ (l : List _). (let o : Option (List _) = Some l in o))
    (sym (append_assoc front (x ∷ []) xs))

-- how many entries stood before what is left, and the rule admits what it admits after them
pub record CountSoFar {S X : Type 0} (p : Parser X) (after : S → X → Option S) (begun now : S)
    (octets rest : List ℕ) (count : ℕ) : Type 0 where
  pub front : List X
  pub counted : length front ≡ count
  pub left : with_all front (all_of p Der rest) ≡ all_of p Der octets
  pub room : count + length rest ≤ length octets
  pub admitted : (more : List X) → admits after begun (front ++ more) ≡ admits after now more

module _ {S X : Type 0} (p : Parser X) (after : S → X → Option S) (s : Shrinks p) (begun : S)
    (octets : List ℕ) where
  pub count-none : CountSoFar p after begun begun octets octets 0
  count-none = record {
    front = [];
    counted = refl;
    left = with_all-none (all_of p Der octets);
    room = omega arith;
    admitted = λ more. refl;
  }

  pub count-more : (now then : S) (rest : List ℕ) (count : ℕ) (x : X) (r : List ℕ)
      → CountSoFar p after begun now octets rest count → p Der rest ≡ Some (x, r)
      → after now x ≡ Some then → CountSoFar p after begun then octets r (count + 1)
  count-more now then rest count x r c e t =
      let lt = s rest x r e in
      record {
        front = c.front ++ x ∷ [];
        counted = omega (arith, length-append c.front (x ∷ []), c.counted);
        left = sym (with_all-twice c.front x (all_of p Der r))
            ∙ ap (with_all c.front) (sym (all-first p s rest x r e)) ∙ c.left;
        room = omega (arith, c.room);
        admitted = λ more. ap (admits after begun) (append_assoc c.front (x ∷ []) more)
            ∙ c.admitted (x ∷ more) ∙ ap (goes_on (λ u. admits after u more)) t;
      }

  pub count-step : {E : Type 0} (now then : S) (rest : List ℕ) (count : ℕ)
      (result : Result (Unit {0}) E) (u : Unit {0}) (r : List ℕ)
      → CountSoFar p after begun now octets rest count → result ≡ Ok u
      → PassesBy p after now rest result then r
      → CountSoFar p after begun then octets r (count + 1)
  count-step {E} now then rest count (Ok v) u r c is h =
      count-more now then rest count h.0 r c h.1 h.2
  count-step {E} now then rest count (Err e) u r c is h = absurd cc

  -- the rule does not admit what begins so
  refused-at : (now : S) (rest : List ℕ) (front : List X) (xs : List X)
      (found : Option (X × List ℕ)) → p Der rest ≡ found
      → ((x : X) (r : List ℕ) → found ≡ Some (x, r) → after now x ≡ None)
      → ((more : List X) → admits after begun (front ++ more) ≡ admits after now more)
      → (length rest ≡ 0 → ⊥) → with_all front (all_of p Der rest) ≡ Some xs
      → admits after begun xs ≡ false
  refused-at now rest front xs None e h admitted some w =
      absurd (let never : (let o : Option (List X) = None in o) ≡ Some xs =
      ap (with_all front) (sym (all-refused p s rest some e)) ∙ w in cc)
  refused-at now rest front xs (Some (x, r)) e h admitted some w =
      ends (all_of p Der r) (ap (with_all front) (sym (all-first p s rest x r e)) ∙ w)
    where
      ends : (o : Option (List X)) → with_all front (o >>= λ ys. Some (x ∷ ys)) ≡ Some xs
          → admits after begun xs ≡ false
      ends None k = absurd cc
      ends (Some ys) k =
          let same : front ++ x ∷ ys ≡ xs = cc in
          ap (admits after begun) (sym same) ∙ admitted (x ∷ ys)
          ∙ ap (goes_on (λ u. admits after u ys)) (h x r refl)

  pub count-fails : {E : Type 0} (now then : S) (rest : List ℕ) (count : ℕ)
      (result : Result (Unit {0}) E) (e : E) (r : List ℕ)
      → CountSoFar p after begun now octets rest count → (length rest ≡ 0 → ⊥) → result ≡ Err e
      → PassesBy p after now rest result then r
      → (xs : List X) → all_of p Der octets ≡ Some xs → admits after begun xs ≡ false
  count-fails {E} now then rest count (Ok v) e r c some is h xs all = absurd cc
  count-fails {E} now then rest count (Err d) e r c some is h xs all =
      refused-at now rest c.front xs (p Der rest) refl h c.admitted some (c.left ∙ all)

  pub count-end : (now : S) (rest : List ℕ) (count : ℕ)
      → CountSoFar p after begun now octets rest count → length rest ≡ 0
      → (xs : List X) × (all_of p Der octets ≡ Some xs) × (admits after begun xs ≡ true)
      × (length xs ≡ count)
  count-end now rest count c e = (
    c.front,
    sym c.left ∙ ap (with_all c.front) (all-ended p s rest e)
        ∙ ap (λ (l : List X). (let o : Option (List X) = Some l in o)) (append-nil c.front),
    ap (admits after begun) (sym (append-nil c.front)) ∙ c.admitted [],
    c.counted,
  )

-- what is free is admitted
pub free-admits : {S X : Type 0} (s : S) (xs : List X)
    → admits {S = S} {X = X} lets_all s xs ≡ true
free-admits s [] = refl
free-admits s (x ∷ xs) = free-admits s xs
