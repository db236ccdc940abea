-- What names end with.
use Rattle.std.proofs.Common.{arith, ◌≡◌, ◌++◌, ◌∙◌, ◌+◌, ◌-◌, ◌<◌, ◌≤◌, ℕ, List, [], ◌∷◌, rules}
use Rattle.std.proofs.Common.{Option, None, Some, length, get_or, take, drop, map, sym, ap, subst}
use Rattle.std.proofs.Common.{suc}
use Rattle.std.proofs.lemmas.List.{length-append, length-map, take-append-drop, length-drop}
use Rattle.std.proofs.Math.Seq.{drop-append_seam, drop-cons}
use Rattle.std.proofs.Math.ListN.{drop_of_length-le}
use Rattle.std.specs.Char.{to_ascii_lowercase}
use Rattle.std.specs.Prelude.{MatchOption}
use Rattle.rpki_program.specs.Verify.Kinds.{extension, IsNameOf}
use Rattle.rpki_program.specs.declared.verify.request.FileKind.{FileKind}

four : (k : FileKind) → length (extension k) ≡ 4
four k = search rules

ending-length : (name : List ℕ) (k : FileKind) (h : IsNameOf name k) → length h.ending ≡ 4
ending-length name k h = sym (length-map h.ending to_ascii_lowercase) ∙ ap length h.kind_of ∙ four k

-- ends of one length of the same list
same-ending : (a b x y : List ℕ) → a ++ x ≡ b ++ y → length x ≡ length y → x ≡ y
same-ending a b x y e l =
    let n : length a ≡ length b =
    omega (arith, l, length-append a x, length-append b y, ap length e) in
    sym (drop-append_seam a x)
    ∙ ap (λ (t : List ℕ). drop (length a) t) e
    ∙ ap (λ (k : ℕ). drop k (b ++ y)) n
    ∙ drop-append_seam b y

-- octets in lower case
abbrev lowered : List ℕ → List ℕ
lowered octets = map to_ascii_lowercase octets

lowered-from : (xs : List ℕ) (i : ℕ) → i < length xs
    → lowered (drop i xs) ≡ to_ascii_lowercase (get_or xs i 0) ∷ lowered (drop (suc i) xs)
lowered-from xs i l = ap lowered (drop-cons xs i 0 l)

-- the last four octets in lower case
last-four : (xs : List ℕ) (i : ℕ) → i + 4 ≡ length xs
    → lowered (drop i xs) ≡ to_ascii_lowercase (get_or xs i 0)
    ∷ to_ascii_lowercase (get_or xs (suc i) 0)
    ∷ to_ascii_lowercase (get_or xs (suc (suc i)) 0)
    ∷ to_ascii_lowercase (get_or xs (suc (suc (suc i))) 0) ∷ []
last-four xs i e =
    let a = lowered-from xs i (omega (arith, e)) in
    let b = lowered-from xs (suc i) (omega (arith, e)) in
    let c = lowered-from xs (suc (suc i)) (omega (arith, e)) in
    let d = lowered-from xs (suc (suc (suc i))) (omega (arith, e)) in
    let z = drop_of_length-le xs {i = suc (suc (suc (suc i)))} (omega (arith, e)) in
    cc

-- a name of fewer octets has no kind
pub short-none : (name : List ℕ) (k : FileKind) → length name < 4 → IsNameOf name k → ⊥
short-none name k l h =
    omega (arith, l, ap length h.parts, length-append h.stem h.ending, ending-length name k h)

-- the kind of a name is that of its last four octets
pub kind-of-end : (name : List ℕ) (i : ℕ) (low : List ℕ) (r : Option FileKind)
    → i + 4 ≡ length name → lowered (drop i name) ≡ low
    → MatchOption r ((k : FileKind) → low ≡ extension k → ⊥) (λ k. low ≡ extension k)
    → MatchOption r ((k : FileKind) → IsNameOf name k → ⊥) (λ k. IsNameOf name k)
kind-of-end name i low None l e h = λ k n.
    let four : length n.ending ≡ 4 = ending-length name k n in
    let same : n.ending ≡ drop i name =
    same-ending n.stem (take i name) n.ending (drop i name)
    (sym n.parts ∙ sym (take-append-drop i name))
    (omega (
      arith,
      l,
      four,
      length-append (take i name) (drop i name),
      ap length (take-append-drop i name),
      length-drop i name,
    )) in
    h k (sym e ∙ (ap lowered (sym same) ∙ n.kind_of))
kind-of-end name i low (Some k) l e h = record {
  stem = take i name;
  ending = drop i name;
  parts = sym (take-append-drop i name);
  kind_of = e ∙ h;
}

-- the same, for octets that are the last four in lower case
pub named-by-end : (name xs : List ℕ) (a b d e : ℕ) (r : Option FileKind) → xs ≡ name
    → 4 ≤ length xs → a ≡ to_ascii_lowercase (get_or xs (length xs - 4) 0)
    → b ≡ to_ascii_lowercase (get_or xs (length xs - 3) 0)
    → d ≡ to_ascii_lowercase (get_or xs (length xs - 2) 0)
    → e ≡ to_ascii_lowercase (get_or xs (length xs - 1) 0)
    → MatchOption r ((k : FileKind) → a ∷ b ∷ d ∷ e ∷ [] ≡ extension k → ⊥)
    (λ k. a ∷ b ∷ d ∷ e ∷ [] ≡ extension k)
    → MatchOption r ((k : FileKind) → IsNameOf name k → ⊥) (λ k. IsNameOf name k)
named-by-end name xs a b d e r same l p q s t h =
    let i : ℕ = length xs - 4 in
    let n : i + 4 ≡ length xs = omega (arith, l) in
    let at = λ (j : ℕ). to_ascii_lowercase (get_or xs j 0) in
    let two : suc i ≡ length xs - 3 = omega (arith, l) in
    let three : suc (suc i) ≡ length xs - 2 = omega (arith, l) in
    let four : suc (suc (suc i)) ≡ length xs - 1 = omega (arith, l) in
    let f = last-four xs i n in
    let g = ap at two in
    let j = ap at three in
    let k = ap at four in
    let low : lowered (drop i xs) ≡ a ∷ b ∷ d ∷ e ∷ [] = cc in
    subst (λ (x : List ℕ). MatchOption r ((k : FileKind) → IsNameOf x k → ⊥) (λ k. IsNameOf x k))
    same (kind-of-end xs i (a ∷ b ∷ d ∷ e ∷ []) r n low h)
