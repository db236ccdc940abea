-- The three digests of a line.
use Rattle.std.proofs.Common.{◌≡◌, ℕ, suc, ◌+◌, ◌*◌, ◌<◌, ◌≤◌, List, [], ◌∷◌, ◌++◌, length, take}
use Rattle.std.proofs.Common.{get_or}
use Rattle.std.proofs.Common.{drop, refl, sym, ap, subst, ◌∙◌, arith, length-append}
use Rattle.std.specs.Prelude.{slice_index}
use Rattle.std.proofs.lemmas.List.{take-append-drop, get_or-drop, length-drop, length-take-le}
use Rattle.std.proofs.lemmas.List.{drop-drop, get_or_default}
use borrow.Author.Count.{below_more}
use Rattle.std.proofs.Math.Seq.{drop-cons, take-append_seam, get_or-append_seam}
use Rattle.std.proofs.Math.ListN.{drop_of_length-le}
use Rattle.rpki_verdicts.specs.Parts.{IsSpaced, HasParts, HasDigests}
use Rattle.rpki_verdicts.specs.Verdicts.{AreDigits, line_of, IsDigestText, IsLine}

-- ---- a list, cut at a place

cut-at : (n a : ℕ) (xs : List ℕ) → n < length xs → slice_index xs n ≡ a
    → xs ≡ take n xs ++ (a ∷ drop (suc n) xs)
cut-at n a xs l e =
    sym (take-append-drop n xs)
    ∙ ap (λ (r : List ℕ). take n xs ++ r) (drop-cons xs n 0 l)
    ∙ ap (λ (y : ℕ). take n xs ++ (y ∷ drop (suc n) xs)) e

front : (n a : ℕ) (xs ys : List ℕ) → length xs ≡ n → take n (xs ++ (a ∷ ys)) ≡ xs
front n a xs ys e = subst (λ (m : ℕ). take m (xs ++ (a ∷ ys)) ≡ xs) e (take-append_seam xs (a ∷ ys))

seam : (n a : ℕ) (xs ys : List ℕ) → length xs ≡ n → slice_index (xs ++ (a ∷ ys)) n ≡ a
seam n a xs ys e =
    subst (λ (m : ℕ). slice_index (xs ++ (a ∷ ys)) m ≡ a) e (get_or-append_seam xs a ys 0)

rest-of : (a : ℕ) (xs ys : List ℕ) → drop (suc (length xs)) (xs ++ (a ∷ ys)) ≡ ys
rest-of a [] ys = refl
rest-of a (x ∷ xs) ys = rest-of a xs ys

rest : (n a : ℕ) (xs ys : List ℕ) → length xs ≡ n → drop (suc n) (xs ++ (a ∷ ys)) ≡ ys
rest n a xs ys e =
    subst (λ (m : ℕ). drop (suc m) (xs ++ (a ∷ ys)) ≡ ys) e (rest-of a xs ys)

-- ---- the lines so far

pub more : (P : List ℕ → Type 0) (lines : List (List ℕ)) (i : ℕ) → i < length lines
    → ((k : ℕ) (d : List ℕ) → k < i → P (get_or lines k d)) → P (get_or lines i [])
    → (k : ℕ) (d : List ℕ) → k < i + 1 → P (get_or lines k d)
more P lines i l before here k d lt =
    below_more (λ (j : ℕ). (e : List ℕ) → P (get_or lines j e)) i
    (λ j below e. before j e below)
    (λ e. subst P (get_or_default lines i [] e l) here) k lt d

-- ---- a line

-- a list of three parts of one length, with an octet after each
three : (n a b c : ℕ) (xs : List ℕ) → length xs ≡ 3 * suc n → slice_index xs n ≡ a
    → slice_index xs (suc n + n) ≡ b → slice_index xs (suc n + suc n + n) ≡ c
    → xs ≡ take n xs ++ (a ∷ (take n (drop (suc n) xs)
    ++ (b ∷ (take n (drop (suc n + suc n) xs) ++ (c ∷ [])))))
three n a b c xs l p q r =
    let second = drop (suc n) xs in
    let third = drop (suc n + suc n) xs in
    let same : drop (suc n) second ≡ third = drop-drop (suc n) (suc n) xs in
    let third-end : drop (suc n) third ≡ [] = drop_of_length-le third {i = suc n}
    (omega (arith, l, length-drop (suc n + suc n) xs)) in
    let last : third ≡ take n third ++ (c ∷ []) =
    cut-at n c third (omega (arith, l, length-drop (suc n + suc n) xs))
    (get_or-drop (suc n + suc n) xs n 0 ∙ r)
    ∙ ap (λ (t : List ℕ). take n third ++ (c ∷ t)) third-end in
    let middle : second ≡ take n second ++ (b ∷ (take n third ++ (c ∷ []))) =
    cut-at n b second (omega (arith, l, length-drop (suc n) xs)) (get_or-drop (suc n) xs n 0 ∙ q)
    ∙ ap (λ (t : List ℕ). take n second ++ (b ∷ t)) (same ∙ last) in
    cut-at n a xs (omega (arith, l)) p
    ∙ ap (λ (t : List ℕ). take n xs ++ (a ∷ t)) middle

-- a line is made of its parts
made-of-parts : (line : List ℕ) → length line ≡ 195 → IsSpaced line
    → line ≡ line_of (take 64 line) (take 64 (drop 65 line)) (take 64 (drop 130 line))
made-of-parts line l s = three 64 32 32 10 line l s.first s.second s.last

parts-of : (key message signature : List ℕ) → length key ≡ 64 → length message ≡ 64
    → length signature ≡ 64 → HasParts (line_of key message signature) key message signature
parts-of key message signature k m s =
    let last = signature ++ (10 ∷ []) in
    let middle = message ++ (32 ∷ last) in
    let line = key ++ (32 ∷ middle) in
    let second : drop 65 line ≡ middle = rest 64 32 key middle k in
    let third : drop 130 line ≡ last =
    sym (drop-drop 65 65 line) ∙ ap (λ (t : List ℕ). drop 65 t) second
    ∙ rest 64 32 message last m in
    record {
      spaced = record {
        first = seam 64 32 key middle k;
        second = sym (get_or-drop 65 line 64 0) ∙ ap (λ (t : List ℕ). slice_index t 64) second
            ∙ seam 64 32 message last m;
        last = sym (get_or-drop 130 line 64 0) ∙ ap (λ (t : List ℕ). slice_index t 64) third
            ∙ seam 64 10 signature [] s;
      };
      first = front 64 32 key middle k;
      second = ap (λ (t : List ℕ). take 64 t) second ∙ front 64 32 message last m;
      third = ap (λ (t : List ℕ). take 64 t) third ∙ front 64 10 signature [] s;
    }

-- a line of these three has them as its parts, and no other line has
pub line_has_parts : (line key message signature : List ℕ) → length key ≡ 64 → length message ≡ 64
    → length signature ≡ 64 → line ≡ line_of key message signature
    → HasParts line key message signature
line_has_parts line key message signature k m s e =
    subst (λ (l : List ℕ). HasParts l key message signature) (sym e)
    (parts-of key message signature k m s)

pub parts_make_line : (line key message signature : List ℕ) → length line ≡ 195
    → HasParts line key message signature → line ≡ line_of key message signature
parts_make_line line key message signature l h =
    let whole = made-of-parts line l h.spaced in
    let a = h.first in
    let b = h.second in
    let c = h.third in
    cc

-- a line of digests has digits in its parts, and no other line has
digest : (n : ℕ) (line : List ℕ) → n + 64 ≤ length line → AreDigits (take 64 (drop n line))
    → IsDigestText (take 64 (drop n line))
digest n line l h = record {
  long = length-take-le 64 (drop n line) (omega (arith, l, length-drop n line));
  digits = h;
}

pub digits_make_line : (line : List ℕ) → length line ≡ 195 → HasDigests line → IsLine line
digits_make_line line l h = record {
  key = take 64 line;
  message = take 64 (drop 65 line);
  signature = take 64 (drop 130 line);
  whole = made-of-parts line l h.spaced;
  is_key = digest 0 line (omega (arith, l)) h.first;
  is_message = digest 65 line (omega (arith, l)) h.second;
  is_signature = digest 130 line (omega (arith, l)) h.third;
}

pub line_has_digits : (line : List ℕ) → IsLine line → HasDigests line
line_has_digits line h =
    let p = line_has_parts line h.key h.message h.signature h.is_key.long h.is_message.long
    h.is_signature.long h.whole in
    record {
      spaced = p.spaced;
      first = subst (λ (t : List ℕ). AreDigits t) (sym p.first) h.is_key.digits;
      second = subst (λ (t : List ℕ). AreDigits t) (sym p.second) h.is_message.digits;
      third = subst (λ (t : List ℕ). AreDigits t) (sym p.third) h.is_signature.digits;
    }

-- how long a line is
pub line-length : (line : List ℕ) → IsLine line → length line ≡ 195
line-length line h =
    ap (λ (t : List ℕ). length t) h.whole
    ∙ omega (
      arith,
      length-append h.key (32 ∷ (h.message ++ (32 ∷ (h.signature ++ (10 ∷ []))))),
      length-append h.message (32 ∷ (h.signature ++ (10 ∷ []))),
      length-append h.signature (10 ∷ []),
      h.is_key.long,
      h.is_message.long,
      h.is_signature.long,
    )
