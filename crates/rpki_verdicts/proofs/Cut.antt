-- A text, cut into lines.
use Rattle.std.proofs.Common.{rules, ◌≡◌, ℕ, zero, suc, ◌*◌, ◌/◌, ◌%◌, ◌==◌, true, false, List, []}
use Rattle.std.proofs.Common.{◌∷◌, ◌++◌, length, take, drop, All, refl, ap, subst, ◌∙◌, arith}
use Rattle.std.specs.List.{concat}
use Rattle.std.specs.Simd.{first_chunks}
use Rattle.std.proofs.lemmas.List.{length-append, length-drop, take-append-drop}
use Rattle.std.proofs.Math.Seq.{drop-append_seam, take-append_seam}
use Rattle.std.proofs.lemmas.List.Elements.{All-head, All-tail}
use Rattle.rpki_verdicts.specs.Verdicts.{IsLine, AreVerdicts}
use Rattle.rpki_verdicts.proofs.Line.{line-length}

joined : (k : ℕ) (text : List ℕ) → length text ≡ k * 195 → concat (first_chunks 195 k text) ≡ text
joined zero [] e = refl
joined zero (x ∷ xs) e = absurd (omega (arith, e))
joined (suc k) text e =
    ap (λ (s : List ℕ). take 195 text ++ s)
    (joined k (drop 195 text) (omega (arith, e, length-drop 195 text)))
    ∙ take-append-drop 195 text

cut-length : (lines : List (List ℕ)) → All IsLine lines → length (concat lines) ≡ length lines * 195
cut-length [] h = refl
cut-length (line ∷ lines) h =
    omega (
      arith,
      length-append line (concat lines),
      line-length line (All-head IsLine line lines h),
      cut-length lines (All-tail IsLine line lines h),
    )

cut : (lines : List (List ℕ)) → All IsLine lines
    → first_chunks 195 (length lines) (concat lines) ≡ lines
cut [] h = refl
cut (line ∷ lines) h =
    let long = line-length line (All-head IsLine line lines h) in
    let a : take 195 (line ++ concat lines) ≡ line =
    subst (λ (n : ℕ). take n (line ++ concat lines) ≡ line) long
    (take-append_seam line (concat lines)) in
    let b : drop 195 (line ++ concat lines) ≡ concat lines =
    subst (λ (n : ℕ). drop n (line ++ concat lines) ≡ concat lines) long
    (drop-append_seam line (concat lines)) in
    let r = cut lines (All-tail IsLine line lines h) in
    cc

nothing : (rest : List ℕ) → (length rest == 0) ≡ true → length rest ≡ 0
nothing rest e = search rules

something : (rest : List ℕ) → (length rest == 0) ≡ false → length rest ≡ 0 → ⊥
something [] e h = cc
something (x ∷ xs) e h = omega (arith, h)

-- a text of whole lines is what it is cut into
pub whole : (text rest : List ℕ) → length rest ≡ length text % 195 → (length rest == 0) ≡ true
    → concat (first_chunks 195 (length text / 195) text) ≡ text
whole text rest h e = joined (length text / 195) text (omega (arith, h, nothing rest e))

-- what is cut is the only list of lines that the text can be
pub only-lines : (text : List ℕ) (lines : List (List ℕ)) → AreVerdicts text lines
    → (length text % 195 ≡ 0) × (first_chunks 195 (length text / 195) text ≡ lines)
only-lines text lines v =
    let l : length text ≡ length lines * 195 = ap (λ (t : List ℕ). length t) v.whole
    ∙ cut-length lines v.each in
    let n : length text / 195 ≡ length lines = omega (arith, l) in
    let c = cut lines v.each in
    let w = v.whole in
    (omega (arith, l), cc)

pub no-lines : (text rest : List ℕ) (lines : List (List ℕ)) → length rest ≡ length text % 195
    → (length rest == 0) ≡ false → AreVerdicts text lines → ⊥
no-lines text rest lines h e v = something rest e (h ∙ (only-lines text lines v).0)
