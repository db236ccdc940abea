-- Cutting a text at its slashes.
use Rattle.std.proofs.Common.{◌≡◌, ℕ, ◌+◌, ◌<◌, ◌≤◌, Bool, true, false, cond, List, [], ◌∷◌, ◌++◌}
use Rattle.std.proofs.Common.{length, get_or, take, drop, refl, sym, ap, ◌∙◌}
use Rattle.std.specs.Prelude.{◌==◌}
use Rattle.std.proofs.lemmas.List.{append-nil, append_assoc, drop_more, take_more, drop_all}
use Rattle.std.proofs.lemmas.List.{take_all}
use Rattle.std.proofs.lemmas.Bool.{eq-eqb, ne_eqb}
use Rattle.rpki_basics.specs.Segments.{longer, segments, onto}

-- there is a first segment
pub segments-some : (text : List ℕ)
    → (segment : List ℕ) × (others : List (List ℕ)) × (segments text ≡ segment ∷ others)
unfolding segments
segments-some [] = ([], [], refl)
segments-some (octet ∷ text) = at (octet == 47)
  where
    grown : (ps : List (List ℕ))
        → (segment : List ℕ) × (others : List (List ℕ)) × (longer octet ps ≡ segment ∷ others)
    grown [] = (octet ∷ [], [], refl)
    grown (p ∷ ps) = (octet ∷ p, ps, refl)

    at : (t : Bool) → (segment : List ℕ) × (others : List (List ℕ))
        × (cond t ([] ∷ segments text) (longer octet (segments text)) ≡ segment ∷ others)
    at true = ([], segments text, refl)
    at false = grown (segments text)

onto-longer : (front : List ℕ) (octet : ℕ) (ps : List (List ℕ))
    → onto front (longer octet ps) ≡ onto (front ++ octet ∷ []) ps
onto-longer front octet [] = refl
onto-longer front octet (p ∷ ps) =
    ap (λ (x : List ℕ). x ∷ ps) (sym (append_assoc front (octet ∷ []) p))

segments-other : (octet : ℕ) (text : List ℕ) → (octet ≡ 47 → ⊥)
    → segments (octet ∷ text) ≡ longer octet (segments text)
unfolding segments
segments-other octet text h = rw (ne_eqb octet 47 h) refl

segments-slash : (octet : ℕ) (text : List ℕ) → octet ≡ 47
    → segments (octet ∷ text) ≡ [] ∷ segments text
unfolding segments
segments-slash octet text h = rw (eq-eqb octet 47 h) refl

segments-end : segments [] ≡ [] ∷ []
unfolding segments
segments-end = refl

-- one octet more of the first segment
pub segment-more : (text : List ℕ) (i octet : ℕ) → i < length text → octet ≡ get_or text i 0
    → (octet ≡ 47 → ⊥)
    → segments text ≡ onto (take i text) (segments (drop i text))
    → segments text ≡ onto (take (i + 1) text) (segments (drop (i + 1) text))
segment-more text i octet l e h k =
    let here : drop i text ≡ octet ∷ drop (i + 1) text = drop_more text i 0 l
    ∙ ap (λ (x : ℕ). x ∷ drop (i + 1) text) (sym e) in
    let front : take (i + 1) text ≡ take i text ++ octet ∷ [] = take_more text i 0 l
    ∙ ap (λ (x : ℕ). take i text ++ x ∷ []) (sym e) in
    k ∙ ap (λ (t : List ℕ). onto (take i text) (segments t)) here
    ∙ ap (onto (take i text)) (segments-other octet (drop (i + 1) text) h)
    ∙ onto-longer (take i text) octet (segments (drop (i + 1) text))
    ∙ ap (λ (t : List ℕ). onto t (segments (drop (i + 1) text))) (sym front)

-- the first segment ends at a slash
pub segment-found : (text : List ℕ) (i octet : ℕ) → i < length text → octet ≡ get_or text i 0
    → octet ≡ 47
    → segments text ≡ onto (take i text) (segments (drop i text))
    → segments text ≡ take i text ∷ segments (drop (i + 1) text)
segment-found text i octet l e h k =
    let here : drop i text ≡ octet ∷ drop (i + 1) text = drop_more text i 0 l
    ∙ ap (λ (x : ℕ). x ∷ drop (i + 1) text) (sym e) in
    k ∙ ap (λ (t : List ℕ). onto (take i text) (segments t)) here
    ∙ ap (onto (take i text)) (segments-slash octet (drop (i + 1) text) h)
    ∙ ap (λ (t : List ℕ). t ∷ segments (drop (i + 1) text)) (append-nil (take i text))

-- there is no slash
pub segment-last : (text : List ℕ) (i : ℕ) → length text ≤ i
    → segments text ≡ onto (take i text) (segments (drop i text)) → segments text ≡ text ∷ []
segment-last text i l k =
    k ∙ ap (λ (t : List ℕ). onto (take i text) (segments t)) (drop_all i text l)
    ∙ ap (onto (take i text)) segments-end
    ∙ ap (λ (t : List ℕ). t ∷ []) (append-nil (take i text) ∙ take_all i text l)

pub segment-none : (text : List ℕ) → segments text ≡ onto [] (segments text)
segment-none text = let s = segments-some text in rw s.2 refl
