-- Files at hand.
use Rattle.std.proofs.Common.{◌≡◌, ◌++◌, ◌∙◌, ℕ, List, [], ◌∷◌, Bor, refl, sym, ap, map}
use Rattle.std.proofs.Common.{inl, inr, append_assoc}
use Rattle.std.proofs.lemmas.List.{map-append, append-nil}
use Rattle.std.specs.List.{zip}
use Rattle.std.specs.Prelude.{◌⊎◌}
use Rattle.rpki_signed.specs.Walk.{AtHand, at_hand}
use Rattle.rpki_cli.specs.Words.{texts, name_in}

pair-same : (a b : List ℕ) (c d : List ℕ) → a ≡ b → c ≡ d → ◌≡◌ {A = List ℕ × List ℕ} (a, c) (b, d)
pair-same a b c d e f = rw (e, f)

abbrev pub hand-of : Bor (List ℕ) × Bor (List ℕ) → AtHand
hand-of = at_hand (λ (name : Bor (List ℕ)). name.now) (λ (octets : Bor (List ℕ)). octets.now)

-- the files so far, and those of the pairs that are left
abbrev pub with-left : List (Bor (List ℕ) × Bor (List ℕ)) → List (Bor (List ℕ))
    → List (List ℕ) → List AtHand
with-left files pairs octets =
    map hand-of files ++ zip (map name_in (texts pairs)) octets

-- one file more
pub hand-more : (files : List (Bor (List ℕ) × Bor (List ℕ))) (n o : Bor (List ℕ))
    (pairs ps : List (Bor (List ℕ))) (octets os : List (List ℕ)) (pair : Bor (List ℕ))
    (v : List ℕ) (all : List AtHand) → with-left files pairs octets ≡ all
    → pairs ≡ pair ∷ ps → octets ≡ v ∷ os → n.now ≡ name_in pair.now → o.now ≡ v
    → with-left (files ++ (n, o) ∷ []) ps os ≡ all
hand-more files n o pairs ps octets os pair v all h e d i j =
    ap (λ (l : List AtHand). l ++ zip (map name_in (texts ps)) os)
    (map-append hand-of files ((n, o) ∷ []))
    ∙ append_assoc (map hand-of files) ((n.now, o.now) ∷ [])
    (zip (map name_in (texts ps)) os)
    ∙ ap (λ (x : AtHand). map hand-of files ++ x ∷ zip (map name_in (texts ps)) os)
    (pair-same n.now (name_in pair.now) o.now v i j)
    ∙ sym (ap (λ (l : List (Bor (List ℕ))). with-left files l octets) e
    ∙ ap (λ (l : List (List ℕ)). with-left files (pair ∷ ps) l) d)
    ∙ h

no-zip : (names octets : List (List ℕ)) → (names ≡ []) ⊎ (octets ≡ [])
    → ◌≡◌ {A = List AtHand} (zip names octets) []
no-zip [] octets h = refl
no-zip (n ∷ names) [] h = refl
no-zip (n ∷ names) (o ∷ octets) (inl e) = absurd cc
no-zip (n ∷ names) (o ∷ octets) (inr e) = absurd cc

-- no file is left
pub hand-all : (files : List (Bor (List ℕ) × Bor (List ℕ))) (pairs : List (Bor (List ℕ)))
    (octets : List (List ℕ)) (all : List AtHand) → with-left files pairs octets ≡ all
    → (pairs ≡ []) ⊎ (octets ≡ []) → map hand-of files ≡ all
hand-all files pairs octets all h none =
    sym (append-nil (map hand-of files))
    ∙ ap (λ (l : List AtHand). map hand-of files ++ l)
    (sym (no-zip (map name_in (texts pairs)) octets (elim none [
      | inl e ↦ inl (ap (λ (l : List (Bor (List ℕ))). map name_in (texts l)) e)
      | inr e ↦ inr e
    ])))
    ∙ h
