-- URIs in their order of preference.
use Rattle.std.proofs.Common.{◌≡◌, ℕ, zero, suc, ◌+◌, ◌<◌, Bool, true, false, cond, List, [], ◌∷◌}
use Rattle.std.proofs.Common.{◌++◌, length, get_or, refl, sym, ap, subst, ◌∙◌, arith}
use Rattle.std.specs.Ordering.{is_lt, bool_cmp}
use Rattle.std.specs.List.Sorted.{ties, IsSortedByKey, IsStableByKey}
use Rattle.std.specs.Prelude.{not}
use Rattle.std.specs.List.{filter}
use Rattle.std.proofs.lemmas.List.{append-nil}
use Rattle.rpki_tal.specs.declared.uri.TalUri.{TalUri}
use Rattle.rpki_tal.specs.declared.uri.TalUri.TheVariants.{Rsync, Https}
use Rattle.rpki_tal.specs.Uri.{is_https, https_first}

abbrev other : TalUri → Bool
other u = not (is_https u)

filter-step : (v : Bool) (x : TalUri) (ab a b : List TalUri) → ab ≡ a ++ b
    → cond v (x ∷ ab) ab ≡ cond v (x ∷ a) a ++ b
filter-step true x ab a b e = ap (λ (l : List TalUri). x ∷ l) e
filter-step false x ab a b e = e

filter-both : (t : TalUri → Bool) (a b : List TalUri)
    → filter t (a ++ b) ≡ filter t a ++ filter t b
filter-both t [] b = refl
filter-both t (x ∷ a) b =
    filter-step (t x) x (filter t (a ++ b)) (filter t a) (filter t b) (filter-both t a b)

https-https : (xs : List TalUri) → filter is_https (filter is_https xs) ≡ filter is_https xs
https-https [] = refl
https-https (Https u ∷ xs) = ap (λ (l : List TalUri). Https u ∷ l) (https-https xs)
https-https (Rsync u ∷ xs) = https-https xs

https-other : (xs : List TalUri) → filter is_https (filter other xs) ≡ []
https-other [] = refl
https-other (Https u ∷ xs) = https-other xs
https-other (Rsync u ∷ xs) = https-other xs

other-https : (xs : List TalUri) → filter other (filter is_https xs) ≡ []
other-https [] = refl
other-https (Https u ∷ xs) = other-https xs
other-https (Rsync u ∷ xs) = other-https xs

other-other : (xs : List TalUri) → filter other (filter other xs) ≡ filter other xs
other-other [] = refl
other-other (Https u ∷ xs) = other-other xs
other-other (Rsync u ∷ xs) = ap (λ (l : List TalUri). Rsync u ∷ l) (other-other xs)

-- ---- a stable sort by kind

-- whether it is no https URI, by which URIs are sorted
abbrev pub is_later : TalUri → Bool
is_later u = not (is_https u)

filter-step-same : (v w : Bool) (x : TalUri) (a b : List TalUri) → v ≡ w → a ≡ b
    → cond v (x ∷ a) a ≡ cond w (x ∷ b) b
filter-step-same v w x a b e f = cc

filter-same : (p q : TalUri → Bool) → ((u : TalUri) → p u ≡ q u) → (xs : List TalUri)
    → filter p xs ≡ filter q xs
filter-same p q e [] = refl
filter-same p q e (x ∷ xs) =
    filter-step-same (p x) (q x) x (filter p xs) (filter q xs) (e x) (filter-same p q e xs)

https-ties : (u : TalUri) → ties (λ x y. is_lt (bool_cmp (is_later x) (is_later y))) (Https []) u
    ≡ is_https u
https-ties (Https u) = refl
https-ties (Rsync u) = refl

rsync-ties : (u : TalUri) → ties (λ x y. is_lt (bool_cmp (is_later x) (is_later y))) (Rsync []) u
    ≡ other u
rsync-ties (Https u) = refl
rsync-ties (Rsync u) = refl

-- none of the list is an https URI
abbrev AllLater : List TalUri → Type 0
AllLater us = (k : ℕ) (d : TalUri) → k < length us → is_later (get_or us k d) ≡ true

-- no https URI stands after another URI
abbrev InOrder : List TalUri → Type 0
InOrder us = (k : ℕ) (d : TalUri) → k + 1 < length us
    → is_lt (bool_cmp (is_later (get_or us (k + 1) d)) (is_later (get_or us k d))) ≡ false

later-tail : (u : TalUri) (us : List TalUri) → AllLater (u ∷ us) → AllLater us
later-tail u us h k d l =
    let e : get_or (u ∷ us) (suc k) d ≡ get_or us k d = refl in
    sym (ap is_later e) ∙ h (suc k) d (omega (arith, l))

order-tail : (u : TalUri) (us : List TalUri) → InOrder (u ∷ us) → InOrder us
order-tail u us h k d l =
    let next : suc k + 1 ≡ suc (k + 1) = omega arith in
    subst (λ (n : ℕ). is_lt (bool_cmp (is_later (get_or (u ∷ us) n d)) (is_later (get_or us k d)))
    ≡ false) next (h (suc k) d (omega (arith, l)))

later-filters : (us : List TalUri) → AllLater us
    → (filter is_https us ≡ []) × (filter other us ≡ us)
later-filters [] h = (refl, refl)
later-filters (Https u ∷ us) h =
    absurd (let f : false ≡ true = h 0 (Https u) (omega arith) in cc f)
later-filters (Rsync u ∷ us) h =
    let k = later-filters us (later-tail (Rsync u) us h) in
    (k.0, ap (λ (l : List TalUri). Rsync u ∷ l) k.1)

-- what follows an rsync URI
later-next : (v w : Bool) → is_lt (bool_cmp w v) ≡ false → v ≡ true → w ≡ true
later-next true true h e = refl
later-next true false h e = absurd (let f : true ≡ false = h in cc f)
later-next false w h e = absurd (cc e)

all-later : (u : TalUri) (us : List TalUri) → is_later u ≡ true → InOrder (u ∷ us) → AllLater us
all-later u [] e h k d l = absurd (omega (arith, l))
all-later u (v ∷ us) e h zero d l = later-next (is_later u) (is_later v) (h 0 d (omega arith)) e
all-later u (v ∷ us) e h (suc k) d l =
    all-later v us (later-next (is_later u) (is_later v) (h 0 d (omega arith)) e)
    (order-tail u (v ∷ us) h) k d (omega (arith, l))

in-order : (us : List TalUri) → InOrder us → us ≡ filter is_https us ++ filter other us
in-order [] h = refl
in-order (Https u ∷ us) h =
    ap (λ (l : List TalUri). Https u ∷ l) (in-order us (order-tail (Https u) us h))
in-order (Rsync u ∷ us) h =
    let k = later-filters us (all-later (Rsync u) us refl h) in
    sym (ap (λ (l : List TalUri). l ++ Rsync u ∷ filter other us) k.0
    ∙ ap (λ (l : List TalUri). Rsync u ∷ l) k.1)

pub sorted-first : (xs ys : List TalUri) → IsSortedByKey is_later bool_cmp ys
    → IsStableByKey is_later bool_cmp xs ys → ys ≡ https_first xs
sorted-first xs ys sorted stable =
    let https : filter is_https ys ≡ filter is_https xs =
    sym (filter-same _ is_https https-ties ys) ∙ stable (Https [])
    ∙ filter-same _ is_https https-ties xs in
    let rsync : filter other ys ≡ filter other xs =
    sym (filter-same _ other rsync-ties ys) ∙ stable (Rsync [])
    ∙ filter-same _ other rsync-ties xs in
    in-order ys (λ k d l. sorted k d (omega arith) l)
    ∙ ap (λ (l : List TalUri). l ++ filter other ys) https
    ∙ ap (λ (l : List TalUri). filter is_https xs ++ l) rsync

pub first-again : (xs : List TalUri) → https_first (https_first xs) ≡ https_first xs
first-again xs =
    let a : filter is_https (https_first xs) ≡ filter is_https xs =
    filter-both is_https (filter is_https xs) (filter other xs)
    ∙ ap (λ (l : List TalUri). l ++ filter is_https (filter other xs)) (https-https xs)
    ∙ ap (λ (l : List TalUri). filter is_https xs ++ l) (https-other xs)
    ∙ append-nil (filter is_https xs) in
    let b : filter other (https_first xs) ≡ filter other xs =
    filter-both other (filter is_https xs) (filter other xs)
    ∙ ap (λ (l : List TalUri). l ++ filter other (filter other xs)) (other-https xs)
    ∙ other-other xs in
    ap (λ (l : List TalUri). l ++ filter other (https_first xs)) a
    ∙ ap (λ (l : List TalUri). filter is_https xs ++ l) b
