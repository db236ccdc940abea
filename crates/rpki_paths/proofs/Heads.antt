-- Which handles stand at the heads of paths.
use Rattle.std.proofs.Common.{◌≡◌, ◌⊎◌, inl, inr, List, [], ◌∷◌, ◌++◌, All, sym, subst}
use Rattle.std.proofs.lemmas.List.Elements.{All-nil, All-head, All-tail, All-push, All-same}
use Rattle.std.proofs.lemmas.List.Elements.{All-weaker}
use Rattle.rpki_paths.specs.declared.walker.Path.{Path}
use Rattle.rpki_paths.specs.Cert.{IsIn}
use Rattle.rpki_paths.specs.Heads.{AreAmong, AreFrom, HeadsAmong, HeadsFrom, IsFrom}

-- nothing fails of none
pub all-none : {A : Type 0} (P : A → Type 0) (xs : List A) → xs ≡ [] → All P xs
all-none P xs e = All-same P xs [] e (All-nil P)

-- one more
pub all-more : {A : Type 0} (P : A → Type 0) (xs new : List A) (x : A) → new ≡ xs ++ x ∷ []
    → All P xs → P x → All P new
all-more P xs new x e h p = All-same P new (xs ++ x ∷ []) e (All-push P xs x h p)

pub all-in : {A : Type 0} (P : A → Type 0) (xs : List A) (x : A) → All P xs → IsIn x xs → P x
all-in P [] x h i = absurd i
all-in P (y ∷ ys) x h (inl e) = subst P (sym e) (All-head P y ys h)
all-in P (y ∷ ys) x h (inr i) = all-in P ys x (All-tail P y ys h) i

in-front : {A : Type 0} (xs ys : List A) (x : A) → IsIn x xs → IsIn x (xs ++ ys)
in-front [] ys x i = absurd i
in-front (z ∷ xs) ys x (inl e) = inl e
in-front (z ∷ xs) ys x (inr i) = inr (in-front xs ys x i)

in-back : {A : Type 0} (xs ys : List A) (x : A) → IsIn x ys → IsIn x (xs ++ ys)
in-back [] ys x i = i
in-back (z ∷ xs) ys x i = inr (in-back xs ys x i)

in-one : {A : Type 0} (xs ys : List A) (x : A) → IsIn x (xs ++ ys) → IsIn x xs ⊎ IsIn x ys
in-one [] ys x i = inr i
in-one (z ∷ xs) ys x (inl e) = inl (inl e)
in-one (z ∷ xs) ys x (inr i) =
    elim (in-one xs ys x i) [
      | inl h ↦ inl (inr h)
      | inr h ↦ inr h
    ]

-- the head of a walk from one of the certificates is one of them, or a CA
pub head-among : {C : Type 0} (ees cas : List C) (e h : C) → IsIn e ees → IsIn h (e ∷ cas)
    → IsIn h (ees ++ cas)
head-among ees cas e h i (inl same) =
    in-front ees cas h (subst (λ x. IsIn x ees) (sym same) i)
head-among ees cas e h i (inr k) = in-back ees cas h k

pub no-heads : {C : Type 0} (all : List C) (paths : List (Path C)) → paths ≡ []
    → HeadsAmong all paths
no-heads {C} all paths e = all-none (λ (p : Path C). IsIn p.head all) paths e

-- one walk more
pub more-heads : {C : Type 0} (ees cas : List C) (e : C) (paths new : List (Path C)) (p : Path C)
    → new ≡ paths ++ p ∷ [] → IsIn e ees → IsIn p.head (e ∷ cas)
    → HeadsAmong (ees ++ cas) paths → HeadsAmong (ees ++ cas) new
more-heads {C} ees cas e paths new p same i k all =
    all-more (λ (q : Path C). IsIn q.head (ees ++ cas)) paths new p same all
    (head-among ees cas e p.head i k)

module _ {X C : Type 0} (admits : X → C → Type 0) (same : C → C → Type 0) where
  -- one more handle of a candidate
  pub from-more : (xs : List X) (hs new : List C) (x : X) (c h : C) → new ≡ hs ++ h ∷ []
      → IsIn x xs → admits x c → same c h → AreFrom admits same xs hs → AreFrom admits same xs new
  from-more xs hs new x c h e i a s all =
      all-more (λ k. IsFrom admits same xs k) hs new h e all
      (record { candidate = x; admitted = c; is_in = i; admits_it = a; is_same = s })

  -- walks from handles of candidates, up handles of candidates
  pub heads-from : (xs : List X) (ees cas seen_ees seen_cas taken seen_taken : List C)
      (paths : List (Path C)) → seen_ees ≡ ees → seen_cas ≡ cas → seen_taken ≡ taken
      → AreFrom admits same xs ees → AreFrom admits same xs cas → AreAmong taken seen_ees
      → HeadsAmong (seen_taken ++ seen_cas) paths → HeadsFrom admits same xs paths
  heads-from xs ees cas seen_ees seen_cas taken seen_taken paths e f g from_ees from_cas in_ees =
      All-weaker (λ (p : Path C). IsIn p.head (seen_taken ++ seen_cas))
      (λ (p : Path C). IsFrom admits same xs p.head)
      (λ p i. of-one p.head (in-one seen_taken seen_cas p.head i)) paths
    where
      of-one : (h : C) → IsIn h seen_taken ⊎ IsIn h seen_cas → IsFrom admits same xs h
      of-one h (inl i) =
          all-in (λ k. IsFrom admits same xs k) ees h from_ees
          (subst (λ l. IsIn h l) e (all-in (λ k. IsIn k seen_ees) taken h in_ees
          (subst (λ l. IsIn h l) g i)))
      of-one h (inr i) =
          all-in (λ k. IsFrom admits same xs k) cas h from_cas (subst (λ l. IsIn h l) f i)
