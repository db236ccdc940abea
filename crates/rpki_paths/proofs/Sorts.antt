-- Certificates that are sorted in carried order.
use Rattle.std.proofs.Common.{◌≡◌, List, [], ◌∷◌, ◌++◌, Bool, true, false, cond, suc, length}
use Rattle.std.proofs.Common.{map, All, refl, sym, ap, subst, ◌∙◌, arith, inl, inr, ℕ, ◌+◌}
use Rattle.std.proofs.Common.{IsTrue}
use Rattle.std.specs.Prelude.{filter, not}
use Rattle.std.proofs.lemmas.List.{map-append, append-nil, length-append, length-map}
use Rattle.std.proofs.lemmas.List.Elements.{All-nil, All-push, All-head, All-tail}
use Rattle.rpki_paths.specs.Cert.{Cert, IsIn}
use Rattle.rpki_paths.specs.Pairing.{Crl, HasCrl}
use Rattle.rpki_paths.specs.Taking.{PairsOff, IsFirst, AllVerify, left_of}
use Rattle.rpki_paths.proofs.Mapping.{of-image, in-image}
use Rattle.rpki_paths.proofs.PairingOff.{pairs-more, left-in}
use Rattle.rpki_paths.specs.Sorting.{with_lists, ees_of, cas_of, AreSorted, WhyNotOne}
use Rattle.rpki_paths.specs.Sorting.{WhyNotSorted}
use Rattle.rpki_paths.specs.declared.sorting.SortFault.{SortFault}
use Rattle.rpki_paths.specs.declared.sorting.SortFault.TheVariants.{NotGood, NoCrl, Memory}

-- whatever has the identifier has the verdict, of what is left of handles too
pub cheap-one : {X Y A B : Type 0} (f : X → A) (g : Y → B) (s : X → List ℕ) (h : Y → List ℕ)
    (v : X → Y → Bool) (t : A → List ℕ) (k : B → List ℕ) (w : A → B → Bool)
    → ((x : X) → s x ≡ t (f x)) → ((y : Y) → h y ≡ k (g y))
    → ((x : X) (y : Y) → v x y ≡ w (f x) (g y)) → (x : X) (marks : List Bool) (ys : List Y)
    → AllVerify t k w (f x) (map g ys) → AllVerify s h v x (left_of marks ys)
cheap-one f g s h v t k w es eh ev x marks ys all y j named =
    ev x y ∙ all (g y) (in-image g ys y (left-in marks ys y j)) (sym (es x) ∙ named ∙ eh y)

-- what holds of all holds of each
pub holds-of : {X : Type 0} (P : X → Type 0) (xs : List X) (x : X) → IsIn x xs → All P xs → P x
holds-of P [] x i all = absurd i
holds-of P (y ∷ xs) x (inl e) all = subst P (sym e) (All-head P y xs all)
holds-of P (y ∷ xs) x (inr i) all = holds-of P xs x i (All-tail P y xs all)

-- ---- filters

in-step : {X : Type 0} (t : Bool) (y x : X) (xs : List X) → IsIn x (cond t (y ∷ xs) xs)
    → IsIn x (y ∷ xs)
in-step true y x xs i = i
in-step false y x xs i = inr i

filtered-in : {X : Type 0} (f : X → Bool) (xs : List X) (x : X) → IsIn x (filter f xs) → IsIn x xs
filtered-in f [] x i = absurd i
filtered-in f (y ∷ xs) x i =
    elim (in-step (f y) y x (filter f xs) i) [
      | inl e ↦ inl e
      | inr j ↦ inr (filtered-in f xs x j)
    ]

keep-here : {X : Type 0} (t : Bool) (x : X) (xs : List X) → t ≡ true → IsIn x (cond t (x ∷ xs) xs)
keep-here true x xs e = inl refl
keep-here false x xs e = absurd cc

keep-later : {X : Type 0} (t : Bool) (y x : X) (xs : List X) → IsIn x xs
    → IsIn x (cond t (y ∷ xs) xs)
keep-later true y x xs i = inr i
keep-later false y x xs i = i

pub in-filter : {X : Type 0} (f : X → Bool) (xs : List X) (x : X) → IsIn x xs → f x ≡ true
    → IsIn x (filter f xs)
in-filter f [] x i e = absurd i
in-filter f (y ∷ xs) x (inl same) e =
    subst (λ z. IsIn x (cond (f z) (z ∷ filter f xs) (filter f xs))) same
    (keep-here (f x) x (filter f xs) e)
in-filter f (y ∷ xs) x (inr i) e =
    keep-later (f y) y x (filter f xs) (in-filter f xs x i e)

-- what is seen of good ones that pass has what good ones have
pub seen-valid : {X : Type 0} (good : X → Type 0) (seen : X → Cert) (f : X → Bool) (xs : List X)
    → ((x : X) → good x → IsTrue (seen x).is_valid) → All good xs → (c : Cert)
    → IsIn c (map seen (filter f xs)) → IsTrue c.is_valid
seen-valid good seen f xs valid all c i =
    let t = of-image seen (filter f xs) c i in
    subst (λ (z : Cert). IsTrue z.is_valid) (sym t.2)
    (valid t.0 (holds-of good xs t.0 (filtered-in f xs t.0 t.1) all))

filter-step : {X : Type 0} (t : Bool) (y x : X) (f : X → Bool) (more xs : List X)
    → more ≡ xs ++ filter f (x ∷ [])
    → cond t (y ∷ more) more ≡ cond t (y ∷ xs) xs ++ filter f (x ∷ [])
filter-step true y x f more xs e = ap (λ l. y ∷ l) e
filter-step false y x f more xs e = e

filter-more : {X : Type 0} (f : X → Bool) (xs : List X) (x : X)
    → filter f (xs ++ x ∷ []) ≡ filter f xs ++ filter f (x ∷ [])
filter-more f [] x = refl
filter-more f (y ∷ xs) x =
    filter-step (f y) y x f (filter f (xs ++ x ∷ [])) (filter f xs) (filter-more f xs x)

split-step : {X : Type 0} (t : Bool) (y x : X) (f : X → Bool) (more xs after : List X)
    → more ≡ xs ++ x ∷ after → cond t (y ∷ more) more ≡ cond t (y ∷ xs) xs ++ x ∷ after
split-step true y x f more xs after e = ap (λ l. y ∷ l) e
split-step false y x f more xs after e = e

-- one that passes stands between the others
pub filter-split : {X : Type 0} (f : X → Bool) (xs : List X) (x : X) (after : List X) → f x ≡ true
    → filter f (xs ++ x ∷ after) ≡ filter f xs ++ x ∷ filter f after
filter-split f [] x after e = ap (λ t. cond t (x ∷ filter f after) (filter f after)) e
filter-split f (y ∷ xs) x after e =
    split-step (f y) y x f (filter f (xs ++ x ∷ after)) (filter f xs) (filter f after)
    (filter-split f xs x after e)

pub many-more : {X : Type 0} (f : X → Bool) (xs : List X) (x : X)
    → length (filter f (xs ++ x ∷ [])) ≡ length (filter f xs) + length (filter f (x ∷ []))
many-more f xs x =
    ap length (filter-more f xs x) ∙ length-append (filter f xs) (filter f (x ∷ []))

-- one that passes comes after the others
pub filter-in : {X : Type 0} (f : X → Bool) (xs : List X) (x : X) → f x ≡ true
    → filter f (xs ++ x ∷ []) ≡ filter f xs ++ x ∷ []
filter-in f xs x e = filter-more f xs x ∙ ap (λ t. filter f xs ++ cond t (x ∷ []) []) e

-- one that does not changes nothing
pub filter-out : {X : Type 0} (f : X → Bool) (xs : List X) (x : X) → f x ≡ false
    → filter f (xs ++ x ∷ []) ≡ filter f xs
filter-out f xs x e =
    filter-more f xs x ∙ ap (λ t. filter f xs ++ cond t (x ∷ []) []) e ∙ append-nil (filter f xs)

-- ---- lists of CAs

pairs-even : {A B : Type 0} (R : A → B → Type 0) (xs : List A) (ps ys left : List B)
    → PairsOff R xs ps ys left → length xs ≡ length ps
pairs-even R [] [] ys left h = refl
pairs-even R [] (p ∷ ps) ys left h = absurd h
pairs-even R (x ∷ xs) [] ys left h = absurd h
pairs-even R (x ∷ xs) (p ∷ ps) ys left h = ap suc (pairs-even R xs ps h.0 left h.2)

with-more : (cas : List Cert) (crls : List Crl) (d : Cert) (l : Crl) → length cas ≡ length crls
    → with_lists (cas ++ d ∷ []) (crls ++ l ∷ [])
    ≡ with_lists cas crls ++ record d { revokes = l.serials } ∷ []
with-more [] [] d l e = refl
with-more [] (k ∷ crls) d l e = absurd (omega (arith, e))
with-more (c ∷ cas) [] d l e = absurd (omega (arith, e))
with-more (c ∷ cas) (k ∷ crls) d l e =
    ap (λ t. record c { revokes = k.serials } ∷ t) (with-more cas crls d l (omega (arith, e)))

with-length : (cas : List Cert) (crls : List Crl) → length cas ≡ length crls
    → length (with_lists cas crls) ≡ length cas
with-length [] crls e = refl
with-length (c ∷ cas) [] e = absurd (omega (arith, e))
with-length (c ∷ cas) (k ∷ crls) e = ap suc (with-length cas crls (omega (arith, e)))

module _ {X C : Type 0} (good : X → Type 0) (seen : X → Cert) (of_ca : X → Bool)
    (cert : C → Cert) where
  -- as many are sorted as there are
  pub cas-many : (xs : List X) (crls : List Crl) (ees cas : List C) (left : List Crl)
      → AreSorted good seen of_ca cert xs crls ees cas left
      → length cas ≡ length (map seen (cas_of of_ca xs))
  cas-many xs crls ees cas left s =
      sym (length-map cas cert) ∙ ap length s.of_cas
      ∙ with-length (map seen (cas_of of_ca xs)) s.taken
      (pairs-even HasCrl (map seen (cas_of of_ca xs)) s.taken crls left s.passed.pairs)

  pub ees-many : (xs : List X) (crls : List Crl) (ees cas : List C) (left : List Crl)
      → AreSorted good seen of_ca cert xs crls ees cas left
      → length ees ≡ length (map seen (ees_of of_ca xs))
  ees-many xs crls ees cas left s = sym (length-map ees cert) ∙ ap length s.of_ees

  pub sorted-start : (crls left : List Crl) (ees cas : List C) → ees ≡ [] → cas ≡ []
      → left ≡ crls → AreSorted good seen of_ca cert [] crls ees cas left
  sorted-start crls left ees cas e f h = record {
    taken = [];
    passed = record { all_good = All-nil good; pairs = sym h };
    of_ees = ap (map cert) e;
    of_cas = ap (map cert) f;
  }

  -- one of an end entity more
  pub sorted-ee : (done : List X) (crls : List Crl) (ees cas : List C) (left : List Crl) (x : X)
      (c : C) → AreSorted good seen of_ca cert done crls ees cas left → good x
      → of_ca x ≡ false → cert c ≡ seen x
      → AreSorted good seen of_ca cert (done ++ x ∷ []) crls (ees ++ c ∷ []) cas left
  sorted-ee done crls ees cas left x c s g e is =
      let ees_more : ees_of of_ca (done ++ x ∷ []) ≡ ees_of of_ca done ++ x ∷ [] =
      filter-in (λ y. not (of_ca y)) done x (ap not e) in
      let cas_same : cas_of of_ca (done ++ x ∷ []) ≡ cas_of of_ca done =
      filter-out of_ca done x e in
      record {
        taken = s.taken;
        passed = record {
          all_good = All-push good done x s.passed.all_good g;
          pairs = subst (λ l. PairsOff HasCrl (map seen l) s.taken crls left) (sym cas_same)
              s.passed.pairs;
        };
        of_ees = map-append cert ees (c ∷ [])
            ∙ ap (λ l. l ++ cert c ∷ []) s.of_ees
            ∙ ap (λ z. map seen (ees_of of_ca done) ++ z ∷ []) is
            ∙ sym (map-append seen (ees_of of_ca done) (x ∷ []))
            ∙ ap (map seen) (sym ees_more);
        of_cas = s.of_cas ∙ ap (λ l. with_lists (map seen l) s.taken) (sym cas_same);
      }

  -- one of a CA more, which takes the first revocation list that fits
  pub sorted-ca : (done : List X) (crls : List Crl) (ees cas : List C) (left rest : List Crl)
      (x : X) (c : C) (l : Crl) → AreSorted good seen of_ca cert done crls ees cas left → good x
      → of_ca x ≡ true → cert c ≡ record (seen x) { revokes = l.serials }
      → IsFirst (HasCrl (seen x)) l rest left
      → AreSorted good seen of_ca cert (done ++ x ∷ []) crls ees (cas ++ c ∷ []) rest
  sorted-ca done crls ees cas left rest x c l s g e is f =
      let ees_same : ees_of of_ca (done ++ x ∷ []) ≡ ees_of of_ca done =
      filter-out (λ y. not (of_ca y)) done x (ap not e) in
      let cas_more : cas_of of_ca (done ++ x ∷ []) ≡ cas_of of_ca done ++ x ∷ [] =
      filter-in of_ca done x e in
      let seen_more : map seen (cas_of of_ca (done ++ x ∷ []))
      ≡ map seen (cas_of of_ca done) ++ seen x ∷ [] =
      ap (map seen) cas_more ∙ map-append seen (cas_of of_ca done) (x ∷ []) in
      let even = pairs-even HasCrl (map seen (cas_of of_ca done)) s.taken crls left
      s.passed.pairs in
      record {
        taken = s.taken ++ l ∷ [];
        passed = record {
          all_good = All-push good done x s.passed.all_good g;
          pairs = subst (λ t. PairsOff HasCrl t (s.taken ++ l ∷ []) crls rest) (sym seen_more)
              (pairs-more HasCrl (map seen (cas_of of_ca done)) s.taken crls left rest (seen x) l
              s.passed.pairs f);
        };
        of_ees = s.of_ees ∙ ap (map seen) (sym ees_same);
        of_cas = map-append cert cas (c ∷ [])
            ∙ ap (λ t. t ++ cert c ∷ []) s.of_cas
            ∙ ap (λ z. with_lists (map seen (cas_of of_ca done)) s.taken ++ z ∷ []) is
            ∙ sym (with-more (map seen (cas_of of_ca done)) s.taken (seen x) l even)
            ∙ ap (λ t. with_lists t (s.taken ++ l ∷ [])) (sym seen_more);
      }

  module _ {F : Type 0} (because : X → F → Type 0) where
    -- why one does not pass is why not all are sorted
    pub refused-at : (xs done more : List X) (x : X) (crls : List Crl) (ees cas : List C)
        (left : List Crl) (fault : SortFault F)
        → AreSorted good seen of_ca cert done crls ees cas left → xs ≡ done ++ x ∷ more → WhyNotOne good because seen of_ca x left fault
        → WhyNotSorted good because seen of_ca xs crls fault
    refused-at xs done more x crls ees cas left (NotGood f) s parts why = record {
      done = done;
      cert = x;
      more = more;
      taken = s.taken;
      left = left;
      parts = parts;
      before = s.passed;
      why = why;
    }
    refused-at xs done more x crls ees cas left NoCrl s parts why = record {
      done = done;
      cert = x;
      more = more;
      taken = s.taken;
      left = left;
      parts = parts;
      before = s.passed;
      why = why;
    }
    refused-at xs done more x crls ees cas left Memory s parts why = tt
