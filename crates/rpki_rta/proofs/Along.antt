-- Why handles are not accepted is why what they stand for is not.
use Rattle.std.proofs.Common.{◌≡◌, List, [], ◌∷◌, ◌++◌, Bool, true, false, cond, map, All, IsTrue}
use Rattle.std.proofs.Common.{ℕ}
use Rattle.std.proofs.Common.{refl, sym, ap, ◌∙◌, subst}
use Rattle.std.specs.Prelude.{filter}
use Rattle.std.proofs.lemmas.List.{map-append}
use Rattle.std.proofs.lemmas.List.Elements.{All-nil, All-cons, All-head, All-tail}
use Rattle.rpki_paths.specs.declared.acceptance.AcceptFault.{AcceptFault}
use Rattle.rpki_paths.specs.declared.acceptance.AcceptFault.TheVariants as why
use Rattle.rpki_paths.specs.Cert.{Cert}
use Rattle.rpki_paths.specs.Pairing.{Carried, Crl, HasCrl}
use Rattle.rpki_paths.specs.Taking.{PairsOff, FitsNone}
use Rattle.rpki_paths.specs.Sorting.{HavePassed, StopsAtCert, WhyNotOne}
use Rattle.rpki_paths.specs.Accepting.{HaveTaken, LeavesOver, StopsSigning, WhyNot}

all-front : {X : Type 0} (P : X → Type 0) (xs ys : List X) → All P (xs ++ ys) → All P xs
all-front P [] ys h = All-nil P
all-front P (x ∷ xs) ys h =
    All-cons P x xs (All-head P x (xs ++ ys) h) (all-front P xs ys (All-tail P x (xs ++ ys) h))

all-back : {X : Type 0} (P : X → Type 0) (xs ys : List X) → All P (xs ++ ys) → All P ys
all-back P [] ys h = h
all-back P (x ∷ xs) ys h = all-back P xs ys (All-tail P x (xs ++ ys) h)

map-step : {X A : Type 0} (f : X → A) (t : Bool) (x : X) (xs : List X)
    → map f (cond t (x ∷ xs) xs) ≡ cond t (f x ∷ map f xs) (map f xs)
map-step f true x xs = refl
map-step f false x xs = refl

-- what passes a test, as it is seen, is what the images that pass it are seen as
pub seen-along : {X Y A : Type 0} (f : X → Y) (P : X → Type 0) (seen : X → A) (later : Y → A)
    (p : X → Bool) (q : Y → Bool) → ((x : X) → P x → seen x ≡ later (f x))
    → ((x : X) → p x ≡ q (f x)) → (xs : List X) → All P xs
    → map seen (filter p xs) ≡ map later (filter q (map f xs))
seen-along f P seen later p q es ep [] all = refl
seen-along f P seen later p q es ep (x ∷ xs) all =
    map-step seen (p x) x (filter p xs)
    ∙ ap (λ s. cond (p x) (s ∷ map seen (filter p xs)) (map seen (filter p xs)))
    (es x (All-head P x xs all))
    ∙ ap (λ l. cond (p x) (later (f x) ∷ l) l)
    (seen-along f P seen later p q es ep xs (All-tail P x xs all))
    ∙ ap (λ t. cond t (later (f x) ∷ map later (filter q (map f xs)))
    (map later (filter q (map f xs)))) (ep x)
    ∙ sym (map-step later (q (f x)) (f x) (filter q (map f xs)))

-- what holds of each holds of the images
pub all-along : {X Y : Type 0} (f : X → Y) (P good : X → Type 0) (fine : Y → Type 0)
    → ((x : X) → P x → good x → fine (f x)) → (xs : List X) → All P xs → All good xs
    → All fine (map f xs)
all-along f P good fine h [] all g = All-nil fine
all-along f P good fine h (x ∷ xs) all g =
    All-cons fine (f x) (map f xs) (h x (All-head P x xs all) (All-head good x xs g))
    (all-along f P good fine h xs (All-tail P x xs all) (All-tail good x xs g))

module _ {X Y F : Type 0} (f : X → Y) (P : X → Type 0) (good : X → Type 0)
    (because : X → F → Type 0) (seen : X → Cert) (of_ca : X → Bool) (fine : Y → Type 0)
    (since : Y → F → Type 0) (later : Y → Cert) (has_ca : Y → Bool)
    (goods : (x : X) → P x → good x → fine (f x)) (fines : (x : X) → P x → fine (f x) → good x)
    (causes : (x : X) (c : F) → P x → because x c → since (f x) c)
    (es : (x : X) → P x → seen x ≡ later (f x)) (ep : (x : X) → of_ca x ≡ has_ca (f x)) where
  passed-along : (xs : List X) (crls taken left : List Crl) → All P xs
      → HavePassed good seen of_ca xs crls taken left
      → HavePassed fine later has_ca (map f xs) crls taken left
  passed-along xs crls taken left all h = record {
    all_good = all-along f P good fine goods xs all h.all_good;
    pairs = subst (λ l. PairsOff HasCrl l taken crls left)
        (seen-along f P seen later of_ca has_ca es ep xs all) h.pairs;
  }

  at-cert : (xs done more : List X) (x : X) → xs ≡ done ++ x ∷ more → All P xs → P x
  at-cert xs done more x parts all =
      All-head P x more (all-back P done (x ∷ more) (subst (λ l. All P l) parts all))

  stops-along : (xs : List X) (crls : List Crl) {fault : _} → All P xs
      → (h : StopsAtCert good because seen of_ca xs crls fault)
      → WhyNotOne fine since later has_ca (f h.cert) h.left fault
      → StopsAtCert fine since later has_ca (map f xs) crls fault
  stops-along xs crls all h one = record {
    done = map f h.done;
    cert = f h.cert;
    more = map f h.more;
    taken = h.taken;
    left = h.left;
    parts = ap (map f) h.parts ∙ map-append f h.done (h.cert ∷ h.more);
    before = passed-along h.done crls h.taken h.left
        (all-front P h.done (h.cert ∷ h.more) (subst (λ l. All P l) h.parts all)) h.before;
    why = one;
  }

  taken-along : (xs : List X) (a : Carried) (ees : List Cert) (crls : List Crl)
      (keys : List (List ℕ)) (left_crls : List Crl) (left_ees : List Cert) → All P xs
      → HaveTaken good seen of_ca xs a ees crls keys left_crls left_ees
      → HaveTaken fine later has_ca (map f xs) a ees crls keys left_crls left_ees
  taken-along xs a ees crls keys left_crls left_ees all h = record {
    passed = passed-along xs a.crls crls left_crls all h.passed;
    signed = h.signed;
  }

  signing-along : (xs : List X) (a : Carried) {fault : _} → All P xs
      → StopsSigning good seen of_ca xs a fault
      → StopsSigning fine later has_ca (map f xs) a fault
  signing-along xs a all h =
      ((h.0.0, h.0.1, passed-along xs a.crls h.0.0 h.0.1 all h.0.2), h.1)

  leaves-along : (xs : List X) (a : Carried)
      (Q : List (List ℕ) → List Crl → List Cert → Type 0) → All P xs
      → LeavesOver good seen of_ca xs a Q → LeavesOver fine later has_ca (map f xs) a Q
  leaves-along xs a Q all h = (
    h.0,
    h.1,
    h.2,
    h.3,
    h.4,
    taken-along xs a h.0 h.1 h.2 h.3 h.4 all h.5,
    h.6,
  )

  pub why-along : (xs : List X) (a : Carried) (fault : AcceptFault F) → All P xs
      → WhyNot good because seen of_ca xs a fault
      → WhyNot fine since later has_ca (map f xs) a fault
  why-along xs a (why.NotGood c) all h =
      let p = at-cert xs h.done h.more h.cert h.parts all in
      stops-along xs a.crls all h
      (λ g. h.why.0 (fines h.cert p g), causes h.cert c p h.why.1)
  why-along xs a why.NoCrl all h =
      let p = at-cert xs h.done h.more h.cert h.parts all in
      stops-along xs a.crls all h (
        goods h.cert p h.why.0,
        subst (λ t. IsTrue t) (ep h.cert) h.why.1,
        subst (λ s. FitsNone (HasCrl s) h.left) (es h.cert p) h.why.2,
      )
  why-along xs a why.NoKey all h = signing-along xs a all h
  why-along xs a why.Digest all h = signing-along xs a all h
  why-along xs a why.NoCert all h = signing-along xs a all h
  why-along xs a why.KeysLeft all h =
      leaves-along xs a (λ keys crls ees. ¬ (keys ≡ [])) all h
  why-along xs a why.CrlsLeft all h =
      leaves-along xs a (λ keys crls ees. (keys ≡ []) × ¬ (crls ≡ [])) all h
  why-along xs a why.CertsLeft all h =
      leaves-along xs a (λ keys crls ees. (keys ≡ []) × (crls ≡ []) × ¬ (ees ≡ [])) all h
  why-along xs a (why.Walks c) all h =
      (h.0, h.1, taken-along xs a h.0 h.1 [] [] [] all h.2, h.3)
  why-along xs a why.Memory all h = tt
