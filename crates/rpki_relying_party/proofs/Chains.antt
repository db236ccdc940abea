-- What follows of a walk for all chains.
use Rattle.std.proofs.Common.{◌≡◌, ◌⊎◌, inl, inr, ℕ, List, [], ◌∷◌, ◌++◌, Contains, All, sym}
use Rattle.std.proofs.Common.{subst, ap, refl, ◌∙◌}
use Rattle.std.specs.List.{AllZip}
use Rattle.std.proofs.lemmas.List.Elements.{All-contains, Contains-append_left}
use Rattle.rpki_relying_party.specs.Paths.{IsChild, Leads, IsFound, IsSaid, TellsOne, Passes}
use Rattle.rpki_relying_party.specs.Walk.{Read, Left, IsToldChild, IsMet, HasKey, IsWalk}
use Rattle.rpki_relying_party.specs.Walk.{places_read, places_left}
use Rattle.rpki_relying_party.proofs.Lists.{nothing, contains-first, contains-rest, cons-cases}
use Rattle.rpki_relying_party.proofs.Lists.{contains-mapped, mapped-from}
use Rattle.rpki_relying_party.proofs.Walking.{leads-weaker}

-- what stands beside an element
pub beside : {A B : Type 0} (R : A → B → Type 0) (xs : List A) (ys : List B) → AllZip R xs ys
    → (x : A) → Contains xs x → (y : B) × Contains ys y × R x y
beside R [] ys z x c = absurd (nothing x c)
beside R (a ∷ xs) [] z x c = absurd z
beside R (a ∷ xs) (b ∷ ys) z x c = elim (cons-cases a x xs c) [
  | inl e ↦ (b, contains-first b ys, subst (λ (q : _). R q b) e (z.0))
  | inr r ↦ (let y = beside R xs ys (z.1) x r in
      (y.0, contains-rest b (y.0) ys (y.1), y.2))
]

module _ {P X : Type 0} (tells : P → List X → List P → Type 0) (costs exceeds : P → ℕ → Type 0)
    (key : P → List ℕ) (listed lists had has : X → Type 0) (first : Read P X) (limit : ℕ)
    (unread : List (Left P))
    (w : IsWalk tells costs exceeds key listed lists had has first limit unread) where
  abbrev start : P
  start = first.place

  pub told : (r : Read P X) → Contains w.reads r → tells r.place r.said r.children
  told r c = All-contains (λ r. tells r.place r.said r.children) w.reads r w.told c

  is-child : (p q : P) → IsToldChild w.reads p q → IsChild tells p q
  is-child p q t = (
    t.0.said,
    t.0.children,
    subst (λ (z : P). tells z t.0.said t.0.children) (t.2) (told (t.0) (t.1)),
    t.3,
  )

  was-met : (r : Read P X) → Contains w.reads r → IsMet start w.reads r.place
  was-met r c = All-contains (IsMet start w.reads) (places_read w.reads ++ places_left unread)
      r.place w.met (before (contains-mapped (λ (r : Read P X). r.place) w.reads r c))
    where
      before : Contains (places_read w.reads) r.place
          → Contains (places_read w.reads ++ places_left unread) r.place
      before h = Contains-append_left (places_read w.reads) (places_left unread) r.place h

  pub sound : (x : X) → lists x → listed x ⊎ IsSaid tells start x
  sound x l = elim (w.found x l) [
    | inl old ↦ inl old
    | inr s ↦ (let to = was-met (s.0) (s.1) in inr (
      to.0,
      s.0.place,
      leads-weaker (IsToldChild w.reads) (IsChild tells) is-child (to.0) start s.0.place (to.1),
      (s.0.said, s.0.children, told (s.0) (s.1), s.2),
    ))
  ]

  -- one with the key of this place was read, or was left
  abbrev Known : P → Type 0
  Known q = HasKey key (places_read w.reads) (key q) ⊎ HasKey key (places_left unread) (key q)

  begun : Known start
  begun = inl (
    start,
    contains-mapped (λ (r : Read P X). r.place) w.reads first
        (subst (λ (l : List (Read P X)). Contains l first) (sym (w.begun.1))
        (contains-first first (w.begun.0))),
    refl,
  )

  -- a place with the key of this one was read
  abbrev pub HasRead : P → Type 0
  HasRead p = (r : Read P X) × Contains w.reads r × (key r.place ≡ key p)

  read-or-left : (q : P) (path : List P) → Known q
      → HasRead q ⊎ Passes key (places_left unread) q path
  read-or-left q path (inl k) =
      let r = mapped-from (λ (r : Read P X). r.place) w.reads (k.0) (k.1) in
      inl (r.0, r.1, ap key (r.2) ∙ k.2)
  read-or-left q path (inr k) = inr (q, k.0, contains-first q path, k.1, sym (k.2))

  further : (q c : P) (path : List P) (p : P)
      → HasRead p ⊎ Passes key (places_left unread) c path
      → HasRead p ⊎ Passes key (places_left unread) q (c ∷ path)
  further q c path p (inl r) = inl r
  further q c path p (inr h) = inr (h.0, h.1, contains-rest q (h.0) (c ∷ path) (h.2), h.3, h.4)

  abbrev Closed : P → Type 0
  Closed c = HasKey key (places_read w.reads) (key c) ⊎ Contains (places_left unread) c

  -- Of any children, each of which is told where a place with its parent's key is read.
  module _ (child : P → P → Type 0)
      (is_told : (p c : P) (r : HasRead p) → child p c → HasKey key r.0.children (key c)) where
    known-child : (q c : P) → HasRead q → child q c → Known c
    known-child q c r h =
        let d = is_told q c r h in
        elim (All-contains Closed r.0.children (d.0)
        (All-contains (λ r. All Closed r.children) w.reads (r.0) w.closed (r.1)) (d.1)) [
          | inl done ↦ inl (subst (HasKey key (places_read w.reads)) (d.2) done)
          | inr left ↦ inr (d.0, left, d.2)
        ]

    along : (path : List P) (q p : P) → Known q → Leads child q path p
        → HasRead p ⊎ Passes key (places_left unread) q path
    along [] q p k e = elim (read-or-left q [] k) [
      | inl r ↦ inl (r.0, r.1, r.2 ∙ ap key e)
      | inr left ↦ inr left
    ]
    along (c ∷ path) q p k h = elim (read-or-left q (c ∷ path) k) [
      | inl r ↦ further q c path p (along path c p (known-child q c r (h.0)) (h.1))
      | inr left ↦ inr left
    ]

    -- a place to which a chain of them leads was read, or the chain passes one that was left
    pub reached : (path : List P) (p : P) → Leads child start path p
        → HasRead p ⊎ Passes key (places_left unread) start path
    reached path p h = along path start p begun h

  module _ (alike : X → X → Type 0) (one : TellsOne tells key alike) where
    -- what a place says whose key was read is found
    heard : (p : P) → HasRead p → IsFound tells alike has p
    heard p r = λ x h.
        let z = one p r.0.place (h.0) r.0.said (h.1) r.0.children (sym (r.2)) (h.2)
        (told (r.0) (r.1)) in
        let y = beside alike (h.0) r.0.said (z.0) x (h.3) in (
          y.0,
          y.2,
          All-contains has r.0.said (y.0) (All-contains (λ r. All has r.said) w.reads (r.0)
              w.kept (r.1)) (y.1),
        )

    -- and its children were told
    told-child : (p c : P) (r : HasRead p) → IsChild tells p c
        → HasKey key r.0.children (key c)
    told-child p c r h =
        let z = one p r.0.place (h.0) r.0.said (h.1) r.0.children (sym (r.2)) (h.2)
        (told (r.0) (r.1)) in
        let d = beside (λ a b. key a ≡ key b) (h.1) r.0.children (z.1) c (h.3) in
        (d.0, d.1, sym (d.2))

    pub complete : (path : List P) (p : P) → Leads (IsChild tells) start path p
        → IsFound tells alike has p ⊎ Passes key (places_left unread) start path
    complete path p h = elim (reached (IsChild tells) told-child path p h) [
      | inl r ↦ inl (heard p r)
      | inr left ↦ inr left
    ]
