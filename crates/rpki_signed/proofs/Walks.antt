-- Walks, entry by entry.
use Rattle.std.proofs.Common.{◌≡◌, ◌≢◌, inl, inr, ℕ, List, [], ◌∷◌, ◌++◌, Bool, true, false}
use Rattle.std.proofs.Common.{refl, sym, ap, ap₂, ◌∙◌, cond}
use Rattle.std.specs.Prelude.{◌↔◌, All, IsTrue, Option, None, Some, map}
use Rattle.std.specs.Iterator.{Yields, YieldsFirstBy}
use Rattle.std.specs.Str.{bytes_eq}
use Rattle.std.proofs.lemmas.Slice.Eq.{bytes_eq-Decides}
use Rattle.std.proofs.lemmas.Bool.{cases_Bool}
use Rattle.std.proofs.lemmas.List.Elements.{All-nil, All-cons, All-head, All-tail}
use Rattle.rpki_der.proofs.Form.Keyed.{differ}
use Rattle.rpki_der.proofs.Reading.Lengths.{some_is}
use Rattle.rpki_der.specs.Form.Keyed.{with_key}
use Rattle.rpki_sigobj.specs.Verify.{Digester}
use Rattle.rpki_files.specs.Manifest.Files.{File, name_of}
use Rattle.rpki_signed.specs.Walk.{AtHand, IsFirstNamed, IsHeld, GivesAll, has_hash, is_held}
use Rattle.rpki_signed.specs.Walk.{walk_of}

-- ---- what a call does with the entry in front

module _ (digest : Digester) (files : List AtHand) where
  step : (b : Bool) (x : File) (rest : List File) → is_held digest files x ≡ b
      → walk_of digest files (x ∷ rest)
      ≡ cond b (x ∷ walk_of digest files rest) (walk_of digest files rest)
  step b x rest e =
      ap (λ held. cond held (x ∷ walk_of digest files rest) (walk_of digest files rest)) e

  -- an entry that is held is the first
  pub held-first : (all rest : List File) (x : File) → all ≡ x ∷ rest
      → true ≡ is_held digest files x
      → walk_of digest files all ≡ x ∷ walk_of digest files rest
  held-first all rest x e h = ap (walk_of digest files) e ∙ step true x rest (sym h)

  -- an entry that is not is passed over
  pub passed-over : (all rest : List File) (x : File) → all ≡ x ∷ rest
      → false ≡ is_held digest files x
      → walk_of digest files all ≡ walk_of digest files rest
  passed-over all rest x e h = ap (walk_of digest files) e ∙ step false x rest (sym h)

-- ---- all that is given

module _ {A X : Type 0} (view : A → X) where
  given : (s t : List X) (u : List X) (items : List A)
      → Yields (YieldsFirstBy view (λ (rest : List X). rest)) s items t
      → YieldsFirstBy view (λ (rest : List X). rest) t None u → map view items ≡ s
  given s t u [] y end = sym (y ∙ end.0)
  given s t u (x ∷ items) y end =
      ap (λ rest. view x ∷ rest) (given y.0 t u items y.2 end) ∙ sym y.1

  -- what gives the first of what is left, up to the end, gives all of it
  pub gives-all : (all : List X)
      → GivesAll (YieldsFirstBy view (λ (rest : List X). rest)) view all all
  gives-all all items d = given all d.1.0 d.0 items d.1.1 d.1.2

-- ---- what is held

here : (name : List ℕ) (f : AtHand) (files : List AtHand) → bytes_eq f.0 name ≡ true
    → with_key (λ (file : AtHand). file.0) name (f ∷ files) ≡ Some f
here name f files t = rw t refl

later : (name : List ℕ) (f : AtHand) (files : List AtHand) → bytes_eq f.0 name ≡ false
    → with_key (λ (file : AtHand). file.0) name (f ∷ files)
    ≡ with_key (λ (file : AtHand). file.0) name files
later name f files n = rw n refl

-- what is found is the first with the name
found : (name : List ℕ) (files : List AtHand) (file : AtHand)
    → with_key (λ (f : AtHand). f.0) name files ≡ Some file → IsFirstNamed files name file.1
found name [] file h = absurd cc
found name (f ∷ files) file h = elim (cases_Bool (bytes_eq f.0 name)) [
  | inl t ↦
      let same : f ≡ file = some_is f file (sym (here name f files t) ∙ h) in
      let it : f ≡ (name, file.1) =
      ap₂ (λ a b. (a, b)) ((bytes_eq-Decides f.0 name).0 t) (ap (λ (p : AtHand). p.1) same) in (
        [],
        files,
        ap (λ (p : AtHand). p ∷ files) it,
        All-nil (λ (p : AtHand). p.0 ≢ name),
      )
  | inr n ↦
      let r = found name files file (sym (later name f files n) ∙ h) in (
        f ∷ r.0,
        r.1,
        ap (λ (t : List AtHand). f ∷ t) r.2,
        All-cons (λ (p : AtHand). p.0 ≢ name) f r.0 (differ f.0 name n) r.3,
      )
]

-- the first with the name is found
first-is : (name octets : List ℕ) (before after : List AtHand)
    → All (λ (p : AtHand). p.0 ≢ name) before
    → with_key (λ (f : AtHand). f.0) name (before ++ (name, octets) ∷ after) ≡ Some (name, octets)
first-is name octets [] after h =
    here name (name, octets) after ((bytes_eq-Decides name name).1 refl)
first-is name octets (f ∷ before) after h = elim (cases_Bool (bytes_eq f.0 name)) [
  | inl t ↦ absurd (All-head (λ (p : AtHand). p.0 ≢ name) f before h
      ((bytes_eq-Decides f.0 name).0 t))
  | inr n ↦ later name f (before ++ (name, octets) ∷ after) n
      ∙ first-is name octets before after (All-tail (λ (p : AtHand). p.0 ≢ name) f before h)
]

module _ (digest : Digester) (files : List AtHand) (f : File) where
  held-by : (o : Option AtHand) → with_key (λ (p : AtHand). p.0) (name_of f) files ≡ o
      → has_hash digest f.hash o ≡ true → IsHeld digest files f
  held-by None e h = absurd cc
  held-by (Some file) e h =
      (file.1, found (name_of f) files file e, (bytes_eq-Decides (digest file.1) f.hash).0 h)

  -- the test tells whether an entry is held
  pub held-is : IsTrue (is_held digest files f) ↔ IsHeld digest files f
  held-is = (
    (λ h. held-by (with_key (λ (p : AtHand). p.0) (name_of f) files) refl h),
    λ h.
        let is : with_key (λ (p : AtHand). p.0) (name_of f) files ≡ Some (name_of f, h.0) =
        rw h.1.2 (first-is (name_of f) h.0 h.1.0 h.1.1 h.1.3) in
        ap (has_hash digest f.hash) is ∙ (bytes_eq-Decides (digest h.0) f.hash).1 h.2,
  )
