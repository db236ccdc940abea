-- Names are read exactly.
use Rattle.std.proofs.Common.{◌≡◌, ℕ, Bool, true, false, cond, List, ◌∷◌, ◌++◌}
use Rattle.std.proofs.Common.{Option, Some, None, inl, inr, refl, sym, subst, ap}
use Rattle.std.specs.Prelude.{◌⊎◌, Decides}
use Rattle.rpki_der.specs.declared.mode.Mode.{Mode}
use Rattle.rpki_der.specs.declared.mode.Mode.TheVariants.{Der, Ber}
use Rattle.rpki_der.specs.Form.Keyed.{IsSaid}
use Rattle.rpki_der.specs.Form.Law.{every, nothing, is, StartsIn, Starts, IsPart}
use Rattle.rpki_der.specs.Form.Made.{choice_at, or_read}
use Rattle.rpki_der.specs.Form.Parts.{implicit_string_at}
use Rattle.rpki_der.specs.Grammar.{IsBytes, Front}
use Rattle.rpki_der.specs.Read.Parse.{Parser, ◌>>=◌, is_next, some_of, skip_at}
use Rattle.rpki_der.proofs.Form.Kinds.{contents-part, any-part}
use Rattle.rpki_der.proofs.Form.Taking.{takes-made}
use Rattle.rpki_der.proofs.Form.Words.{part-as, make, optional-there}
use Rattle.rpki_der.proofs.Reading.Lengths.{some_is}
use Rattle.rpki_der.proofs.Reading.Many.{primitive-shorter}
use Rattle.rpki_der.proofs.Reading.Skips.{Takes, skip-takes}
use Rattle.rpki_extensions.specs.declared.name.GeneralName.{GeneralName}
use Rattle.rpki_extensions.specs.declared.name.GeneralName.TheVariants.{Uri, Other}
use Rattle.rpki_extensions.specs.Names.{URI, GeneralNameForm, IsNamed, general_name_at, named}

-- ---- one kind by its tag, and else any other

there : {X : Type 0} (f : Option (X × List ℕ)) (other : Option (X × List ℕ)) (u : X × List ℕ)
    → (some_of f >>= λ o. or_read o.0 o.1 other) ≡ Some u → f ≡ Some u
there None other u h = absurd cc
there (Some (x, r)) other u h = h

module _ {X : Type 0} {p q : Parser X} {G H : Mode → List ℕ → X → Type 0} (tag : ℕ)
    (one : IsPart (is tag) nothing p G) (two : IsPart every nothing q H) where
  abbrev Either : Mode → List ℕ → X → Type 0
  Either mode o x = G mode o x ⊎ (H mode o x × (is_next tag o ≡ false))

  -- which of them is read
  read-by : (mode : Mode) (b : List ℕ) (u : X × List ℕ) → choice_at tag p q mode b ≡ Some u
      → (p mode b ≡ Some u) ⊎ ((q mode b ≡ Some u) × (is_next tag b ≡ false))
  read-by mode b u h = of (is_next tag b) refl h
    where
      of : (t : Bool) → is_next tag b ≡ t
          → (cond t (some_of (p mode b)) (Some (None, b))
          >>= λ o. or_read o.0 o.1 (q mode o.1)) ≡ Some u
          → (p mode b ≡ Some u) ⊎ ((q mode b ≡ Some u) × (is_next tag b ≡ false))
      of true e k = inl (first (p mode b) k)
        where
          first : (f : Option (X × List ℕ))
              → (some_of f >>= λ o. or_read o.0 o.1 (q mode o.1)) ≡ Some u → f ≡ Some u
          first None g = absurd cc
          first (Some (x, r)) g = g
      of false e k = inr (k, e)

  other-next : (o r : List ℕ) → StartsIn every o → is_next tag (o ++ r) ≡ false
      → is_next tag o ≡ false
  other-next o r s e =
      let here : is_next tag ((s.0 ∷ s.1) ++ r) ≡ false =
      subst (λ (t : List ℕ). is_next tag (t ++ r) ≡ false) s.2 e in
      rw s.2 here

  next-other : (o r : List ℕ) → StartsIn every o → is_next tag o ≡ false
      → is_next tag (o ++ r) ≡ false
  next-other o r s e =
      let here : is_next tag (s.0 ∷ s.1) ≡ false =
      subst (λ (t : List ℕ). is_next tag t ≡ false) s.2 e in
      rw s.2 here

  sound : (mode : Mode) (b : List ℕ) (x : X) (r : List ℕ) → IsBytes b
      → choice_at tag p q mode b ≡ Some (x, r) → Front (Either mode) b x r
  sound mode b x r bytes h = elim (read-by mode b (x, r) h) [
    | inl k ↦ let f = (one.exact mode).sound b x r bytes k in (f.0, f.1, inl f.2)
    | inr k ↦
        let f = (two.exact mode).sound b x r bytes k.0 in
        let e : is_next tag (f.0 ++ r) ≡ false =
        subst (λ (t : List ℕ). is_next tag t ≡ false) f.1 k.1 in
        (f.0, f.1, inr (f.2, other-next f.0 r (two.starts mode f.0 x f.2) e))
  ]

  complete : (mode : Mode) (o : List ℕ) (x : X) (r : List ℕ) → Either mode o x
      → choice_at tag p q mode (o ++ r) ≡ Some (x, r)
  complete mode o x r (inl g) = rw (optional-there tag one mode o x r g) refl
  complete mode o x r (inr h) =
      let other : is_next tag (o ++ r) ≡ false = next-other o r (two.starts mode o x h.0) h.1 in
      let read : q mode (o ++ r) ≡ Some (x, r) = (two.exact mode).complete o x r tt h.0 in
      rw other read

  starts : (mode : Mode) (o : List ℕ) (x : X) → Either mode o x → Starts every nothing o
  starts mode o x (inl g) = let s = one.starts mode o x g in (s.0, s.1, s.2, refl)
  starts mode o x (inr h) = two.starts mode o x h.0

  relaxed : (o : List ℕ) (x : X) → Either Der o x → Either Ber o x
  relaxed o x (inl g) = inl (one.relaxed o x g)
  relaxed o x (inr h) = inr (two.relaxed o x h.0, h.1)

  either-part : IsPart every nothing (choice_at tag p q) Either
  either-part = record {
    exact = λ mode. record {
      sound = sound mode;
      complete = λ o x r _ h. complete mode o x r h;
    };
    starts = starts;
    relaxed = relaxed;
  }

  either-takes : (mode : Mode) → Takes (p mode) → Takes (q mode) → Takes (choice_at tag p q mode)
  either-takes mode a b = record {
    at = λ o x r h. elim (read-by mode o (x, r) h) [
      | inl k ↦ a.at o x r k
      | inr k ↦ b.at o x r k.0
    ];
  }

-- ---- names

pub name-part : IsPart every nothing general_name_at GeneralNameForm
name-part = part-as
    (either-part URI (make Uri (contents-part URI)) (make (λ _. Other) (any-part 32))) to from
  where
    to : (mode : Mode) (o : List ℕ) (x : GeneralName)
        → Either URI (make Uri (contents-part URI)) (make (λ _. Other) (any-part 32)) mode o x
        → GeneralNameForm mode o x
    to mode o x (inl h) = subst (GeneralNameForm mode o) (sym h.2) h.1
    to mode o x (inr h) = subst (GeneralNameForm mode o) (sym h.0.2) (h.0.1, h.1)

    from : (mode : Mode) (o : List ℕ) (x : GeneralName) → GeneralNameForm mode o x
        → Either URI (make Uri (contents-part URI)) (make (λ _. Other) (any-part 32)) mode o x
    from mode o (Uri text) h = inl (text, h, refl)
    from mode o Other h = inr ((tt, h.0, refl), h.1)

pub name-takes : (mode : Mode) → Takes (general_name_at mode)
name-takes mode =
    either-takes URI (make Uri (contents-part URI)) (make (λ _. Other) (any-part 32)) mode
    (takes-made Uri (implicit_string_at 6) mode
    (record { at = λ b x r h. primitive-shorter URI (λ c. Some c) mode b x r h }))
    (takes-made (λ _. Other) (skip_at 32) mode (skip-takes 32 mode))

-- ---- what a name says

module _ {P : List ℕ → Type 0} {test : List ℕ → Bool}
    (decides : (text : List ℕ) → Decides (test text) (P text)) where
  abbrev by_test : List ℕ → Option (List ℕ)
  by_test text = cond (test text) (Some text) None

  kept-sound : (t : Bool) (text uri : List ℕ) → Decides t (P text)
      → cond t (Some text) None ≡ Some uri → (text ≡ uri) × P uri
  kept-sound true text uri d e =
      let same : text ≡ uri = some_is text uri e in (same, subst P same (d.0 refl))
  kept-sound false text uri d e = absurd cc

  pub named-sound : (name : GeneralName) (uri : List ℕ) → named by_test name ≡ Some uri
      → IsNamed P name uri
  named-sound (Uri text) uri e =
      let k = kept-sound (test text) text uri (decides text) e in (ap Uri k.0, k.1)
  named-sound Other uri e = absurd cc

  pub named-complete : (name : GeneralName) (uri : List ℕ) → IsNamed P name uri
      → named by_test name ≡ Some uri
  named-complete name uri h = rw h.0 (rw ((decides uri).1 h.1) refl)

  pub named-said : IsSaid (named by_test) (λ _. Unit {0}) (IsNamed P)
  named-said = record {
    sound = λ name uri _ e. named-sound name uri e;
    complete = named-complete;
  }
