-- The words of a form are read exactly.
use Rattle.std.proofs.Common.{◌≡◌, ◌<◌, ◌≤◌, ℕ, zero, suc, Bool, true, false, cond, List, [], ◌∷◌}
use Rattle.std.proofs.Common.{◌++◌, length, Option, Some, None, inl, inr, refl, sym, ap, subst, ◌∙◌}
use Rattle.std.proofs.Common.{append_assoc, eq-eqb, arith}
use Rattle.std.specs.Prelude.{◌⊎◌, unwrap_or, Decides, All}
use Rattle.std.proofs.lemmas.List.{append-nil, length-append}
use Rattle.std.proofs.lemmas.List.Elements.{All-nil, All-cons}
use Rattle.rpki_der.specs.declared.mode.Mode.{Mode}
use Rattle.rpki_der.specs.declared.mode.Mode.TheVariants.{Der, Ber}
use Rattle.rpki_der.specs.Read.Parse.{Parser, in_value, is_next, some_of, optional, taken}
use Rattle.rpki_der.specs.Read.Parse.{go_on, up_to, many, each, all_of, all_at, tested}
use Rattle.rpki_der.specs.Read.Exact.{IsExact, IsReading}
use Rattle.rpki_der.specs.Grammar.{IsBytes, Within, Front, Optional, Items, IsUnique}
use Rattle.rpki_der.proofs.Reading.Lengths.{bind_some, some_is}
use Rattle.rpki_der.proofs.Reading.Exact.{exact-in, IsBytes-left, IsBytes-right}
use Rattle.rpki_der.proofs.Reading.Lists.{front-some}
use Rattle.rpki_der.proofs.Reading.Many.{optional-some}
use Rattle.rpki_der.proofs.Reading.Unique.{value-ber, before, unique, items-as}
use Rattle.rpki_der.specs.Form.Parts.{items_at}
use Rattle.rpki_der.specs.Form.Law.{TagSet, every, nothing, is, or, has, NoneNext, StartsIn, Starts}
use Rattle.rpki_der.specs.Form.Law.{IsPart}
use Rattle.rpki_der.specs.Form.Made.{Understood, Made, Partly, Ignored, WithOctets, Default, Choice}
use Rattle.rpki_der.specs.Form.Made.{understood, made, partly, ignored, with_octets, default_at}
use Rattle.rpki_der.specs.Form.Made.{choice_at, or_read}
use Rattle.rpki_der.proofs.Form.Apart.{none-at-end, not-next, starts-is, starts-as, in-left}
use Rattle.rpki_der.proofs.Form.Apart.{in-right}
use Rattle.rpki_der.proofs.Form.Fields.{starts-value}

-- ---- readings

-- what is read exactly whatever follows it is unique
pub part-unique : {X : Type 0} {first : TagSet} {p : Parser X} {G : Mode → List ℕ → X → Type 0}
    → IsPart first nothing p G → (mode : Mode) → IsUnique (G mode)
part-unique {X} {first} {p} {G} part mode =
    unique (p mode) (G mode)
    (record {
      sound = (part.exact mode).sound;
      complete =
          λ o x r er h. (part.exact mode).complete o x r tt h;
    })

-- a reading of values that begin with a tag of the set
pub part : {X : Type 0} {p : Parser X} {G : Mode → List ℕ → X → Type 0} (first : TagSet)
    → IsReading p G → ((mode : Mode) (o : List ℕ) (x : X) → G mode o x → StartsIn first o)
    → IsPart first nothing p G
part first reading starts = record {
  exact = λ mode. record {
    sound = (reading.exact mode).sound;
    complete =
        λ o x r er h. (reading.exact mode).complete o x r tt h;
  };
  starts = starts;
  relaxed = reading.relaxed;
}

-- a reading of values with this tag
pub tagged : {X : Type 0} {p : Parser X} {M : Mode → List ℕ → X → Type 0} (tag : ℕ)
    → IsReading p (λ mode o x. Within mode tag (λ c. M mode c x) o)
    → IsPart (is tag) nothing p (λ mode o x. Within mode tag (λ c. M mode c x) o)
tagged tag reading = part (is tag) reading (λ mode o x h. starts-value mode tag o h.0 h.1)

-- another spelling of the form
pub part-as : {X : Type 0} {first apart : TagSet} {p : Parser X} {G H : Mode → List ℕ → X → Type 0}
    → IsPart first apart p G
    → ((mode : Mode) (o : List ℕ) (x : X) → G mode o x → H mode o x)
    → ((mode : Mode) (o : List ℕ) (x : X) → H mode o x → G mode o x) → IsPart first apart p H
part-as {X} {first} {apart} {p} {G} {H} e to from = record {
  exact = λ mode. record {
    sound = λ b x r bytes h. let f = (e.exact mode).sound b x r bytes h in
        (f.0, f.1, to mode f.0 x f.2);
    complete = λ o x r er h. (e.exact mode).complete o x r er (from mode o x h);
  };
  starts = λ mode o x h. e.starts mode o x (from mode o x h);
  relaxed = λ o x h. to Ber o x (e.relaxed o x (from Der o x h));
}

-- ---- values whose contents are a part

-- a value with this tag whose contents are the part
pub in-tag : {X : Type 0} {first apart : TagSet} {p : Parser X} {G : Mode → List ℕ → X → Type 0}
    (tag : ℕ) → IsPart first apart p G
    → IsPart (is tag) nothing (in_value tag p) (λ mode o x. Within mode tag (λ c. G mode c x) o)
in-tag {X} {first} {apart} {p} {G} tag e = record {
  exact = λ mode.
      let ending : IsExact (λ rest. rest ≡ []) (p mode) (G mode) =
      record {
        sound = (e.exact mode).sound;
        complete =
            λ o x r er h. (e.exact mode).complete o x r
            (subst (NoneNext apart) (sym er) (none-at-end apart)) h;
      } in
      let all = exact-in tag p mode (G mode) ending in
      record { sound = all.sound; complete = λ o x r er h. all.complete o x r tt h };
  starts = λ mode o x h. starts-value mode tag o h.0 h.1;
  relaxed = λ o x h. (h.0, value-ber o tag h.0 h.1, e.relaxed h.0 x h.2);
}

-- ---- what is understood of a part

-- f understands what is in M, of what Good holds of
pub record IsUnderstood {X Y : Type 0} (f : Mode → X → Option Y) (Good : X → Type 0) (M : Mode → X
    → Y → Type 0) : Type 0 where
  pub sound : (mode : Mode) (x : X) (y : Y) → Good x → f mode x ≡ Some y → M mode x y
  pub complete : (mode : Mode) (x : X) (y : Y) → M mode x y → f mode x ≡ Some y
  pub relaxed : (x : X) (y : Y) → M Der x y → M Ber x y

pub understand : {X Y : Type 0} {first apart : TagSet} {p : Parser X} {G : Mode → List ℕ → X
    → Type 0} {f : Mode → X → Option Y} {Good : X → Type 0} {M : Mode → X → Y → Type 0}
    → IsPart first apart p G
    → ((mode : Mode) (o : List ℕ) (x : X) → IsBytes o → G mode o x → Good x) → IsUnderstood f Good M
    → IsPart first apart (understood f p) (λ mode. Understood (M mode) (G mode))
understand {X} {Y} {first} {apart} {p} {G} {f} {Good} {M} e good m = record {
  exact = λ mode. record {
    sound = λ b y r bytes h.
        let s = bind_some (p mode b) _ (y, r) h in
        let w = bind_some (f mode s.0.0) _ (y, r) s.2 in
        let q : (let t : Y × List ℕ = (w.0, s.0.1) in t) ≡ (y, r) = some_is _ _ w.2 in
        let g = (e.exact mode).sound b s.0.0 s.0.1 bytes s.1 in
        let octets : IsBytes g.0 = IsBytes-left g.0 s.0.1 (subst IsBytes g.1 bytes) in (
          g.0,
          g.1 ∙ ap (λ (t : Y × List ℕ). g.0 ++ t.1) q,
          (
            s.0.0,
            g.2,
            subst (λ (t : Y × List ℕ). M mode s.0.0 t.0) q
                (m.sound mode s.0.0 w.0 (good mode g.0 s.0.0 octets g.2) w.1),
          ),
        );
    complete = λ o y r er h. rw ((e.exact mode).complete o h.0 r er h.1)
        (rw (m.complete mode h.0 y h.2) refl);
  };
  starts = λ mode o y h. e.starts mode o h.0 h.1;
  relaxed = λ o y h. (h.0, e.relaxed o h.0 h.1, m.relaxed h.0 y h.2);
}

-- what f makes of it
pub make : {X Y : Type 0} {first apart : TagSet} {p : Parser X} {G : Mode → List ℕ → X → Type 0}
    (f : X → Y) → IsPart first apart p G → IsPart first apart (made f p) (λ mode. Made f (G mode))
make {X} {Y} {first} {apart} {p} {G} f e = record {
  exact = λ mode. record {
    sound = λ b y r bytes h.
        let s = bind_some (p mode b) _ (y, r) h in
        let q : (let t : Y × List ℕ = (f s.0.0, s.0.1) in t) ≡ (y, r) = some_is _ _ s.2 in
        let g = (e.exact mode).sound b s.0.0 s.0.1 bytes s.1 in (
          g.0,
          g.1 ∙ ap (λ (t : Y × List ℕ). g.0 ++ t.1) q,
          (s.0.0, g.2, sym (ap (λ (t : Y × List ℕ). t.0) q)),
        );
    complete = λ o y r er h. rw ((e.exact mode).complete o h.0 r er h.1) (rw h.2 refl);
  };
  starts = λ mode o y h. e.starts mode o h.0 h.1;
  relaxed = λ o y h. (h.0, e.relaxed o h.0 h.1, h.2);
}

-- what f makes of it, where it makes something
pub make-some : {X Y : Type 0} {first apart : TagSet} {p : Parser X} {G : Mode → List ℕ → X
    → Type 0} (f : X → Option Y) → IsPart first apart p G
    → IsPart first apart (partly f p) (λ mode. Partly f (G mode))
make-some f e = understand {f = λ _. f} {Good = λ _. Unit {0}} {M = λ _ x y. f x ≡ Some y} e
    (λ _ _ _ _ _. tt) (record
    { sound = λ _ x y _ h. h; complete = λ _ x y h. h; relaxed = λ x y h. h })

-- it passes a test
passed : {X : Type 0} (test : X → Bool) (u v : X × List ℕ) → cond (test u.0) (Some u) None ≡ Some v
    → (test v.0 ≡ true) × (u ≡ v)
passed {X} test u v e = of (test u.0) refl e
  where
    of : (t : Bool) → test u.0 ≡ t → cond t (Some u) None ≡ Some v → (test v.0 ≡ true) × (u ≡ v)
    of true is h = let same : u ≡ v = some_is u v h in
        (ap (λ (w : X × List ℕ). test w.0) (sym same) ∙ is, same)
    of false is h = absurd cc

pub pass : {X : Type 0} {first apart : TagSet} {p : Parser X} {G : Mode → List ℕ → X → Type 0}
    {Holds : X → Type 0} (test : X → Bool) → IsPart first apart p G
    → ((x : X) → Decides (test x) (Holds x))
    → IsPart first apart (tested test p) (λ mode o x. G mode o x × Holds x)
unfolding tested
pass {X} {first} {apart} {p} {G} {Holds} test e decides = record {
  exact = λ mode. record {
    sound = λ b x r bytes h.
        let s = bind_some (p mode b) _ (x, r) h in
        let t = passed test s.0 (x, r) s.2 in
        let g = (e.exact mode).sound b x r bytes
        (s.1 ∙ ap (λ (v : X × List ℕ). (let o : Option (X × List ℕ) = Some v in o)) t.1) in
        (g.0, g.1, (g.2, (decides x).0 t.0));
    complete = λ o x r er h. rw ((e.exact mode).complete o x r er h.0)
        (rw ((decides x).1 h.1) refl);
  };
  starts = λ mode o x h. e.starts mode o x h.0;
  relaxed = λ o x h. (e.relaxed o x h.0, h.1);
}

-- what it says is left out
pub ignore : {X : Type 0} {first apart : TagSet} {p : Parser X} {G : Mode → List ℕ → X → Type 0}
    → IsPart first apart p G → IsPart first apart (ignored p) (λ mode o _. Ignored (G mode) o)
ignore {X} {first} {apart} {p} {G} e =
    part-as (make (λ _. tt) e) (λ mode o u h. (h.0, h.1)) (λ mode o u h. (h.0, h.1, refl))

-- its octets are kept
pub keep : {X : Type 0} {first apart : TagSet} {p : Parser X} {G : Mode → List ℕ → X → Type 0}
    → IsPart first apart p G
    → IsPart first apart (with_octets p) (λ mode o y. WithOctets (G mode) o y.0 y.1)
keep {X} {first} {apart} {p} {G} e = record {
  exact = λ mode. record {
    sound = λ b y r bytes h.
        let s = bind_some (p mode b) _ (y, r) h in
        let q : (let t : (X × List ℕ) × List ℕ = ((s.0.0, taken b s.0.1), s.0.1) in
        t) ≡ (y, r) = some_is _ _ s.2 in
        let g = (e.exact mode).sound b s.0.0 s.0.1 bytes s.1 in
        let all : taken b s.0.1 ≡ g.0 =
        ap (λ (t : List ℕ). taken t s.0.1) g.1 ∙ before g.0 s.0.1 in (
          g.0,
          g.1 ∙ ap (λ (t : (X × List ℕ) × List ℕ). g.0 ++ t.1) q,
          subst (λ (t : (X × List ℕ) × List ℕ). WithOctets (G mode) g.0 t.0.0 t.0.1) q (g.2, all),
        );
    complete = λ o y r er h.
        let found : p mode (o ++ r) ≡ Some (y.0, r) = (e.exact mode).complete o y.0 r er h.0 in
        rw found (ap (λ (t : List ℕ). (let v : Option ((X × List ℕ) × List ℕ) = Some ((y.0, t), r)
        in v)) (before o r ∙ sym h.1));
  };
  starts = λ mode o y h. e.starts mode o y.0 h.0;
  relaxed = λ o y h. (e.relaxed o y.0 h.0, h.1);
}

-- ---- what may be there

none-cases : {X : Type 0} (t : Bool) (o : Option (X × List ℕ)) (b r : List ℕ)
    → cond t (some_of o) (Some (None, b)) ≡ Some (None, r) → (t ≡ false) × (b ≡ r)
none-cases true None b r e = absurd cc
none-cases {X} true (Some (y, s)) b r e =
    let q : (let t : Option X × List ℕ = (Some y, s) in t) ≡ (None, r) = some_is _ _ e in
    absurd (let no_value : (let t : Option X = Some y in
    t) ≡ None = ap (λ (t : Option X × List ℕ). t.0) q in cc)
none-cases {X} false o b r e =
    let q : (let t : Option X × List ℕ = (None, b) in t) ≡ (None, r) = some_is _ _ e in
    (refl, ap (λ (t : Option X × List ℕ). t.1) q)

pub optional-none : {X : Type 0} (tag : ℕ) (p : Parser X) (mode : Mode) (b r : List ℕ)
    → optional tag p mode b ≡ Some (None, r) → (is_next tag b ≡ false) × (b ≡ r)
optional-none tag p mode b r h = none-cases (is_next tag b) (p mode b) b r h

module _ {X : Type 0} {p : Parser X} {G : Mode → List ℕ → X → Type 0} (tag : ℕ)
    (e : IsPart (is tag) nothing p G) where
  -- where it is there, it is read
  pub optional-there : (mode : Mode) (o : List ℕ) (x : X) (r : List ℕ) → G mode o x
      → optional tag p mode (o ++ r) ≡ Some (Some x, r)
  optional-there mode o x r g =
      let t = starts-is tag o (e.starts mode o x g) in
      let next : is_next tag (o ++ r) ≡ true = rw t.1 (eq-eqb tag tag refl) in
      let read : p mode (o ++ r) ≡ Some (x, r) = (e.exact mode).complete o x r tt g in
      rw (next, read) refl

  optional-sound : (mode : Mode) (b : List ℕ) (x : Option X) (r : List ℕ) → IsBytes b
      → optional tag p mode b ≡ Some (x, r) → Front (Optional (G mode)) b x r
  optional-sound mode b None r bytes h = ([], (none-cases (is_next tag b) (p mode b) b r h).1, refl)
  optional-sound mode b (Some x) r bytes h =
      (e.exact mode).sound b x r bytes (optional-some tag p mode b x r h)

  optional-complete : (mode : Mode) (o : List ℕ) (x : Option X) (r : List ℕ) → NoneNext (is tag) r
      → Optional (G mode) o x → optional tag p mode (o ++ r) ≡ Some (x, r)
  optional-complete mode o None r er h = rw h (rw er.0 refl)
  optional-complete mode o (Some x) r er h = optional-there mode o x r h

  optional-starts : (mode : Mode) (o : List ℕ) (x : Option X) → Optional (G mode) o x
      → Starts (is tag) (is tag) o
  optional-starts mode o None h = inl h
  optional-starts mode o (Some x) h = inr (e.starts mode o x h)

  optional-relaxed : (o : List ℕ) (x : Option X) → Optional (G Der) o x → Optional (G Ber) o x
  optional-relaxed o None h = h
  optional-relaxed o (Some x) h = e.relaxed o x h

  -- what may be there
  pub option : IsPart (is tag) (is tag) (optional tag p) (λ mode. Optional (G mode))
  option = record {
    exact =
        λ mode. record { sound = optional-sound mode; complete = optional-complete mode };
    starts =
        optional-starts;
    relaxed = optional-relaxed;
  }

  -- what may be there, and else the default
  pub default : (d : X) → IsPart (is tag) (is tag) (default_at d tag p) (λ mode. Default d (G mode))
  default d = make (λ written. unwrap_or written d) option

-- ---- one of two kinds

module _ {X : Type 0} {second : TagSet} {p q : Parser X} {G H : Mode → List ℕ → X → Type 0}
    (tag : ℕ) (one : IsPart (is tag) nothing p G) (two : IsPart second nothing q H)
    (apart : has second tag ≡ false) where
  or-cases : (mode : Mode) (b : List ℕ) (x : X) (r : List ℕ) (u : Option X × List ℕ)
      → optional tag p mode b ≡ Some u → or_read u.0 u.1 (q mode u.1) ≡ Some (x, r)
      → (p mode b ≡ Some (x, r)) ⊎ (q mode b ≡ Some (x, r))
  or-cases mode b x r (None, s) e h = inr (rw ((none-cases (is_next tag b) (p mode b) b s e).1) h)
  or-cases mode b x r (Some y, s) e h = inl (optional-some tag p mode b y s e ∙ h)

  choice-sound : (mode : Mode) (b : List ℕ) (x : X) (r : List ℕ) → IsBytes b
      → choice_at tag p q mode b ≡ Some (x, r) → Front (Choice (G mode) (H mode)) b x r
  choice-sound mode b x r bytes h =
      let u = bind_some (optional tag p mode b) _ (x, r) h in
      elim (or-cases mode b x r u.0 u.1 u.2) [
        | inl k ↦ let f = (one.exact mode).sound b x r bytes k in (f.0, f.1, inl f.2)
        | inr k ↦ let f = (two.exact mode).sound b x r bytes k in (f.0, f.1, inr f.2)
      ]

  choice-complete : (mode : Mode) (o : List ℕ) (x : X) (r : List ℕ) → Choice (G mode) (H mode) o x
      → choice_at tag p q mode (o ++ r) ≡ Some (x, r)
  choice-complete mode o x r (inl g) = rw (optional-there tag one mode o x r g) refl
  choice-complete mode o x r (inr g) =
      let other : is_next tag (o ++ r) ≡ false =
      not-next second o r tag (two.starts mode o x g) apart in
      let read : q mode (o ++ r) ≡ Some (x, r) = (two.exact mode).complete o x r tt g in
      rw other read

  choice-starts : (mode : Mode) (o : List ℕ) (x : X) → Choice (G mode) (H mode) o x
      → Starts (or (is tag) second) nothing o
  choice-starts mode o x (inl g) =
      starts-as (is tag) (or (is tag) second) nothing o (λ t e. in-left (is tag) second t e)
      (one.starts mode o x g)
  choice-starts mode o x (inr g) =
      starts-as second (or (is tag) second) nothing o (λ t e. in-right (is tag) second t e)
      (two.starts mode o x g)

  choice-relaxed : (o : List ℕ) (x : X) → Choice (G Der) (H Der) o x → Choice (G Ber) (H Ber) o x
  choice-relaxed o x (inl g) = inl (one.relaxed o x g)
  choice-relaxed o x (inr g) = inr (two.relaxed o x g)

  -- one of two kinds
  pub choice : IsPart (or (is tag) second) nothing (choice_at tag p q)
      (λ mode. Choice (G mode) (H mode))
  choice = record {
    exact =
        λ mode. record {
          sound = choice-sound mode;
          complete =
              λ o x r _ h. choice-complete mode o x r h;
        };
    starts = choice-starts;
    relaxed =
        choice-relaxed;
  }

-- ---- one after the other

pub starts-long : (first : TagSet) (o : List ℕ) → StartsIn first o → 1 ≤ length o
starts-long first o s = omega (arith, ap length s.2)

items-start : {X : Type 0} (first : TagSet) (G : List ℕ → X → Type 0)
    → ((o : List ℕ) (x : X) → G o x → StartsIn first o) → (o : List ℕ) (xs : List X) → Items G o xs
    → (o ≡ []) ⊎ StartsIn first o
items-start first G f o [] h = inl h
items-start first G f o (x ∷ xs) h = let s = f h.0 x h.3 in
    inr (s.0, s.1 ++ h.1, h.2 ∙ ap (λ (t : List ℕ). t ++ h.1) s.2, s.3)

module _ {X : Type 0} {p : Parser X} {G : Mode → List ℕ → X → Type 0} (tag : ℕ)
    (e : IsPart (is tag) nothing p G) where
  items-step : (mode : Mode) (n : ℕ) (b : List ℕ) (xs : List X) (r : List ℕ) (o : Option X × List ℕ)
      → optional tag p mode b ≡ Some o → IsBytes b
      → ((s : List ℕ) (ys : List X) → IsBytes s → up_to n (optional tag p) mode s ≡ Some (ys, r)
      → Front (Items (G mode)) s ys r)
      → go_on o.0 o.1 (up_to n (optional tag p) mode o.1) ≡ Some (xs, r)
      → Front (Items (G mode)) b xs r
  items-step mode n b xs r (None, s) h bytes ih g =
      let q : (let t : List X × List ℕ = ([], s) in t) ≡ (xs, r) = some_is _ _ g in
      let same : b ≡ s = (none-cases (is_next tag b) (p mode b) b s h).1 in (
        [],
        same ∙ ap (λ (t : List X × List ℕ). t.1) q,
        subst (λ (t : List X × List ℕ). Items (G mode) [] t.0) q refl,
      )
  items-step mode n b xs r (Some x, s) h bytes ih g =
      let f = front-some x (up_to n (optional tag p) mode s) xs r g in
      let first = (e.exact mode).sound b x s bytes (optional-some tag p mode b x s h) in
      let after : IsBytes s = IsBytes-right first.0 s (subst IsBytes first.1 bytes) in
      let others = ih s f.0 after f.1 in (
        first.0 ++ others.0,
        first.1 ∙ ap (λ (t : List ℕ). first.0 ++ t) others.1
            ∙ sym (append_assoc first.0 others.0 r),
        subst (λ (t : List X). Items (G mode) (first.0 ++ others.0) t) f.2
            (first.0, others.0, refl, first.2, others.2),
      )

  up_to-sound : (mode : Mode) (n : ℕ) (b : List ℕ) (xs : List X) (r : List ℕ) → IsBytes b
      → up_to n (optional tag p) mode b ≡ Some (xs, r) → Front (Items (G mode)) b xs r
  unfolding up_to
  up_to-sound mode zero b xs r bytes h =
      let q : (let t : List X × List ℕ = ([], b) in t) ≡ (xs, r) = some_is _ _ h in (
        [],
        ap (λ (t : List X × List ℕ). t.1) q,
        subst (λ (t : List X × List ℕ). Items (G mode) [] t.0) q refl,
      )
  up_to-sound mode (suc n) b xs r bytes h =
      let o = bind_some (optional tag p mode b) _ (xs, r) h in
      items-step mode n b xs r o.0 o.1 bytes (λ s ys bs g. up_to-sound mode n s ys r bs g) o.2

  up_to-complete : (mode : Mode) (n : ℕ) (o : List ℕ) (xs : List X) (r : List ℕ) → length o < n
      → NoneNext (is tag) r → Items (G mode) o xs
      → up_to n (optional tag p) mode (o ++ r) ≡ Some (xs, r)
  unfolding up_to
  up_to-complete mode zero o xs r lt er h = absurd (omega (arith, lt))
  up_to-complete mode (suc n) o [] r lt er h = rw h (rw er.0 refl)
  up_to-complete mode (suc n) o (x ∷ xs) r lt er h =
      let long = starts-long (is tag) h.0 (e.starts mode h.0 x h.3) in
      let len : length o ≡ length (h.0 ++ h.1) = ap length h.2 in
      let less : length h.1 < n = omega (arith, lt, long, len, length-append h.0 h.1) in
      let one : optional tag p mode (h.0 ++ (h.1 ++ r)) ≡ Some (Some x, h.1 ++ r) =
      optional-there tag e mode h.0 x (h.1 ++ r) h.3 in
      let more : up_to n (optional tag p) mode (h.1 ++ r) ≡ Some (xs, r) =
      up_to-complete mode n h.1 xs r less er h.4 in
      rw h.2 (rw (append_assoc h.0 h.1 r, one, more) refl)

  -- values with this tag, one after the other
  pub items : IsPart (is tag) (is tag) (items_at tag p) (λ mode. Items (G mode))
  unfolding many
  items = record {
    exact = λ mode. record {
      sound = λ b xs r bytes h. up_to-sound mode (suc (length b)) b xs r bytes h;
      complete = λ o xs r er h. up_to-complete mode (suc (length (o ++ r))) o xs r
          (omega (arith, length-append o r)) er h;
    };
    starts = λ mode o xs h. items-start (is tag) (G mode) (e.starts mode) o xs h;
    relaxed = λ o xs h. items-as (G Der) (G Ber) e.relaxed o xs h;
  }

  -- SEQUENCE OF, SET OF and [n] IMPLICIT of these, by the tag about them
  pub list-of : (about : ℕ)
      → IsPart (is about) nothing (in_value about (items_at tag p))
      (λ mode o xs. Within mode about (λ c. Items (G mode) c xs) o)
  list-of about = in-tag about items

module _ {X : Type 0} {first : TagSet} {p : Parser X} {G : Mode → List ℕ → X → Type 0}
    (e : IsPart first nothing p G) where
  each-sound : (mode : Mode) (n : ℕ) (b : List ℕ) (xs : List X) → IsBytes b
      → each n p mode b ≡ Some xs → Items (G mode) b xs
  unfolding each
  each-sound mode n [] xs bytes h = let q : (let l : List X = [] in l) ≡ xs = some_is _ _ h in
      subst (λ (l : List X). Items (G mode) [] l) q refl
  each-sound mode zero (a ∷ b) xs bytes h =
      absurd (let never : (let o : Option (List X) = None in o) ≡ Some xs = h in cc)
  each-sound mode (suc n) (a ∷ b) xs bytes h =
      let u = bind_some (p mode (a ∷ b)) _ xs h in
      let v = bind_some (each n p mode u.0.1) _ xs u.2 in
      let q : (let l : List X = u.0.0 ∷ v.0 in l) ≡ xs = some_is _ _ v.2 in
      let f = (e.exact mode).sound (a ∷ b) u.0.0 u.0.1 bytes u.1 in
      let others = each-sound mode n u.0.1 v.0
      (IsBytes-right f.0 u.0.1 (subst IsBytes f.1 bytes)) v.1 in
      subst (λ (l : List X). Items (G mode) (a ∷ b) l) q (f.0, u.0.1, f.1, f.2, others)

  each-complete : (mode : Mode) (n : ℕ) (b : List ℕ) (xs : List X) → length b ≤ n
      → Items (G mode) b xs → each n p mode b ≡ Some xs
  unfolding each
  each-complete mode n b [] le h = rw h refl
  each-complete mode zero b (x ∷ xs) le h =
      let long = starts-long first h.0 (e.starts mode h.0 x h.3) in
      let len : length b ≡ length (h.0 ++ h.1) = ap length h.2 in
      absurd (omega (arith, le, long, len, length-append h.0 h.1))
  each-complete mode (suc n) b (x ∷ xs) le h =
      let s = e.starts mode h.0 x h.3 in
      let here : b ≡ s.0 ∷ (s.1 ++ h.1) = h.2 ∙ ap (λ (t : List ℕ). t ++ h.1) s.2 in
      let one : p mode (s.0 ∷ (s.1 ++ h.1)) ≡ Some (x, h.1) =
      subst (λ (t : List ℕ). p mode (t ++ h.1) ≡ Some (x, h.1)) s.2
      ((e.exact mode).complete h.0 x h.1 tt h.3) in
      let len : length b ≡ suc (length (s.1 ++ h.1)) = ap length here in
      let more : each n p mode h.1 ≡ Some xs =
      each-complete mode n h.1 xs (omega (arith, le, len, length-append s.1 h.1)) h.4 in
      rw here (rw (one, more) refl)

  -- values one after the other, to the end
  pub all-items : IsPart first every (all_at p) (λ mode. Items (G mode))
  unfolding all_of
  all-items = record {
    exact = λ mode. record {
      sound = λ b xs r bytes h.
          let u = bind_some (each (length b) p mode b) _ (xs, r) h in
          let q : (let t : List X × List ℕ = (u.0, []) in t) ≡ (xs, r) = some_is _ _ u.2 in
          let end : b ≡ b ++ r = sym (append-nil b) ∙ ap (λ (t : List X × List ℕ). b ++ t.1) q in (
            b,
            end,
            subst (λ (t : List X × List ℕ). Items (G mode) b t.0) q
                (each-sound mode (length b) b u.0 bytes u.1),
          );
      complete = λ o xs r er h.
          let all : each (length o) p mode o ≡ Some xs =
          each-complete mode (length o) o xs (omega arith) h in
          let same : o ++ r ≡ o = ap (λ (t : List ℕ). o ++ t) er ∙ append-nil o in
          rw (same, er, all) refl;
    };
    starts = λ mode o xs h. items-start first (G mode) (e.starts mode) o xs h;
    relaxed = λ o xs h. items-as (G Der) (G Ber) e.relaxed o xs h;
  }

-- what is known of each item is known of all
pub items-all : {X : Type 0} (G : List ℕ → X → Type 0) (P : X → Type 0)
    → ((o : List ℕ) (x : X) → G o x → P x) → (o : List ℕ) (xs : List X) → Items G o xs → All P xs
items-all G P f o [] h = All-nil P
items-all G P f o (x ∷ xs) h = All-cons P x xs (f h.0 x h.3) (items-all G P f h.1 xs h.4)

-- the items of octets are octets
pub items-bytes : {X : Type 0} (G : List ℕ → X → Type 0) (o : List ℕ) (xs : List X) → IsBytes o
    → Items G o xs → Items (λ p x. IsBytes p × G p x) o xs
items-bytes G o [] bytes h = h
items-bytes G o (x ∷ xs) bytes h =
    let parts : IsBytes (h.0 ++ h.1) = subst IsBytes h.2 bytes in (
      h.0,
      h.1,
      h.2,
      (IsBytes-left h.0 h.1 parts, h.3),
      items-bytes G h.1 xs (IsBytes-right h.0 h.1 parts) h.4,
    )

-- the items of one list, and after them those of another
pub items-join : {X : Type 0} (G : List ℕ → X → Type 0) (o p : List ℕ) (xs ys : List X)
    → Items G o xs → Items G p ys → Items G (o ++ p) (xs ++ ys)
items-join G o p [] ys h k = rw h k
items-join G o p (x ∷ xs) ys h k = (
  h.0,
  h.1 ++ p,
  ap (λ (t : List ℕ). t ++ p) h.2 ∙ append_assoc h.0 h.1 p,
  h.3,
  items-join G h.1 p xs ys h.4 k,
)

-- ---- what is known besides

-- what follows from the form
pub also : {X : Type 0} {first apart : TagSet} {p : Parser X} {G : Mode → List ℕ → X → Type 0}
    {T : X → Type 0} → IsPart first apart p G
    → ((mode : Mode) (o : List ℕ) (x : X) → G mode o x → T x)
    → IsPart first apart p (λ mode o x. G mode o x × T x)
also e tells = part-as e (λ mode o x g. (g, tells mode o x g)) (λ mode o x g. g.0)

-- what follows besides
pub and-also : {X : Type 0} {first apart : TagSet} {p : Parser X} {G : Mode → List ℕ → X → Type 0}
    {T U : X → Type 0} → IsPart first apart p (λ mode o x. G mode o x × T x)
    → ((mode : Mode) (o : List ℕ) (x : X) → G mode o x → U x)
    → IsPart first apart p (λ mode o x. G mode o x × (T x × U x))
and-also e tells = part-as e (λ mode o x h. (h.0, (h.1, tells mode o x h.0)))
    (λ mode o x h. (h.0, h.1.0))

-- what is tested of the contents is known of the value
pub out-of : {X : Type 0} {first apart : TagSet} {p : Parser X} {G : Mode → List ℕ → X → Type 0}
    {T : X → Type 0} {tag : ℕ}
    → IsPart first apart p (λ mode o x. Within mode tag (λ c. G mode c x × T x) o)
    → IsPart first apart p (λ mode o x. Within mode tag (λ c. G mode c x) o × T x)
out-of e = part-as e (λ mode o x h. ((h.0, h.1, h.2.0), h.2.1))
    (λ mode o x h. (h.0.0, h.0.1, (h.0.2, h.1)))
