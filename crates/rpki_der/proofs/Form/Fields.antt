-- A record is read exactly: the chain that has one line a field.
use Rattle.std.proofs.Common.{◌≡◌, ℕ, Bool, true, false, cond, List, [], ◌∷◌, ◌++◌, Some, None}
use Rattle.std.proofs.Common.{refl, sym, ap, subst, ◌∙◌, append_assoc, eq-eqb}
use Rattle.std.proofs.lemmas.List.{append-nil}
use Rattle.rpki_der.specs.declared.mode.Mode.{Mode}
use Rattle.rpki_der.specs.declared.mode.Mode.TheVariants.{Der, Ber}
use Rattle.rpki_der.specs.Read.Parse.{Parser, ◌>>=◌, in_value, is_next}
use Rattle.rpki_der.specs.Grammar.{IsBytes, Value, Within}
use Rattle.rpki_der.proofs.Reading.Lengths.{bind_some, some_is}
use Rattle.rpki_der.proofs.Reading.Exact.{IsBytes-right, exact-in}
use Rattle.rpki_der.proofs.Reading.Scan.{shape}
use Rattle.rpki_der.proofs.Reading.Unique.{value-ber}
use Rattle.rpki_der.specs.Form.Parts.{Parts}
use Rattle.rpki_der.specs.Form.Made.{Ignored}
use Rattle.rpki_der.specs.Form.Law.{TagSet, nothing, is, or, has, NoneNext, StartsIn, are_apart}
use Rattle.rpki_der.specs.Form.Law.{IsPart, AreParts}
use Rattle.rpki_der.proofs.Form.Apart.{none-next, starts-next, in-neither}

-- The next part F, which G tells of a field, and then the others. What G tells is T, and Known is
-- what was told before.
pub field-as : {X Y : Type 0} {first then apart : TagSet} {p : Parser X} {q : X → Parser Y}
    {G : Mode → List ℕ → X → Type 0} {F : Mode → Y → List ℕ → Type 0}
    {T : X → Type 0} {others : Mode → Y → List (List ℕ → Type 0)} {Known : Y → Type 0}
    (f : Y → X) → IsPart first apart p G
    → ((mode : Mode) (o : List ℕ) (x : X) → G mode o x → T x)
    → ((mode : Mode) (o : List ℕ) (y : Y) → Known y → G mode o (f y) → F mode y o)
    → ((mode : Mode) (o : List ℕ) (y : Y) → Known y → F mode y o → G mode o (f y))
    → ((x : X) → T x → AreParts then (q x) others (λ y. Known y × (x ≡ f y)))
    → are_apart apart then ≡ true
    → AreParts (or first then) (λ mode b. p mode b >>= λ u. q u.0 mode u.1)
    (λ mode y. F mode y ∷ others mode y) Known
field-as {X} {Y} {first} {then} {apart} {p} {q} {G} {F} {T} {others}
    {Known} f part tells to from rest free =
    record {
      exact = λ mode. record { sound = sound mode; complete = complete mode };
      starts =
          starts;
      relaxed = relaxed;
    }
  where
    sound : (mode : Mode) (b : List ℕ) (y : Y) (r : List ℕ) → IsBytes b
        → (p mode b >>= λ u. q u.0 mode u.1) ≡ Some (y, r)
        → (o : List ℕ) × (b ≡ o ++ r) × (Parts (F mode y ∷ others mode y) o × Known y)
    sound mode b y r bytes h =
        let s = bind_some (p mode b) (λ u. q u.0 mode u.1) (y, r) h in
        let a = (part.exact mode).sound b s.0.0 s.0.1 bytes s.1 in
        let after : IsBytes s.0.1 = IsBytes-right a.0 s.0.1 (subst IsBytes a.1 bytes) in
        let g = ((rest s.0.0 (tells mode a.0 s.0.0 a.2)).exact mode).sound s.0.1 y r after s.2 in
        let here : G mode a.0 (f y) = subst (λ (x : X). G mode a.0 x) g.2.1.1 a.2 in (
          a.0 ++ g.0,
          a.1 ∙ ap (λ (t : List ℕ). a.0 ++ t) g.1
              ∙ sym (append_assoc a.0 g.0 r),
          ((a.0, g.0, refl, to mode a.0 y g.2.1.0 here, g.2.0), g.2.1.0),
        )

    complete : (mode : Mode) (o : List ℕ) (y : Y) (r : List ℕ) → r ≡ []
        → Parts (F mode y ∷ others mode y) o × Known y
        → (p mode (o ++ r) >>= λ u. q u.0 mode u.1) ≡ Some (y, r)
    complete mode o y r er h =
        let k = h.0 in
        let here = from mode k.0 y h.1 k.3 in
        let more = rest (f y) (tells mode k.0 (f y) here) in
        let all : k.1 ≡ k.1 ++ r = sym (append-nil k.1) ∙ ap (λ (t : List ℕ). k.1 ++ t) (sym er) in
        let next : NoneNext apart (k.1 ++ r) =
        subst (NoneNext apart) all
        (none-next apart then free k.1
        (λ t out. more.starts mode k.1 y (h.1, refl) k.4 t out)) in
        let one : p mode (k.0 ++ (k.1 ++ r)) ≡ Some (f y, k.1 ++ r) =
        (part.exact mode).complete k.0 (f y) (k.1 ++ r) next here in
        let two : q (f y) mode (k.1 ++ r) ≡ Some (y, r) =
        (more.exact mode).complete k.1 y r er (k.4, (h.1, refl)) in
        rw k.2 (rw (append_assoc k.0 k.1 r, one) two)

    starts : (mode : Mode) (o : List ℕ) (y : Y) → Known y → Parts (F mode y ∷ others mode y) o
        → (tag : ℕ) → has (or first then) tag ≡ false → is_next tag o ≡ false
    starts mode o y known k tag out =
        let n = in-neither first then tag out in
        let here = from mode k.0 y known k.3 in
        let more = rest (f y) (tells mode k.0 (f y) here) in
        rw k.2 (starts-next first apart k.0 k.1 tag (part.starts mode k.0 (f y) here) n.0
        (more.starts mode k.1 y (known, refl) k.4 tag n.1))

    relaxed : (o : List ℕ) (y : Y) → Known y → Parts (F Der y ∷ others Der y) o
        → Parts (F Ber y ∷ others Ber y) o
    relaxed o y known k =
        let here = from Der k.0 y known k.3 in
        let more = rest (f y) (tells Der k.0 (f y) here) in (
          k.0,
          k.1,
          k.2,
          to Ber k.0 y known (part.relaxed k.0 (f y) here),
          more.relaxed k.1 y (known, refl) k.4,
        )

-- A field of the record, and then the others.
pub field : {X Y : Type 0} {first then apart : TagSet} {p : Parser X} {q : X → Parser Y} {G : Mode
    → List ℕ → X → Type 0} {others : Mode → Y → List (List ℕ → Type 0)} {Known : Y → Type 0}
    (f : Y → X) → IsPart first apart p G
    → ((x : X) → AreParts then (q x) others (λ y. Known y × (x ≡ f y)))
    → are_apart apart then ≡ true
    → AreParts (or first then) (λ mode b. p mode b >>= λ u. q u.0 mode u.1)
    (λ mode y. (λ o. G mode o (f y)) ∷ others mode y) Known
field {X} {Y} {first} {then} {apart} {p} {q} {G} {others} {Known} f part rest free =
    field-as {F = λ mode y o. G mode o (f y)} {T = λ _. Unit {0}} f part (λ _ _ _ _. tt)
    (λ _ _ _ _ g. g) (λ _ _ _ _ g. g) (λ x _. rest x) free

-- A part that tells nothing of the record, and then the others.
pub unseen : {X Y : Type 0} {first then apart : TagSet} {p : Parser X} {q : Parser Y} {G : Mode
    → List ℕ → X → Type 0} {F : Mode → List ℕ → Type 0} {others : Mode → Y → List (List ℕ → Type 0)}
    {Known : Y → Type 0}
    → IsPart first apart p G
    → ((mode : Mode) (o : List ℕ) (x : X) → G mode o x → F mode o)
    → ((mode : Mode) (o : List ℕ) → F mode o → (x : X) × G mode o x)
    → AreParts then q others Known → are_apart apart then ≡ true
    → AreParts (or first then) (λ mode b. p mode b >>= λ u. q mode u.1)
    (λ mode y. F mode ∷ others mode y) Known
unseen {X} {Y} {first} {then} {apart} {p} {q} {G} {F} {others} {Known} part to from rest free =
    record {
      exact = λ mode. record { sound = sound mode; complete = complete mode };
      starts =
          starts;
      relaxed = relaxed;
    }
  where
    sound : (mode : Mode) (b : List ℕ) (y : Y) (r : List ℕ) → IsBytes b
        → (p mode b >>= λ u. q mode u.1) ≡ Some (y, r)
        → (o : List ℕ) × (b ≡ o ++ r) × (Parts (F mode ∷ others mode y) o × Known y)
    sound mode b y r bytes h =
        let s = bind_some (p mode b) (λ u. q mode u.1) (y, r) h in
        let a = (part.exact mode).sound b s.0.0 s.0.1 bytes s.1 in
        let after : IsBytes s.0.1 = IsBytes-right a.0 s.0.1 (subst IsBytes a.1 bytes) in
        let g = (rest.exact mode).sound s.0.1 y r after s.2 in (
          a.0 ++ g.0,
          a.1 ∙ ap (λ (t : List ℕ). a.0 ++ t) g.1
              ∙ sym (append_assoc a.0 g.0 r),
          ((a.0, g.0, refl, to mode a.0 s.0.0 a.2, g.2.0), g.2.1),
        )

    complete : (mode : Mode) (o : List ℕ) (y : Y) (r : List ℕ) → r ≡ []
        → Parts (F mode ∷ others mode y) o × Known y
        → (p mode (o ++ r) >>= λ u. q mode u.1) ≡ Some (y, r)
    complete mode o y r er h =
        let k = h.0 in
        let here = from mode k.0 k.3 in
        let all : k.1 ≡ k.1 ++ r = sym (append-nil k.1) ∙ ap (λ (t : List ℕ). k.1 ++ t) (sym er) in
        let next : NoneNext apart (k.1 ++ r) =
        subst (NoneNext apart) all
        (none-next apart then free k.1 (λ t out. rest.starts mode k.1 y h.1 k.4 t out)) in
        let one : p mode (k.0 ++ (k.1 ++ r)) ≡ Some (here.0, k.1 ++ r) =
        (part.exact mode).complete k.0 here.0 (k.1 ++ r) next here.1 in
        let two : q mode (k.1 ++ r) ≡ Some (y, r) =
        (rest.exact mode).complete k.1 y r er (k.4, h.1) in
        rw k.2 (rw (append_assoc k.0 k.1 r, one) two)

    starts : (mode : Mode) (o : List ℕ) (y : Y) → Known y → Parts (F mode ∷ others mode y) o
        → (tag : ℕ) → has (or first then) tag ≡ false → is_next tag o ≡ false
    starts mode o y known k tag out =
        let n = in-neither first then tag out in
        let here = from mode k.0 k.3 in
        rw k.2 (starts-next first apart k.0 k.1 tag (part.starts mode k.0 here.0 here.1) n.0
        (rest.starts mode k.1 y known k.4 tag n.1))

    relaxed : (o : List ℕ) (y : Y) → Known y → Parts (F Der ∷ others Der y) o
        → Parts (F Ber ∷ others Ber y) o
    relaxed o y known k =
        let here = from Der k.0 k.3 in (
          k.0,
          k.1,
          k.2,
          to Ber k.0 here.0 (part.relaxed k.0 here.0 here.1),
          rest.relaxed k.1 y known k.4,
        )

-- A part that means one thing alone, and then the others.
pub fixed : {Y : Type 0} {first then apart : TagSet} {p : Parser (Unit {0})} {q : Parser Y}
    {F : Mode → List ℕ → Type 0} {others : Mode → Y → List (List ℕ → Type 0)} {Known : Y → Type 0}
    → IsPart first apart p (λ mode o _. F mode o) → AreParts then q others Known
    → are_apart apart then ≡ true
    → AreParts (or first then) (λ mode b. p mode b >>= λ u. q mode u.1)
    (λ mode y. F mode ∷ others mode y) Known
fixed part rest free = unseen part (λ _ _ _ g. g) (λ _ _ g. (tt, g)) rest free

-- A part whose meaning is left out, and then the others.
pub skipped : {X Y : Type 0} {first then apart : TagSet} {p : Parser X} {q : Parser Y} {G : Mode
    → List ℕ → X → Type 0} {others : Mode → Y → List (List ℕ → Type 0)} {Known : Y → Type 0}
    → IsPart first apart p G → AreParts then q others Known → are_apart apart then ≡ true
    → AreParts (or first then) (λ mode b. p mode b >>= λ u. q mode u.1)
    (λ mode y. Ignored (G mode) ∷ others mode y) Known
skipped part rest free = unseen part (λ _ _ x g. (x, g)) (λ _ _ g. g) rest free

-- A field of which T is known besides, from what is known of the record, and then the others, which
-- may use T.
pub field-if : {X Y : Type 0} {first then apart : TagSet} {p : Parser X} {q : X → Parser Y}
    {G : Mode → List ℕ → X → Type 0} {T : X → Type 0} {others : Mode → Y → List (List ℕ → Type 0)}
    {Known : Y → Type 0}
    (f : Y → X) → IsPart first apart p (λ mode o x. G mode o x × T x)
    → ((y : Y) → Known y → T (f y))
    → ((x : X) → T x → AreParts then (q x) others (λ y. Known y × (x ≡ f y)))
    → are_apart apart then ≡ true
    → AreParts (or first then) (λ mode b. p mode b >>= λ u. q u.0 mode u.1)
    (λ mode y. (λ o. G mode o (f y)) ∷ others mode y) Known
field-if {X} {Y} {first} {then} {apart} {p} {q} {G} {T} {others} {Known} f part known rest free =
    field-as {G = λ mode o x. G mode o x × T x} {F = λ mode y o. G mode o (f y)} {T = T} f part
    (λ _ _ _ h. h.1) (λ _ _ _ _ h. h.0) (λ _ _ y k g. (g, known y k)) rest free

-- A field whose form depends on an earlier one, e, which was x, and then the others.
pub field-on : {E X Y : Type 0} {first then apart : TagSet} {x : E} {p : Parser X} {q : X
    → Parser Y} {others : Mode → Y → List (List ℕ → Type 0)} {Known : Y → Type 0}
    (G : E → Mode → List ℕ → X → Type 0) (e : Y → E) (f : Y → X) → IsPart first apart p (G x)
    → ((y : Y) → Known y → x ≡ e y)
    → ((v : X) → AreParts then (q v) others (λ y. Known y × (v ≡ f y)))
    → are_apart apart then ≡ true
    → AreParts (or first then) (λ mode b. p mode b >>= λ u. q u.0 mode u.1)
    (λ mode y. (λ o. G (e y) mode o (f y)) ∷ others mode y) Known
field-on {E} {X} {Y} {first} {then} {apart} {x} {p} {q} {others}
    {Known} G e f part earlier rest free =
    field-as {F = λ mode y o. G (e y) mode o (f y)} {T = λ _. Unit {0}} f part (λ _ _ _ _. tt)
    (λ mode o y k g. subst (λ (t : E). G t mode o (f y)) (earlier y k) g)
    (λ mode o y k g. subst (λ (t : E). G t mode o (f y)) (sym (earlier y k)) g)
    (λ v _. rest v) free

-- A test of the fields before, which what is known of the record passes, and then the others.
pub guard : {Y : Type 0} {then : TagSet} {q : Parser Y} {others : Mode → Y → List (List ℕ → Type 0)}
    {Known : Y → Type 0}
    (test : Bool) → ((y : Y) → Known y → test ≡ true) → (test ≡ true → AreParts then q others Known)
    → AreParts then (λ mode b. cond test (q mode b) None) others Known
guard {Y} {then} {q} {others} {Known} true passes rest = let all = rest refl in
    record {
      exact = λ mode. record
          { sound = (all.exact mode).sound; complete = (all.exact mode).complete };
      starts =
          all.starts;
      relaxed = all.relaxed;
    }
guard {Y} {then} {q} {others} {Known} false passes rest = record {
  exact = λ mode. record {
    sound = λ b y r bytes h. absurd cc;
    complete =
        λ o y r er h. absurd (let out : false ≡ true = passes y h.1 in cc);
  };
  starts = λ mode o y known k tag out. absurd (let never : false ≡ true = passes y known in cc);
  relaxed = λ o y known k. absurd (let never : false ≡ true = passes y known in cc);
}

-- All fields of the record are known.
pub done : {Y : Type 0} {Known : Y → Type 0} (y : Y) → Known y → ((z : Y) → Known z → y ≡ z)
    → AreParts nothing (λ mode b. Some (y, b)) (λ mode z. []) Known
done {Y} {Known} y known alone = record {
  exact = λ mode. record {
    sound = λ b z r bytes h.
        let q : (let t : Y × List ℕ = (y, b) in t) ≡ (z, r) = some_is _ _ h in (
          [],
          ap (λ (t : Y × List ℕ). t.1) q,
          (refl, subst Known (ap (λ (t : Y × List ℕ). t.0) q) known),
        );
    complete = λ o z r er h. rw (h.0, alone z h.1) refl;
  };
  starts = λ mode o z known k tag out. rw k refl;
  relaxed = λ o z known k. k;
}

-- a value begins with its tag
pub starts-value : (mode : Mode) (tag : ℕ) (o c : List ℕ) → Value mode o tag c → StartsIn (is tag) o
starts-value mode tag o c v = let s = shape mode o tag c v in
    (tag, s.0 ++ (c ++ s.1), s.2, rw (eq-eqb tag tag refl) refl)

-- A value with this tag of which the parts are the contents, and the rest of what is known of them.
pub within-if : {Y : Type 0} {first : TagSet} {q : Parser Y} {parts : Mode → Y
    → List (List ℕ → Type 0)} {Known : Y → Type 0} (tag : ℕ)
    → AreParts first q parts Known
    → IsPart (is tag) nothing (in_value tag q)
    (λ mode o y. Within mode tag (Parts (parts mode y)) o × Known y)
within-if {Y} {first} {q} {parts} {Known} tag all = record {
  exact = λ mode.
      let e = exact-in tag q mode (λ c y. Parts (parts mode y) c × Known y) (all.exact mode) in
      record {
        sound = λ b y r bytes h. let g = e.sound b y r bytes h in
            (g.0, g.1, ((g.2.0, g.2.1, g.2.2.0), g.2.2.1));
        complete = λ o y r er h. e.complete o y r tt (h.0.0, h.0.1, (h.0.2, h.1));
      };
  starts = λ mode o y h. starts-value mode tag o h.0.0 h.0.1;
  relaxed = λ o y h. ((h.0.0, value-ber o tag h.0.0 h.0.1, all.relaxed h.0.0 y h.1 h.0.2), h.1);
}

-- a value with this tag of which the parts are the contents
pub within : {Y : Type 0} {first : TagSet} {q : Parser Y} {parts : Mode → Y
    → List (List ℕ → Type 0)} (tag : ℕ)
    → AreParts first q parts (λ _. Unit {0})
    → IsPart (is tag) nothing (in_value tag q)
    (λ mode o y. Within mode tag (Parts (parts mode y)) o)
within {Y} {first} {q} {parts} tag all =
    let e = within-if tag all in
    record {
      exact = λ mode. record {
        sound = λ b y r bytes h. let g = (e.exact mode).sound b y r bytes h in (g.0, g.1, g.2.0);
        complete = λ o y r er h. (e.exact mode).complete o y r er (h, tt);
      };
      starts = λ mode o y h. e.starts mode o y (h, tt);
      relaxed = λ o y h. (e.relaxed o y (h, tt)).0;
    }
