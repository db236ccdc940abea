-- Contents of primitive values are understood exactly.
use Rattle.std.proofs.Common.{◌≡◌, ℕ, zero, suc, ◌<◌, ◌-◌, Bool, true, false, cond, eqb, ltb}
use Rattle.std.proofs.Common.{get_or, List, [], ◌∷◌, length, Some, None, refl, sym, ap}
use Rattle.std.proofs.Common.{subst, ◌∙◌, arith, inl, inr}
use Rattle.std.specs.Prelude.{All, nat_lt, nat_eq}
use Rattle.std.specs.List.{list_all}
use Rattle.std.specs.Str.{bytes_eq}
use Rattle.std.proofs.lemmas.Option.{cond_some}
use Rattle.std.proofs.lemmas.Slice.Eq.{bytes_eq-Decides}
use Rattle.std.proofs.lemmas.Bool.{eqb-true, eqb-false, eq-eqb, ne_eqb, ltb-true, lt-ltb, and_parts}
use Rattle.rpki_der.specs.declared.mode.Mode.{Mode}
use Rattle.rpki_der.specs.declared.mode.Mode.TheVariants.{Der, Ber}
use Rattle.rpki_der.specs.Oid.{IsOid, is_oid}
use Rattle.rpki_der.specs.Bits.{IsBits, are_bits}
use Rattle.rpki_der.specs.Read.Parse.{boolean_of, null_of, oid_of, these, bits_of, whole_octets_of}
use Rattle.rpki_der.specs.Read.Parse.{ia5_of}
use Rattle.rpki_der.specs.Grammar.{IsBoolean, IsBitString}
use Rattle.rpki_der.proofs.Reading.Lengths.{chosen, some_is}
use Rattle.rpki_der.proofs.Reading.Exact.{IsExactContents}
use Rattle.rpki_der.proofs.Writing.Strings.{are-bits}
use Rattle.rpki_der.proofs.Reading.Scan.{none-is}

-- the name of std's lemma in the crates above
pub guarded : {X : Type 0} (test : Bool) (x y : X) → cond test (Some x) None ≡ Some y
    → (test ≡ true) × (x ≡ y)
guarded = cond_some

-- ---- BOOLEAN

boolean-sound : (mode : Mode) (c : List ℕ) (b : Bool) → boolean_of mode c ≡ Some b
    → IsBoolean mode c b
unfolding boolean_of
boolean-sound Der [] b e = absurd (none-is b e)
boolean-sound Ber [] b e = absurd (none-is b e)
boolean-sound Der (x ∷ []) b e =
    elim (chosen (nat_eq x 0) (Some false) _ (Some b) e) [
      | inl h ↦ let zero-is : x ≡ 0 = eqb-true _ _ h.0 in
          inl (ap (λ (n : ℕ). n ∷ []) zero-is, sym (some_is _ _ h.1))
      | inr h ↦ let g = cond_some (nat_eq x 255) true b h.1 in
          let is : x ≡ 255 = eqb-true _ _ g.0 in
          inr (ap (λ (n : ℕ). n ∷ []) is, sym g.1)
    ]
boolean-sound Ber (x ∷ []) b e =
    elim (chosen (nat_eq x 0) (Some false) _ (Some b) e) [
      | inl h ↦ (x, refl, inl (eqb-true _ _ h.0, sym (some_is _ _ h.1)))
      | inr h ↦ (x, refl, inr (eqb-false _ _ h.0, sym (some_is _ _ h.1)))
    ]
boolean-sound Der (x ∷ y ∷ c) b e = absurd (none-is b e)
boolean-sound Ber (x ∷ y ∷ c) b e = absurd (none-is b e)

boolean-complete : (mode : Mode) (c : List ℕ) (b : Bool) → IsBoolean mode c b
    → boolean_of mode c ≡ Some b
unfolding boolean_of
boolean-complete Der c b (inl h) = rw (h.0, h.1) refl
boolean-complete Der c b (inr h) = rw (h.0, h.1) refl
boolean-complete Ber c b h =
    elim h.2 [
      | inl k ↦ rw (h.1, k.0, k.1) refl
      | inr k ↦ let f : nat_eq h.0 0 ≡ false = ne_eqb _ _ k.0 in rw (h.1, f, k.1) refl
    ]

pub exact-boolean : (mode : Mode) → IsExactContents (boolean_of mode) (IsBoolean mode)
exact-boolean mode = record {
  sound = λ c b _ e. boolean-sound mode c b e;
  complete = λ c b h. boolean-complete mode c b h;
}

-- what DER takes BER takes
pub boolean-ber : (c : List ℕ) (b : Bool) → IsBoolean Der c b → IsBoolean Ber c b
boolean-ber c b (inl h) = (0, h.0, inl (refl, h.1))
boolean-ber c b (inr h) = (255, h.0, inr ((λ e. cc), h.1))

-- ---- NULL

null-sound : (c : List ℕ) (x : Unit {0}) → null_of c ≡ Some x → c ≡ []
unfolding null_of
null-sound [] x e = refl
null-sound (b ∷ c) x e = absurd (none-is x e)

pub exact-null : IsExactContents null_of (λ c (_ : Unit {0}). c ≡ [])
unfolding null_of
exact-null = record { sound = λ c x _ e. null-sound c x e; complete = λ c x h. rw h refl }

-- ---- OBJECT IDENTIFIER

both : (a b : Bool) → cond a b false ≡ true → (a ≡ true) × (b ≡ true)
both true b e = (refl, e)
both false b e = absurd cc

oid-test : (c : List ℕ) → is_oid c ≡ true → IsOid c
oid-test c e = let g = both (ltb 0 (length c)) _ e in (ltb-true _ _ g.0, ltb-true _ _ g.1)

oid-tested : (c : List ℕ) → IsOid c → is_oid c ≡ true
oid-tested c h = let p : ltb 0 (length c) ≡ true = lt-ltb _ _ h.0 in
    let q : ltb (get_or c (length c - 1) 0) 128 ≡ true = lt-ltb _ _ h.1 in rw (p, q) refl

pub exact-oid : IsExactContents oid_of (λ c oid. (c ≡ oid) × IsOid oid)
unfolding oid_of
exact-oid = record {
  sound = λ c oid _ e. let g = cond_some (is_oid c) c oid e in
      (g.1, subst IsOid g.1 (oid-test c g.0));
  complete = λ c oid h. let t : is_oid oid ≡ true = oid-tested oid h.1 in rw (h.0, t) refl;
}

-- ---- BIT STRING

bits-test : (octets : List ℕ) (unused : ℕ) → are_bits octets unused ≡ true → IsBits octets unused
bits-test octets unused e =
    let g = both (ltb unused 8) (cond (eqb (length octets) 0) (eqb unused 0) true) e in
    record {
      few = ltb-true _ _ g.0;
      none = λ z. let t : eqb (length octets) 0 ≡ true = eq-eqb _ _ z
          in eqb-true _ _ (rw t at g.1);
    }

bits-where : (t : Bool) (octets : List ℕ) (unused : ℕ) → eqb (length octets) 0 ≡ t
    → IsBits octets unused → cond t (eqb unused 0) true ≡ true
bits-where true octets unused e h = eq-eqb _ _ (h.none (eqb-true _ _ e))
bits-where false octets unused e h = refl

pub bits-sound : (c : List ℕ) (bits : List ℕ × ℕ) → bits_of c ≡ Some bits → IsBitString c bits
unfolding bits_of
bits-sound [] bits e = absurd (none-is bits e)
bits-sound (u ∷ octets) bits e =
    let g = cond_some (are_bits octets u) (octets, u) bits e in (
      ap (λ (b : List ℕ × ℕ). b.1 ∷ b.0) g.1,
      subst (λ (b : List ℕ × ℕ). IsBits b.0 b.1) g.1 (bits-test octets u g.0),
    )

bits-complete : (c : List ℕ) (bits : List ℕ × ℕ) → IsBitString c bits → bits_of c ≡ Some bits
unfolding bits_of
bits-complete c bits h = let t : are_bits bits.0 bits.1 ≡ true = are-bits bits.0 bits.1 h.1 in
    rw (h.0, t) refl

pub exact-bits : IsExactContents bits_of IsBitString
unfolding bits_of
exact-bits = record {
  sound = λ c bits _ e. bits-sound c bits e;
  complete =
      λ c bits h. bits-complete c bits h;
}

-- ---- IA5String

ia5-at : (c : List ℕ) → list_all (λ b. nat_lt b 128) c ≡ true → (k d : ℕ) → k < length c
    → get_or c k d < 128
ia5-at [] e k d lt = absurd (omega arith)
ia5-at (x ∷ c) e zero d lt = let g = and_parts (ltb x 128) _ e in ltb-true _ _ g.0
ia5-at (x ∷ c) e (suc k) d lt = let g = and_parts (ltb x 128) _ e in ia5-at c g.1 k d (omega arith)

ia5-tested : (c : List ℕ) → ((k d : ℕ) → k < length c → get_or c k d < 128)
    → list_all (λ b. nat_lt b 128) c ≡ true
ia5-tested [] h = refl
ia5-tested (x ∷ c) h =
    let here : ltb x 128 ≡ true = lt-ltb _ _ (h 0 0 (omega arith)) in
    let others : list_all (λ b. nat_lt b 128) c ≡ true =
    ia5-tested c (λ k d lt. h (suc k) d (omega arith)) in
    rw (here, others) refl

pub exact-ia5 : IsExactContents ia5_of (λ c text. (c ≡ text) × All (λ b. b < 128) text)
unfolding ia5_of
exact-ia5 = record {
  sound = λ c text _ e. let g = cond_some (list_all (λ b. nat_lt b 128) c) c text e in
      (g.1, subst (λ (t : List ℕ). All (λ b. b < 128) t) g.1 (ia5-at c g.0));
  complete = λ c text h. let t : list_all (λ b. nat_lt b 128) text ≡ true = ia5-tested text h.1 in
      rw (h.0, t) refl;
}

-- ---- given contents

pub exact-these : (oid : List ℕ) → IsOid oid
    → IsExactContents (these oid) (λ c (_ : Unit {0}). (c ≡ oid) × IsOid oid)
unfolding these
exact-these oid is = record {
  sound = λ c x _ e. let g = cond_some (bytes_eq c oid) tt x e in
      ((bytes_eq-Decides c oid).0 g.0, is);
  complete = λ c x h. let t : bytes_eq c oid ≡ true = (bytes_eq-Decides c oid).1 h.0 in rw t refl;
}

-- ---- a BIT STRING all of whose bits are used

whole-sound : (c string : List ℕ) → whole_octets_of c ≡ Some string → IsBitString c (string, 0)
unfolding whole_octets_of
whole-sound [] string e = absurd (none-is string e)
whole-sound (unused ∷ octets) string e =
    let g = cond_some (eqb unused 0) octets string e in
    let none : unused ≡ 0 = eqb-true _ _ g.0 in (
      ap (λ (n : ℕ). n ∷ octets) none
          ∙ ap (λ (t : List ℕ). 0 ∷ t) g.1,
      record { few = omega arith; none = λ _. refl },
    )

pub exact-whole : IsExactContents whole_octets_of (λ c string. IsBitString c (string, 0))
unfolding whole_octets_of
exact-whole = record {
  sound = λ c string _ e. whole-sound c string e;
  complete =
      λ c string h. rw h.0 refl;
}
