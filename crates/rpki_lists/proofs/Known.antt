-- What is known to be in front is read without a test.
use Rattle.std.proofs.Common.{◌≡◌, ℕ, ◌<◌, ◌≤◌, Bool, true, false, cond, eqb, ltb, get_or}
use Rattle.std.proofs.Common.{List, [], ◌∷◌, length, take, drop, Option, Some, None, refl, arith}
use Rattle.std.specs.Prelude.{IsSome, nat_lt}
use Rattle.std.specs.List.{list_all}
use Rattle.std.proofs.lemmas.Bool.{lt-ltb, ltb-false, ne_eqb}
use Rattle.rpki_der.specs.Bits.{are_bits}
use Rattle.rpki_der.specs.Identifier.{is_tag}
use Rattle.rpki_der.specs.Tags.{BIT_STRING, IA5_STRING}
use Rattle.rpki_der.specs.declared.mode.Mode.TheVariants.{Der}
use Rattle.rpki_der.specs.Read.Parse.{Parser, ◌>>=◌, value_at, body_at, contents_at, length_at}
use Rattle.rpki_der.specs.Read.Parse.{bits_at, bits_of, ia5_at, ia5_of, whole, in_value}
use Rattle.rpki_der.specs.Read.Parse.{some_of, is_next, optional, tested}
use Rattle.rpki_lists.specs.Slice.{IsFound}

-- ---- what is found, where it is known that something is

pub there : {A B : Type 0} (o : Option A) (f : A → Option B) → IsSome (o >>= f) → IsSome o
there (Some x) f h = refl
there None f h = absurd cc

pub none-there : {A : Type 0} (o : Option A) → IsSome o → o ≡ None → ⊥
none-there (Some x) h e = cc
none-there None h e = cc

whole-there : {X : Type 0} (o : Option (X × List ℕ)) → IsSome (whole o) → IsSome o
whole-there (Some x) h = refl
whole-there None h = absurd cc

some_of-there : {X : Type 0} (o : Option (X × List ℕ)) → IsSome (some_of o) → IsSome o
some_of-there (Some x) h = refl
some_of-there None h = absurd cc

some_of-known : {X : Type 0} (o : Option (X × List ℕ)) → IsSome o → IsSome (some_of o)
some_of-known (Some x) h = refl
some_of-known None h = absurd cc

passed : {X : Type 0} (t : Bool) (x : X) → IsSome (cond t (Some x) None)
    → cond t (Some x) None ≡ Some x
passed true x h = refl
passed false x h = absurd cc

-- ---- a value whose length takes one octet

pub record Short (tag : ℕ) (b : List ℕ) (len : ℕ) : Type 0 where
  pub room : len ≤ length (drop 2 b)
  pub is : value_at tag Der b ≡ Some (take len (drop 2 b), drop len (drop 2 b))

by-tests : (a b c : Bool) (x : List ℕ × List ℕ)
    → IsSome (cond a (cond b (cond c None (Some x)) None) None)
    → (c ≡ false) × (cond a (cond b (cond c None (Some x)) None) None ≡ Some x)
by-tests true true false x h = (refl, refl)
by-tests true true true x h = absurd cc
by-tests true false c x h = absurd cc
by-tests false b c x h = absurd cc

no-length : (a : Bool) → IsSome (cond a (let n : Option (List ℕ × List ℕ) = None in n) None) → ⊥
no-length true h = cc
no-length false h = cc

pub two-octets : (tag : ℕ) (b : List ℕ) → IsFound (value_at tag) b → 2 ≤ length b
unfolding value_at body_at
two-octets tag [] h = absurd cc
two-octets tag (t ∷ []) h = absurd (no-length (eqb t tag) h)
two-octets tag (t ∷ l ∷ bytes) h = omega arith

pub short : (tag : ℕ) (b : List ℕ) → IsFound (value_at tag) b → get_or b 1 0 < 128
    → Short tag b (get_or b 1 0)
unfolding value_at body_at contents_at length_at
short tag [] h lt = absurd cc
short tag (t ∷ []) h lt = absurd (no-length (eqb t tag) h)
short tag (t ∷ l ∷ bytes) h lt =
    let small : l < 128 = lt in
    let below : ltb l 128 ≡ true = lt-ltb _ _ small in
    let other : eqb l 128 ≡ false = ne_eqb l 128 (λ e. omega (arith, small, e)) in
    let f = by-tests (eqb t tag) (is_tag tag) (ltb (length bytes) l) (take l bytes, drop l bytes)
    (rw (other, below) at h) in
    let le : l ≤ length bytes = ltb-false _ _ f.0 in
    record { room = le; is = rw (other, below) f.1 }

-- ---- a value whose contents are understood

-- the contents of a BIT STRING
pub record Bits (b contents rest : List ℕ) : Type 0 where
  pub some : 1 ≤ length contents
  pub is : bits_at Der b ≡ Some ((drop 1 contents, get_or contents 0 0), rest)

are-known : (t : Bool) (x : List ℕ × ℕ) (r : List ℕ)
    → IsSome (◌>>=◌ {B = (List ℕ × ℕ) × List ℕ} (cond t (Some x) None) (λ y. Some (y, r)))
    → ◌>>=◌ {B = (List ℕ × ℕ) × List ℕ} (cond t (Some x) None) (λ y. Some (y, r)) ≡ Some (x, r)
are-known true x r h = refl
are-known false x r h = absurd cc

no-bits : IsSome (let n : Option ((List ℕ × ℕ) × List ℕ) = None in n) → ⊥
no-bits h = cc

pub bits : (b c r : List ℕ) → IsFound bits_at b → value_at BIT_STRING Der b ≡ Some (c, r)
    → Bits b c r
unfolding bits_of
bits b [] r h e = absurd (no-bits (rw e at h))
bits b (u ∷ octets) r h e = record {
  some = omega arith;
  is = rw e (are-known (are_bits octets u) (octets, u) r (rw e at h));
}

-- what is found of a string, by whether it is one
abbrev found : (List ℕ → Bool) → List ℕ → List ℕ → Bool → Option (List ℕ × List ℕ)
found test s r t = ◌>>=◌ {B = List ℕ × List ℕ} (cond t (Some s) None) (λ x. Some (x, r))
    >>= λ (x : List ℕ × List ℕ). cond (test x.0) (Some x) None

all-passed : (test : List ℕ → Bool) (s r : List ℕ) (t : Bool) → IsSome (found test s r t)
    → found test s r t ≡ Some (s, r)
all-passed test s r true h = passed (test s) (s, r) h
all-passed test s r false h = absurd cc

-- an IA5String that passes a test
module _ (test : List ℕ → Bool) (b : List ℕ) (h : IsFound (tested test ia5_at) b) where
  pub string-in-front : IsFound (value_at IA5_STRING) b
  unfolding tested
  string-in-front = there (value_at IA5_STRING Der b) _ (there (ia5_at Der b) _ h)

  pub string-known : (s r : List ℕ) → value_at IA5_STRING Der b ≡ Some (s, r)
      → tested test ia5_at Der b ≡ Some (s, r)
  unfolding tested ia5_of
  string-known s r e =
      rw e (all-passed test s r (list_all (λ b. nat_lt b 128) s) (rw e at h))

-- ---- a value that holds others

module _ {X : Type 0} (tag : ℕ) (p : Parser X) (b : List ℕ) (h : IsFound (in_value tag p) b) where
  pub value-around : IsFound (value_at tag) b
  value-around = there (value_at tag Der b) _ h

  inside : (c r : List ℕ) → value_at tag Der b ≡ Some (c, r) → IsSome (whole (p Der c))
  inside c r e = there (whole (p Der c)) _ (rw e at h)

  pub front-within : (c r : List ℕ) → value_at tag Der b ≡ Some (c, r) → IsFound p c
  front-within c r e = whole-there (p Der c) (inside c r e)

  closed : (x : X) (r end : List ℕ) → IsSome (whole (Some (x, end)))
      → ◌>>=◌ {B = X × List ℕ} (whole (Some (x, end))) (λ y. Some (y, r)) ≡ Some (x, r)
  closed x r [] k = refl
  closed x r (a ∷ end) k = absurd cc

  pub read-within : (c r : List ℕ) (x : X) (end : List ℕ) → value_at tag Der b ≡ Some (c, r)
      → p Der c ≡ Some (x, end) → in_value tag p Der b ≡ Some (x, r)
  read-within c r x end e f = rw e (rw f (closed x r end (rw f at (inside c r e))))

-- ---- a value that may be there

module _ {X Y : Type 0} (tag : ℕ) (p : Parser X) (q : Parser Y) (b : List ℕ) where
  pub optional-in-front : (IsFound p b → IsFound q b) → IsFound (optional tag p) b
      → IsFound (optional tag q) b
  optional-in-front f h = of (is_next tag b) h
    where
      of : (t : Bool) → IsSome (cond t (some_of (p Der b)) (Some (None, b)))
          → IsSome (cond t (some_of (q Der b)) (Some (None, b)))
      of true k = some_of-known (q Der b) (f (some_of-there (p Der b) k))
      of false k = refl

-- what q reads where p is known to read, is what p reads
pub optional-known : {X : Type 0} (tag : ℕ) (p q : Parser X) (b : List ℕ) (o : Option X)
    (r : List ℕ) → IsFound (optional tag p) b
    → (IsFound p b → (x : X) (s : List ℕ) → q Der b ≡ Some (x, s) → p Der b ≡ Some (x, s))
    → optional tag q Der b ≡ Some (o, r) → optional tag p Der b ≡ Some (o, r)
optional-known {X} tag p q b o r h same e = of (is_next tag b) (q Der b) refl h e
  where
    of : (t : Bool) (u : Option (X × List ℕ)) → q Der b ≡ u
        → IsSome (cond t (some_of (p Der b)) (Some (None, b)))
        → cond t (some_of u) (Some (None, b)) ≡ Some (o, r)
        → cond t (some_of (p Der b)) (Some (None, b)) ≡ Some (o, r)
    of true (Some (x, s)) k j e = rw (same (some_of-there (p Der b) j) x s k) e
    of true None k j e = absurd cc
    of false u k j e = e
