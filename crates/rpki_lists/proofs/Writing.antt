-- Entries, written one after another.
use Rattle.std.proofs.Common.{◌≡◌, ℕ, ◌+◌, ◌<◌, ◌≤◌, ◌^◌, List, [], ◌∷◌, ◌++◌, length, All}
use Rattle.std.proofs.Common.{Option, Result, Ok, Err, refl, sym, subst, ap, ◌∙◌, append_assoc}
use Rattle.std.proofs.Common.{arith}
use Rattle.std.specs.List.{flat_map}
use Rattle.std.specs.Io.KnownBytes.{Appends}
use Rattle.std.proofs.lemmas.List.{length-append}
use Rattle.std.proofs.lemmas.List.Elements.{All-head, All-tail, All-cons}
use Rattle.rpki_der.specs.Write.Encode.{IsLenOf}
use Rattle.rpki_der.specs.Write.Sink.{AppendsFront}
use Rattle.rpki_der.specs.declared.encode.EncodeError.{EncodeError}
use Rattle.rpki_der.specs.declared.encode.EncodeError.TheVariants.{NotDer, TooLong, Io, Memory}
use Rattle.rpki_der.proofs.Writing.Taken.{
  Appends-refl,
  Appends-trans,
  AppendsFront-more,
  AppendsFront-after,
}

-- the octets of those that are left, and what is known of the others
pub record LenSoFar {T : Type 0} (f : T → List ℕ) (S : T → Type 0) (all rest : List T)
    (total : ℕ) : Type 0 where
  pub len : total + length (flat_map f rest) ≡ length (flat_map f all)
  pub short : All S rest → All S all
  pub back : All S all → All S rest

pub len-none : {T : Type 0} (f : T → List ℕ) (S : T → Type 0) (all rest : List T) → rest ≡ all
    → LenSoFar f S all rest 0
len-none f S all rest e = rw e (record { len = omega arith; short = λ h. h; back = λ h. h })

pub len-more : {T : Type 0} (f : T → List ℕ) (S : T → Type 0) (all old rest : List T) (x : T)
    (total n : ℕ) → LenSoFar f S all old total → old ≡ x ∷ rest → n ≡ total + length (f x) → S x
    → LenSoFar f S all rest n
len-more f S all old rest x total n s e m p = record {
  len = omega (
    arith,
    m,
    s.len,
    ap (λ (l : List _). length (flat_map f l)) e,
    length-append (f x)
        (flat_map f rest),
  );
  short = λ h. s.short (rw e (All-cons S x rest p h));
  back = λ h. All-tail S x rest (rw e at s.back h);
}

pub len-within : {T : Type 0} (f : T → List ℕ) (S : T → Type 0) (all old rest : List T) (x : T)
    (total : ℕ) → LenSoFar f S all old total → old ≡ x ∷ rest
    → total + length (f x) ≤ length (flat_map f all)
len-within f S all old rest x total s e = omega (
  arith,
  s.len,
  ap (λ (l : List _). length (flat_map f l)) e,
  length-append (f x)
      (flat_map f rest),
)

pub len-head : {T : Type 0} (f : T → List ℕ) (S : T → Type 0) (all old rest : List T) (x : T)
    (total : ℕ) → LenSoFar f S all old total → old ≡ x ∷ rest → All S all → S x
len-head f S all old rest x total s e h = All-head S x rest (rw e at s.back h)

-- a fault of one is a fault of all
pub len-fault : (D1 S1 D S : Type 0) (one whole : List ℕ) (e : EncodeError) → D1 → (S → S1)
    → length one ≤ length whole → IsLenOf D1 S1 one (Err e) → IsLenOf D S whole (Err e)
len-fault D1 S1 D S one whole NotDer d s le h = absurd (h d)
len-fault D1 S1 D S one whole TooLong d s le h = λ f. h (s f.0, omega (arith, f.1))
len-fault D1 S1 D S one whole Io d s le h = absurd h
len-fault D1 S1 D S one whole Memory d s le h = absurd h

pub len-end : {T : Type 0} (f : T → List ℕ) (S : T → Type 0) (all rest : List T) (total : ℕ)
    → LenSoFar f S all rest total → rest ≡ []
    → (total ≡ length (flat_map f all)) × Unit {0} × All S all
len-end f S all rest total s e = (
  omega (
    arith,
    s.len,
    ap
        (λ (l : List _). length (flat_map f l)) e,
  ),
  tt,
  s.short (rw e (λ k d l. absurd (omega arith))),
)

-- where nothing forbids it, the length is found
pub no-fault : (D S : Type 0) (octets : List ℕ) (r : Result ℕ EncodeError) (e : EncodeError)
    → IsLenOf D S octets r → r ≡ Err e → D → S → length octets < 2 ^ 64 → ⊥
no-fault D S octets (Ok n) e h is d s lt = absurd cc
no-fault D S octets (Err NotDer) e h is d s lt = h d
no-fault D S octets (Err TooLong) e h is d s lt = h (s, lt)
no-fault D S octets (Err Io) e h is d s lt = h
no-fault D S octets (Err Memory) e h is d s lt = h

-- those before are written, and the others can be
pub record PutSoFar {T : Type 0} (f : T → List ℕ) (S : T → Type 0) (all rest : List T)
    (old now : Option (List ℕ)) : Type 0 where
  pub done : List ℕ
  pub taken : Appends old now done
  pub whole : done ++ flat_map f rest ≡ flat_map f all
  pub short : All S rest

pub put-none : {T : Type 0} (f : T → List ℕ) (S : T → Type 0) (all rest : List T)
    (old : Option (List ℕ)) → rest ≡ all → All S all → PutSoFar f S all rest old old
put-none f S all rest old e h = record {
  done = [];
  taken = Appends-refl old;
  whole = ap
      (flat_map f) e;
  short = rw e h;
}

pub put-short : {T : Type 0} (f : T → List ℕ) (S : T → Type 0) (all left rest : List T)
    (old now : Option (List ℕ)) (x : T) → PutSoFar f S all left old now → left ≡ x ∷ rest → S x
put-short f S all left rest old now x s e = All-head S x rest (rw e at s.short)

pub put-len : {T : Type 0} (f : T → List ℕ) (S : T → Type 0) (all left rest : List T)
    (old now : Option (List ℕ)) (x : T) → PutSoFar f S all left old now → left ≡ x ∷ rest
    → length (flat_map f all) < 2 ^ 64 → length (f x) < 2 ^ 64
put-len f S all left rest old now x s e lt =
    omega (
      arith,
      lt,
      ap (λ (l : List ℕ). length l) s.whole,
      length-append s.done
          (flat_map f left),
      ap (λ (l : List _). length (flat_map f l)) e,
      length-append (f x)
          (flat_map f rest),
    )

whole-is : {T : Type 0} (f : T → List ℕ) (all left rest : List T) (done : List ℕ) (x : T)
    → done ++ flat_map f left ≡ flat_map f all → left ≡ x ∷ rest
    → (done ++ f x) ++ flat_map f rest ≡ flat_map f all
whole-is f all left rest done x w e = append_assoc done (f x) (flat_map f rest)
    ∙ ap (λ (l : List _). done ++ flat_map f l) (sym e) ∙ w

pub put-more : {T : Type 0} (f : T → List ℕ) (S : T → Type 0) (all left rest : List T)
    (old now new : Option (List ℕ)) (x : T) (one : List ℕ) → PutSoFar f S all left old now
    → left ≡ x ∷ rest → one ≡ f x → Appends now new one → PutSoFar f S all rest old new
put-more f S all left rest old now new x one s e is a = record {
  done = s.done ++ f x;
  taken = Appends-trans old now new s.done (f x) s.taken (rw is at a);
  whole = whole-is f all left rest s.done x s.whole e;
  short = All-tail S x rest (rw e at s.short);
}

pub put-begun : {T : Type 0} (f : T → List ℕ) (S : T → Type 0) (all left rest : List T)
    (old now new : Option (List ℕ)) (x : T) (one : List ℕ) → PutSoFar f S all left old now
    → left ≡ x ∷ rest → one ≡ f x → AppendsFront now new one → AppendsFront old new (flat_map f all)
put-begun f S all left rest old now new x one s e is a =
    rw (← whole-is f all left rest s.done x s.whole e)
    (AppendsFront-more old new (s.done ++ f x) (flat_map f rest)
    (AppendsFront-after old now new s.done (f x) s.taken (rw is at a)))

pub put-end : {T : Type 0} (f : T → List ℕ) (S : T → Type 0) (all left : List T)
    (old now : Option (List ℕ)) → PutSoFar f S all left old now → left ≡ []
    → Appends old now (flat_map f all)
put-end f S all left old now s e = subst (λ (l : List ℕ). Appends old now l)
    (sym (nil s.done) ∙ ap (λ (l : List _). s.done ++ flat_map f l) (sym e) ∙ s.whole) s.taken
  where
    nil : (l : List ℕ) → l ++ [] ≡ l
    nil [] = refl
    nil (x ∷ l) = ap (λ (t : List ℕ). x ∷ t) (nil l)
