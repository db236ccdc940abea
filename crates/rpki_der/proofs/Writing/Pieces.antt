-- the values of a slice, written one after another
use Rattle.std.proofs.Common.{◌≡◌, ℕ, ◌+◌, ◌<◌, ◌≤◌, List, [], ◌∷◌, ◌++◌, length, take, drop}
use Rattle.std.proofs.Common.{get_or, All, Option, Err, sym, subst, ap, ◌∙◌, arith}
use Rattle.std.specs.List.{flat_map}
use Rattle.std.specs.Io.KnownBytes.{Appends}
use Rattle.std.proofs.lemmas.List.{take-append-drop, flat_map_more}
use Rattle.std.proofs.lemmas.List.Concat.{flat_map-append}
use Rattle.std.proofs.lemmas.List.Folds.{length-flat_map-take}
use Rattle.std.proofs.lemmas.List.Elements.{All-more, All-get_or}
use Rattle.std.proofs.lemmas.Grind.{take_at_read}
use Rattle.rpki_der.specs.Write.Encode.{IsLenOf}
use Rattle.rpki_der.specs.Write.Sink.{AppendsFront}
use Rattle.rpki_der.specs.declared.encode.EncodeError.{EncodeError}
use Rattle.rpki_der.specs.declared.encode.EncodeError.TheVariants.{NotDer, TooLong, Io, Memory}
use Rattle.rpki_der.proofs.Writing.Taken.{AppendsFront-more, AppendsFront-after}

-- what holds of each holds of the element at an index
pub at_index : {T : Type 0} (P : T → Type 0) (xs : List T) (i : ℕ) (x : T) → i < length xs
    → x ≡ get_or xs i x → All P xs → P x
at_index P xs i x l e h = subst P (sym e) (All-get_or P xs i x l h)

pub one_more : {T : Type 0} (P : T → Type 0) (xs : List T) (i : ℕ) (x : T) → i < length xs
    → x ≡ get_or xs i x → All P (take i xs) → P x → All P (take (i + 1) xs)
one_more P xs i x l e h p = All-more P xs i x l h (subst P e p)

pub pieces_within : {T : Type 0} (f : T → List ℕ) (xs : List T) (i : ℕ) (x : T) → i < length xs
    → x ≡ get_or xs i x → length (flat_map f (take i xs)) + length (f x) ≤ length (flat_map f xs)
pieces_within f xs i x l e =
    subst (λ y. length (flat_map f (take i xs)) + length (f y) ≤ length (flat_map f xs)) (sym e)
    (length-flat_map-take f xs i x l)

-- a fault of one is a fault of all
pub each_fault : {T : Type 0} (f : T → List ℕ) (D S : T → Type 0) (xs : List T) (i : ℕ) (x : T)
    → i < length xs → x ≡ get_or xs i x → (e : EncodeError) → IsLenOf (D x) (S x) (f x) (Err e)
    → IsLenOf (All D xs) (All S xs) (flat_map f xs) (Err e)
each_fault f D S xs i x l e NotDer h = λ all. h (at_index D xs i x l e all)
each_fault f D S xs i x l e TooLong h =
    λ all. h (at_index S xs i x l e all.0, omega (arith, all.1, pieces_within f xs i x l e))
each_fault f D S xs i x l e Io h = h
each_fault f D S xs i x l e Memory h = h

pub pieces_more : {T : Type 0} (f : T → List ℕ) (xs : List T) (i : ℕ) (x : T) → i < length xs
    → x ≡ get_or xs i x → flat_map f (take (i + 1) xs) ≡ flat_map f (take i xs) ++ f x
pieces_more f xs i x l e =
    ap (flat_map f) ((take_at_read xs i x l).1 ∙ ap (λ y. take i xs ++ y ∷ []) (sym e))
    ∙ sym (flat_map_more f [] (take i xs) x)

-- a beginning of one, after those before it, is a beginning of all
pub each_begun : {T : Type 0} (f : T → List ℕ) (xs : List T) (i : ℕ) (x : T)
    (a b c : Option (List ℕ)) → i < length xs → x ≡ get_or xs i x
    → Appends a b (flat_map f (take i xs)) → AppendsFront b c (f x)
    → AppendsFront a c (flat_map f xs)
each_begun f xs i x a b c l e h k =
    let whole : flat_map f xs ≡ (flat_map f (take i xs) ++ f x) ++ flat_map f (drop (i + 1) xs) =
    ap (flat_map f) (sym (take-append-drop (i + 1) xs))
    ∙ flat_map-append f (take (i + 1) xs) (drop (i + 1) xs)
    ∙ ap (λ ys. ys ++ flat_map f (drop (i + 1) xs)) (pieces_more f xs i x l e) in
    rw whole (AppendsFront-more a c _ _ (AppendsFront-after a b c _ _ h k))
