-- Places with one key agree on all of which the key is made.
use Rattle.std.proofs.Common.{◌≡◌, ℕ, zero, suc, ◌<◌, ◌+◌, ◌/◌, ◌%◌, ◌^◌, List, [], ◌∷◌, ◌++◌}
use Rattle.std.proofs.Common.{Option, None, Some, length, get_or, take, drop, refl, sym, ap, ◌∙◌}
use Rattle.std.proofs.Common.{subst, arith, append_assoc}
use Rattle.std.proofs.Math.Nat.{div-one, div-div-eq-div-mul, pow-suc, pow-succ', mod-eq_of_lt}
use Rattle.std.proofs.Math.Nat.{div-lt_iff_lt-mul}
use Rattle.std.proofs.lemmas.List.{take_at, drop_at, append-nil, flat_map_more, take_more}
use Rattle.std.specs.Int.{byte_at, bytes_high_first}
use Rattle.std.specs.List.{flat_map}
use Rattle.std.specs.Prelude.{Result, Ok, Err, OnOk, if◌then◌else◌}
use Rattle.std.specs.Result.{is_ok}
use Rattle.rpki_resources.specs.declared.block.Block.{Block}
use Rattle.rpki_certs.specs.Validate.{Sets}
use Rattle.rpki_relying_party.specs.declared.place.Place.{Place}
use Rattle.rpki_relying_party.specs.Place.{octets_of, part_of, uri_part, ends_of, set_part}
use Rattle.rpki_relying_party.specs.Place.{tbs_of, sets_part, key_of, AreAlike}

-- ---- numbers

byte-is : (k n : ℕ) → byte_at k n ≡ n / 256 ^ k % 256
byte-is zero n = ap (λ (m : ℕ). m % 256) (sym (div-one n))
byte-is (suc k) n = refl

length-bytes : (k n : ℕ) → length (bytes_high_first k n) ≡ k
length-bytes zero n = refl
length-bytes (suc k) n = ap suc (length-bytes k n)

length-octets : (k n : ℕ) → length (octets_of k n) ≡ suc k
unfolding octets_of
length-octets k n = ap suc (length-bytes k n)

head : (x y : ℕ) (xs ys : List ℕ) → x ∷ xs ≡ y ∷ ys → x ≡ y
head x y xs ys e = ap (λ (zs : List ℕ). get_or zs 0 0) e

tail : (x y : ℕ) (xs ys : List ℕ) → x ∷ xs ≡ y ∷ ys → xs ≡ ys
tail x y xs ys e = ap (λ (zs : List ℕ). drop 1 zs) e

joined : (a b : ℕ) → a / 256 ≡ b / 256 → a % 256 ≡ b % 256 → a ≡ b
joined a b e f = omega arith

above : (k n : ℕ) → n / 256 ^ k / 256 ≡ n / 256 ^ suc k
above k n =
    div-div-eq-div-mul n (256 ^ k) 256 ∙ ap (λ (m : ℕ). n / m) (sym (pow-suc 256 k))

same-from : (k m n : ℕ) → m / 256 ^ k ≡ n / 256 ^ k
    → bytes_high_first k m ≡ bytes_high_first k n → m ≡ n
same-from zero m n e f = sym (div-one m) ∙ e ∙ div-one n
same-from (suc k) m n e f =
    same-from k m n
    (joined (m / 256 ^ k) (n / 256 ^ k) (above k m ∙ e ∙ sym (above k n))
    (sym (byte-is k m)
    ∙ head (byte_at k m) (byte_at k n) (bytes_high_first k m) (bytes_high_first k n) f
    ∙ byte-is k n))
    (tail (byte_at k m) (byte_at k n) (bytes_high_first k m) (bytes_high_first k n) f)

same-number : (k m n : ℕ) → octets_of k m ≡ octets_of k n → m ≡ n
unfolding octets_of
same-number k m n e =
    same-from k m n
    (head (m / 256 ^ k) (n / 256 ^ k) (bytes_high_first k m) (bytes_high_first k n) e)
    (tail (m / 256 ^ k) (n / 256 ^ k) (bytes_high_first k m) (bytes_high_first k n) e)

-- a number that its octets hold is written in them
pub octets-are : (k n : ℕ) → 0 < 256 ^ k → n < 256 ^ suc k
    → bytes_high_first (suc k) n ≡ octets_of k n
unfolding octets_of
octets-are k n pos h =
    ap (λ (b : ℕ). b ∷ bytes_high_first k n)
    (byte-is k n
    ∙ mod-eq_of_lt ((div-lt_iff_lt-mul pos).1 (subst (λ (m : ℕ). n < m) (pow-succ' 256 k) h)))

-- octets that were written, if memory was there
pub put : {T E : Type 0} (r : Result T E) (old new octets want : List ℕ)
    → new ≡ (if is_ok r then old ++ octets else old) → octets ≡ want → OnOk r (new ≡ old ++ want)
put (Ok x) old new octets want e f = e ∙ ap (λ (xs : List ℕ). old ++ xs) f
put (Err x) old new octets want e f = tt

-- three parts were written, one after the other
pub put-three : {T E : Type 0} (r : Result T E) (k0 k1 k2 k3 a b c d : List ℕ) → k1 ≡ k0 ++ a
    → k2 ≡ k1 ++ b → OnOk r (k3 ≡ k2 ++ c) → c ≡ d → OnOk r (k3 ≡ k0 ++ (a ++ (b ++ d)))
put-three (Ok x) k0 k1 k2 k3 a b c d e f h s =
    h ∙ ap (λ (xs : List ℕ). k2 ++ xs) s
    ∙ ap (λ (xs : List ℕ). xs ++ d) (f ∙ ap (λ (xs : List ℕ). xs ++ b) e)
    ∙ append_assoc (k0 ++ a) b d ∙ append_assoc k0 a (b ++ d)
put-three (Err x) k0 k1 k2 k3 a b c d e f h s = tt

-- one more block was written
pub blocks-more : {T : Type 0} (f : Block T → List ℕ) (old now : List ℕ) (xs : List (Block T))
    (i : ℕ) (b : Block T) → i < length xs → b ≡ get_or xs i b
    → now ≡ old ++ flat_map f (take i xs) → now ++ f b ≡ old ++ flat_map f (take (i + 1) xs)
blocks-more {T} f old now xs i b l is e =
    ap (λ (ys : List ℕ). ys ++ f b) e ∙ flat_map_more f old (take i xs) b
    ∙ ap (λ (ys : List (Block T)). old ++ flat_map f ys)
    (ap (λ (c : Block T). take i xs ++ c ∷ []) is ∙ sym (take_more xs i b l))

-- ---- parts

front : {A : Type 0} (a b c d : List A) → length a ≡ length b → a ++ c ≡ b ++ d
    → (a ≡ b) × (c ≡ d)
front {A} a b c d l e = (
  sym (take_at a c (length a) refl) ∙ ap (λ (xs : List A). take (length a) xs) e
      ∙ take_at b d (length a) (sym l),
  sym (drop_at a c (length a) refl) ∙ ap (λ (xs : List A). drop (length a) xs) e
      ∙ drop_at b d (length a) (sym l),
)

number-front : (k m n : ℕ) (c d : List ℕ) → octets_of k m ++ c ≡ octets_of k n ++ d
    → (m ≡ n) × (c ≡ d)
number-front k m n c d e =
    let s = front (octets_of k m) (octets_of k n) c d
    (length-octets k m ∙ sym (length-octets k n)) e in
    (same-number k m n (s.0), s.1)

part-front : (a b c d : List ℕ) → part_of a ++ c ≡ part_of b ++ d → (a ≡ b) × (c ≡ d)
part-front a b c d e =
    let s = number-front 7 (length a) (length b) (a ++ c) (b ++ d)
    (sym (append_assoc (octets_of 7 (length a)) a c) ∙ e
    ∙ append_assoc (octets_of 7 (length b)) b d) in
    front a b c d (s.0) (s.1)

uri-front : (a b : Option (List ℕ)) (c d : List ℕ) → uri_part a ++ c ≡ uri_part b ++ d
    → (a ≡ b) × (c ≡ d)
uri-front None None c d e = (refl, tail 0 0 c d e)
uri-front None (Some b) c d e = absurd (omega (arith, head 0 1 c (part_of b ++ d) e))
uri-front (Some a) None c d e = absurd (omega (arith, head 1 0 (part_of a ++ c) d e))
uri-front (Some a) (Some b) c d e =
    let s = part-front a b c d (tail 1 1 (part_of a ++ c) (part_of b ++ d) e) in
    (ap Some (s.0), s.1)

-- the ends of the blocks, of which there are as many
abbrev ends : List (Block ℕ) → List ℕ
ends xs = flat_map (ends_of (λ (n : ℕ). n)) xs

block-as : (x : Block ℕ) (xs : List (Block ℕ)) (c : List ℕ)
    → ends (x ∷ xs) ++ c ≡ octets_of 15 x.min ++ (octets_of 15 x.max ++ (ends xs ++ c))
block-as x xs c =
    append_assoc (ends_of (λ (n : ℕ). n) x) (ends xs) c
    ∙ append_assoc (octets_of 15 x.min) (octets_of 15 x.max) (ends xs ++ c)

ends-front : (xs ys : List (Block ℕ)) (c d : List ℕ) → length xs ≡ length ys
    → ends xs ++ c ≡ ends ys ++ d → (xs ≡ ys) × (c ≡ d)
ends-front [] [] c d l e = (refl, e)
ends-front [] (y ∷ ys) c d l e = absurd (omega (arith, l))
ends-front (x ∷ xs) [] c d l e = absurd (omega (arith, l))
ends-front (x ∷ xs) (y ∷ ys) c d l e =
    let s = number-front 15 x.min y.min (octets_of 15 x.max ++ (ends xs ++ c))
    (octets_of 15 y.max ++ (ends ys ++ d))
    (sym (block-as x xs c) ∙ e ∙ block-as y ys d) in
    let t = number-front 15 x.max y.max (ends xs ++ c) (ends ys ++ d) (s.1) in
    let r = ends-front xs ys c d (omega (arith, l)) (t.1) in
    (λ i. record { min = s.0 i; max = t.0 i } ∷ r.0 i, r.1)

set-front : (xs ys : List (Block ℕ)) (c d : List ℕ)
    → set_part (λ (n : ℕ). n) xs ++ c ≡ set_part (λ (n : ℕ). n) ys ++ d → (xs ≡ ys) × (c ≡ d)
set-front xs ys c d e =
    let s = number-front 7 (length xs) (length ys) (ends xs ++ c) (ends ys ++ d)
    (sym (append_assoc (octets_of 7 (length xs)) (ends xs) c) ∙ e
    ∙ append_assoc (octets_of 7 (length ys)) (ends ys) d) in
    ends-front xs ys c d (s.0) (s.1)

-- ---- the key

four-as : (a b c d e : List ℕ) → (a ++ (b ++ (c ++ d))) ++ e ≡ a ++ (b ++ (c ++ (d ++ e)))
four-as a b c d e = simp append_assoc

three-as : (a b c : List ℕ) → a ++ (b ++ c) ≡ a ++ (b ++ (c ++ []))
three-as a b c = simp append-nil

same-sets : (s r : Sets) → sets_part s ≡ sets_part r
    → (s.as_numbers ≡ r.as_numbers) × (s.v4 ≡ r.v4) × (s.v6 ≡ r.v6)
same-sets s r e =
    let id : ℕ → ℕ = λ n. n in
    let f = sym (three-as (set_part id s.as_numbers) (set_part id s.v4) (set_part id s.v6)) ∙ e
    ∙ three-as (set_part id r.as_numbers) (set_part id r.v4) (set_part id r.v6) in
    let as_numbers = set-front s.as_numbers r.as_numbers
    (set_part id s.v4 ++ (set_part id s.v6 ++ []))
    (set_part id r.v4 ++ (set_part id r.v6 ++ [])) f in
    let v4 = set-front s.v4 r.v4 (set_part id s.v6 ++ []) (set_part id r.v6 ++ [])
    (as_numbers.1) in
    let v6 = set-front s.v6 r.v6 [] [] (v4.1) in
    (as_numbers.0, v4.0, v6.0)

pub same-key : (p q : Place) → key_of p ≡ key_of q → AreAlike p q
same-key p q e =
    let t = tbs_of p in
    let u = tbs_of q in
    let tl = t.extensions.locations.subject in
    let ul = u.extensions.locations.subject in
    let x = sets_part p.ca.sets in
    let y = sets_part q.ca.sets in
    let f = sym (four-as (part_of t.key) (part_of t.extensions.key.subject_key)
    (uri_part tl.ca_repository) (uri_part tl.rpki_manifest) x) ∙ e
    ∙ four-as (part_of u.key) (part_of u.extensions.key.subject_key)
    (uri_part ul.ca_repository) (uri_part ul.rpki_manifest) y in
    let key = part-front t.key u.key _ _ f in
    let identifier =
    part-front t.extensions.key.subject_key u.extensions.key.subject_key _ _ (key.1) in
    let folder = uri-front tl.ca_repository ul.ca_repository _ _ (identifier.1) in
    let manifest = uri-front tl.rpki_manifest ul.rpki_manifest x y (folder.1) in
    let sets = same-sets p.ca.sets q.ca.sets (manifest.1) in
    record {
      key = key.0;
      identifier = identifier.0;
      folder = folder.0;
      manifest = manifest.0;
      as_numbers = sets.0;
      v4 = sets.1;
      v6 = sets.2;
    }
