-- What stands at the front is unique, and what is there in DER is there in BER.
use Rattle.std.proofs.Common.{◌≡◌, ℕ, zero, suc, ◌-◌, List, [], ◌∷◌, ◌++◌, length, take, Option}
use Rattle.std.proofs.Common.{Some, None, refl, sym, ap, subst, ◌∙◌, arith, inl, inr}
use Rattle.std.proofs.lemmas.List.{take_at, length-append, append-nil}
use Rattle.rpki_der.specs.Tags.{INTEGER, OCTET_STRING}
use Rattle.rpki_der.specs.declared.mode.Mode.{Mode}
use Rattle.rpki_der.specs.declared.mode.Mode.TheVariants.{Der, Ber}
use Rattle.rpki_der.specs.Read.Parse.{Parser, primitive, captured, taken, any_at}
use Rattle.rpki_der.specs.Grammar.{IsBytes, IsUnique, Integer, Value, Within, definite, indefinite}
use Rattle.rpki_der.specs.Grammar.{Items, Skipped, OctetString}
use Rattle.rpki_der.specs.Read.Exact.{IsExact, IsReading, anything}
use Rattle.rpki_der.specs.Form.Law.{TagSet, nothing, IsPart}
use Rattle.rpki_der.proofs.Reading.Lengths.{bind_some, some_is, length-any}
use Rattle.rpki_der.proofs.Reading.Exact.{IsExactContents, exact-any, exact-primitive}

pub before : (a r : List ℕ) → take (length (a ++ r) - length r) (a ++ r) ≡ a
before a r =
    let n : length (a ++ r) - length r ≡ length a = omega (arith, length-append a r) in
    rw n (take_at a r (length a) refl)

pub unique : {X : Type 0} (p : List ℕ → Option (X × List ℕ)) (G : List ℕ → X → Type 0)
    → IsExact anything p G → IsUnique G
unique {X} p G e = λ a b x y r s g h same.
    let f : p (a ++ r) ≡ Some (x, r) = e.complete a x r tt g in
    let k : p (b ++ s) ≡ Some (y, s) = e.complete b y s tt h in
    let both : (let o : Option (X × List ℕ) = Some (x, r) in
    o) ≡ Some (y, s) = sym f ∙ ap p same ∙ k in
    let q : (let t : X × List ℕ = (x, r) in t) ≡ (y, s) = some_is _ _ both in
    let q1 : r ≡ s = ap (λ (t : X × List ℕ). t.1) q in
    let front : a ≡ b = sym (before a r) ∙ ap (λ (t : List ℕ). take (length t - length r) t) same
    ∙ ap (λ (t : List ℕ). take (length (b ++ s) - length t) (b ++ s)) q1 ∙ before b s in
    (front, ap (λ (t : X × List ℕ). t.0) q, q1)

-- a value in DER is one in BER
pub value-ber : (o : List ℕ) (t : ℕ) (c : List ℕ) → Value Der o t c → Value Ber o t c
value-ber o t c (definite _ _ _ l _ tag is e) =
    definite Ber o t l c tag (length-any Der l (length c) is) e
value-ber o t c (indefinite _ _ _ _ m tag cons vs e) = absurd (let no : Der ≡ Ber = m in cc)

pub integer-ber : (o : List ℕ) (n : ℕ) → Integer Der o n → Integer Ber o n
integer-ber o n h = (h.0, value-ber o INTEGER h.0 h.1, h.2)

pub items-as : {X : Type 0} (G H : List ℕ → X → Type 0) → ((o : List ℕ) (x : X) → G o x → H o x)
    → (o : List ℕ) (xs : List X) → Items G o xs → Items H o xs
items-as G H f o [] h = h
items-as G H f o (x ∷ xs) h = (h.0, h.1, h.2, f h.0 x h.3, items-as G H f h.1 xs h.4)

pub within-ber : (tag : ℕ) (G H : List ℕ → Type 0) → ((c : List ℕ) → G c → H c) → (o : List ℕ)
    → Within Der tag G o → Within Ber tag H o
within-ber tag G H f o h = (h.0, value-ber o tag h.0 h.1, f h.0 h.2)

pub skipped-ber : (depth : ℕ) (o : List ℕ) → Skipped Der depth o → Skipped Ber depth o
unfolding Skipped
skipped-ber zero o h = h
skipped-ber (suc depth) o h = (
  h.0,
  h.1,
  value-ber o h.0 h.1 h.2,
  λ cons. let l = h.3 cons in (
    l.0,
    items-as (λ o _. Skipped Der depth o) (λ o _. Skipped Ber depth o)
        (λ p _ k. skipped-ber depth p k) h.1 l.0 l.1,
  ),
)

pub octets-ber : (depth : ℕ) (o s : List ℕ) → OctetString Der depth o s → OctetString Ber depth o s
unfolding OctetString
octets-ber zero o s h = h
octets-ber (suc depth) o s (inl h) = inl (value-ber o OCTET_STRING s h)
octets-ber (suc depth) o s (inr h) = absurd (let no : Der ≡ Ber = h.0 in cc)

-- all that the grammar has is one value
abbrev pub IsOneValue : {X : Type 0} → (Mode → List ℕ → X → Type 0) → Type 0
IsOneValue {X} G = (mode : Mode) (o : List ℕ) (x : X) → G mode o x
    → (tag : ℕ) × (c : List ℕ) × Value mode o tag c

pub within-one : {X : Type 0} (tag : ℕ) (M : Mode → List ℕ → X → Type 0)
    → IsOneValue (λ mode o x. Within mode tag (λ c. M mode c x) o)
within-one tag M mode o x h = (tag, h.0, h.1)

pub skipped-one : (depth : ℕ) → IsOneValue (λ mode o (x : Unit {0}). Skipped mode depth o)
unfolding Skipped
skipped-one zero mode o x h = absurd h
skipped-one (suc depth) mode o x h = (h.0, h.1, h.2)

pub octets-one : (depth : ℕ) → IsOneValue (λ mode o s. OctetString mode depth o s)
unfolding OctetString
octets-one zero mode o s h = absurd h
octets-one (suc depth) mode o s (inl h) = (4, s, h)
octets-one (suc depth) mode o s (inr h) = (36, h.1, h.3)

pub bytes-both : (a b : List ℕ) → IsBytes a → IsBytes b → IsBytes (a ++ b)
bytes-both [] b h k = k
bytes-both (x ∷ a) b h k = (h.0, bytes-both a b h.1 k)

none-of : {X : Type 0} (o : Option X) → ((x : X) → o ≡ Some x → ⊥) → o ≡ None
none-of None h = refl
none-of (Some x) h = absurd (h x refl)

-- a whole value that is refused alone is refused whatever follows it
pub refused : {X : Type 0} (p : Parser X) (G : Mode → List ℕ → X → Type 0)
    → ((mode : Mode) → IsExact anything (p mode) (G mode)) → IsOneValue G
    → (mode : Mode) (octets contents more : List ℕ) (tag : ℕ) → IsBytes octets → IsBytes more
    → Value mode octets tag contents → p mode octets ≡ None → p mode (octets ++ more) ≡ None
refused {X} p G exact one mode octets contents more tag bytes others value none =
    none-of (p mode (octets ++ more)) (λ found e.
    let f = (exact mode).sound (octets ++ more) found.0 found.1
    (bytes-both octets more bytes others) e in
    let v = one mode f.0 found.0 f.2 in
    let same = unique (any_at mode) (λ o (w : ℕ × List ℕ). Value mode o w.0 w.1)
    (exact-any mode) f.0 octets (v.0, v.1) (tag, contents) found.1 more v.2 value (sym f.1) in
    let alone : p mode (f.0 ++ []) ≡ Some (found.0, []) =
    (exact mode).complete f.0 found.0 [] tt f.2 in
    let here : p mode octets ≡ Some (found.0, []) =
    subst (λ (o : List ℕ). p mode o ≡ Some (found.0, [])) (append-nil f.0 ∙ same.0) alone in
    let no : (let n : Option (X × List ℕ) = None in n) ≡ Some (found.0, []) = sym none ∙ here in
    cc)

-- what is read exactly, is in BER where it is in DER, and is one value
pub reading : {X : Type 0} (p : Parser X) (G : Mode → List ℕ → X → Type 0)
    → ((mode : Mode) → IsExact anything (p mode) (G mode))
    → ((o : List ℕ) (x : X) → G Der o x → G Ber o x) → IsOneValue G → IsReading p G
reading p G exact ber one =
    record {
      exact = exact;
      unique = λ mode. unique (p mode) (G mode) (exact mode);
      relaxed =
          ber;
      refused = refused p G exact one;
    }

-- a part of a form that is one value is a reading
pub part-reading : {X : Type 0} {first : TagSet} {p : Parser X} {G : Mode → List ℕ → X → Type 0}
    → IsPart first nothing p G → IsOneValue G → IsReading p G
part-reading {X} {first} {p} {G} e one = reading p G
    (λ mode. record {
      sound = (e.exact mode).sound;
      complete = λ o x r er h. (e.exact mode).complete o x r tt h;
    })
    e.relaxed one

-- a primitive value whose contents f understands alike in both modes
pub reading-primitive : {X : Type 0} (tag : ℕ) (f : List ℕ → Option X) (M : List ℕ → X → Type 0)
    → IsExactContents f M → IsReading (primitive tag f) (λ mode o x. Within mode tag (λ c. M c x) o)
reading-primitive tag f M e =
    reading (primitive tag f) (λ mode o x. Within mode tag (λ c. M c x) o)
    (λ mode. exact-primitive tag f mode M e)
    (λ o x h. within-ber tag (λ c. M c x) (λ c. M c x) (λ c k. k) o h) (within-one tag (λ mode. M))

-- what is captured of a reading are the octets that it found
abbrev pub Kept : {X : Type 0} → (Mode → List ℕ → X → Type 0) → Mode → List ℕ → List ℕ → Type 0
Kept {X} G mode octets o = (o ≡ octets) × (x : X) × G mode octets x

pub captured-exact : {X : Type 0} (p : Parser X) (G : Mode → List ℕ → X → Type 0) (mode : Mode)
    → IsExact anything (p mode) (G mode) → IsExact anything (captured p mode) (Kept G mode)
captured-exact {X} p G mode e = record {
  sound = λ source o rest bytes h.
      let v = bind_some (p mode source) _ (o, rest) h in
      let q : (let t : List ℕ × List ℕ = (taken source v.0.1, v.0.1) in
      t) ≡ (o, rest) = some_is _ _ v.2 in
      let f = e.sound source v.0.0 v.0.1 bytes v.1 in
      let all : taken source v.0.1 ≡ f.0 = ap (λ (t : List ℕ). taken t v.0.1) f.1
      ∙ before f.0 v.0.1 in
      let is : o ≡ f.0 = sym (ap (λ (t : List ℕ × List ℕ). t.0) q) ∙ all in
      let left : v.0.1 ≡ rest = ap (λ (t : List ℕ × List ℕ). t.1) q in
      (f.0, f.1 ∙ ap (λ (t : List ℕ). f.0 ++ t) left, (is, v.0.0, f.2));
  complete = λ front o rest _ h.
      let found : p mode (front ++ rest) ≡ Some (h.1, rest) = e.complete front h.1 rest tt h.2 in
      rw found (ap (λ (t : List ℕ). (let r : Option (List ℕ × List ℕ) = Some (t, rest) in r))
      (before front rest ∙ sym h.0));
}

pub captured-reading : {X : Type 0} (p : Parser X) (G : Mode → List ℕ → X → Type 0) → IsReading p G
    → IsOneValue G → IsReading (captured p) (Kept G)
captured-reading {X} p G e one =
    reading (captured p) (Kept G) (λ mode. captured-exact p G mode (e.exact mode))
    (λ octets o h. (h.0, h.1, e.relaxed octets h.1 h.2))
    (λ mode octets o h. one mode octets h.1 h.2)
