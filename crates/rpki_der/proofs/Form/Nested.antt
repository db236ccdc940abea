-- Strings that hold other values are read exactly.
use Rattle.std.proofs.Common.{◌≡◌, ℕ, zero, suc, List, [], ◌∷◌, ◌++◌, Option, Some, inl, inr}
use Rattle.std.proofs.Common.{refl, sym, subst, ◌∙◌}
use Rattle.std.proofs.lemmas.List.{append-nil}
use Rattle.rpki_der.specs.declared.mode.Mode.{Mode}
use Rattle.rpki_der.specs.declared.mode.Mode.TheVariants.{Der}
use Rattle.rpki_der.specs.Numbers.{MAX_DEPTH}
use Rattle.rpki_der.specs.Read.Parse.{Parser, octets_at}
use Rattle.std.specs.List.{concat}
use Rattle.rpki_der.specs.Grammar.{IsBytes, Value, BitString, OctetString, Items}
use Rattle.rpki_der.proofs.Reading.Lengths.{bind_some, some_is}
use Rattle.rpki_der.proofs.Reading.Exact.{IsBytes-left, IsBytes-right, IsBytes-contents, whole-some}
use Rattle.rpki_der.specs.Tags.{OCTET_STRING, OCTET_STRING_IN_PIECES}
use Rattle.rpki_der.specs.Form.Law.{TagSet, nothing, is, or, IsPart}
use Rattle.rpki_der.specs.Form.Made.{Begins, OctetStringHolding, BitStringHolding, understood}
use Rattle.rpki_der.specs.Form.Made.{front_of, all_read}
use Rattle.rpki_der.proofs.Form.Apart.{none-at-end}
use Rattle.rpki_der.proofs.Form.Words.{IsUnderstood, understand}
use Rattle.rpki_der.proofs.Form.Kinds.{octets-part}
use Rattle.rpki_der.proofs.Reading.Unique.{bytes-both}

-- ---- the octets of a string are octets

pub contents-bytes : (mode : Mode) (o : List ℕ) (tag : ℕ) (c : List ℕ) → Value mode o tag c
    → IsBytes o → IsBytes c
contents-bytes mode o tag c v bytes =
    IsBytes-contents mode o o [] tag c (sym (append-nil o)) v bytes

pieces-bytes : (G : List ℕ → List ℕ → Type 0) → ((o s : List ℕ) → G o s → IsBytes o → IsBytes s)
    → (c : List ℕ) (parts : List (List ℕ)) → Items G c parts → IsBytes c → IsBytes (concat parts)
pieces-bytes G f c [] h bytes = tt
pieces-bytes G f c (p ∷ parts) h bytes =
    let all : IsBytes (h.0 ++ h.1) = subst IsBytes h.2 bytes in
    bytes-both p (concat parts) (f h.0 p h.3 (IsBytes-left h.0 h.1 all))
    (pieces-bytes G f h.1 parts h.4 (IsBytes-right h.0 h.1 all))

pub string-bytes : (depth : ℕ) (mode : Mode) (o s : List ℕ) → OctetString mode depth o s → IsBytes o
    → IsBytes s
unfolding OctetString
string-bytes zero mode o s h bytes = absurd h
string-bytes (suc depth) mode o s (inl v) bytes = contents-bytes mode o 4 s v bytes
string-bytes (suc depth) mode o s (inr h) bytes =
    subst IsBytes (sym h.5)
    (pieces-bytes (OctetString mode depth)
    (λ q t g k. string-bytes depth mode q t g k) h.1 h.2 h.4
    (contents-bytes mode o 36 h.1 h.3 bytes))

pub bits-bytes : (mode : Mode) (o s : List ℕ) → BitString mode o (s, 0) → IsBytes o → IsBytes s
bits-bytes mode o s h bytes = (subst IsBytes h.2.0 (contents-bytes mode o 3 h.0 h.1 bytes)).1

-- ---- what they hold

-- the front of the octets, in DER
pub front-understood : {X : Type 0} {first : TagSet} {p : Parser X} {G : Mode → List ℕ → X → Type 0}
    → IsPart first nothing p G → IsUnderstood (λ _. front_of p Der) IsBytes (λ _. Begins (G Der))
front-understood {X} {first} {p} {G} e = record {
  sound = λ _ s x bytes h.
      let m = bind_some (p Der s) _ x h in
      let is : m.0.0 ≡ x = some_is _ _ m.2 in
      subst (λ (t : X). Begins (G Der) s t) is (m.0.1, (e.exact Der).sound s m.0.0 m.0.1 bytes m.1);
  complete = λ _ s x h.
      let found : p Der s ≡ Some (x, h.0) =
      rw h.1.1 ((e.exact Der).complete h.1.0 x h.0 tt h.1.2) in
      rw found refl;
  relaxed = λ s x h. h;
}

-- all of the octets
module _ {X : Type 0} {first apart : TagSet} {p : Parser X} {G : Mode → List ℕ → X → Type 0}
    (e : IsPart first apart p G) (mode : Mode) (s : List ℕ) (x : X) where
  pub all-sound : IsBytes s → all_read p mode s ≡ Some x → G mode s x
  all-sound bytes h =
      let f = (e.exact mode).sound s x [] bytes (whole-some (p mode s) x h) in
      subst (λ (t : List ℕ). G mode t x) (sym (f.1 ∙ append-nil f.0)) f.2

  pub all-complete : G mode s x → all_read p mode s ≡ Some x
  all-complete h =
      let found : p mode s ≡ Some (x, []) =
      subst (λ (t : List ℕ). p mode t ≡ Some (x, [])) (append-nil s)
      ((e.exact mode).complete s x [] (none-at-end apart) h) in
      rw found refl

-- all of the octets, in DER
pub all-understood : {X : Type 0} {first apart : TagSet} {p : Parser X} {G : Mode → List ℕ → X
    → Type 0} → IsPart first apart p G → IsUnderstood (λ _. all_read p Der) IsBytes (λ _. G Der)
all-understood e = record {
  sound = λ _ s x bytes h. all-sound e Der s x bytes h;
  complete = λ _ s x h. all-complete e Der s x h;
  relaxed = λ s x h. h;
}

-- an OCTET STRING whose octets are understood
pub in-octets : {X : Type 0} {f : Mode → List ℕ → Option X} {M : Mode → List ℕ → X → Type 0}
    → IsUnderstood f IsBytes M
    → IsPart (or (is OCTET_STRING) (is OCTET_STRING_IN_PIECES)) nothing
    (understood f (octets_at MAX_DEPTH)) (λ mode. OctetStringHolding mode (M mode))
in-octets m = understand (octets-part MAX_DEPTH)
    (λ mode o s bytes g. string-bytes MAX_DEPTH mode o s g bytes) m

-- a BIT STRING of whole octets, which are understood
pub in-bits : {X : Type 0} {first : TagSet} {b : Parser (List ℕ)} {f : Mode → List ℕ → Option X}
    {M : Mode → List ℕ → X → Type 0} → IsPart first nothing b (λ mode o s. BitString mode o (s, 0))
    → IsUnderstood f IsBytes M
    → IsPart first nothing (understood f b) (λ mode. BitStringHolding mode (M mode))
in-bits bits m = understand bits (λ mode o s bytes g. bits-bytes mode o s g bytes) m
