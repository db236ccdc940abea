-- what is written is read again
use Rattle.std.proofs.Common.{◌≡◌, ℕ, suc, ◌<◌, ◌^◌, List, [], ◌∷◌, ◌++◌, length, All, Option, Some}
use Rattle.std.proofs.Common.{refl, ap, ◌∙◌, subst, sym, arith}
use Rattle.std.specs.List.{flat_map}
use Rattle.rpki_der.specs.declared.mode.Mode.{Mode}
use Rattle.rpki_der.specs.declared.mode.Mode.TheVariants.{Der, Ber}
use Rattle.rpki_der.specs.Identifier.{IsTag}
use Rattle.rpki_der.specs.Read.Parse.{Parser, value_at, in_value, primitive}
use Rattle.rpki_der.specs.Grammar.{Value, Within, IsBytes, Items}
use Rattle.rpki_der.specs.Write.Written.{value_octets}
use Rattle.std.proofs.lemmas.List.{append-nil}
use Rattle.rpki_der.proofs.Reading.Exact.{value-complete, IsBytes-left, IsBytes-right}
use Rattle.rpki_der.proofs.Reading.Exact.{IsBytes-contents}
use Rattle.rpki_der.proofs.Reading.Unique.{value-ber}
use Rattle.rpki_der.proofs.Writing.Lengths.{value-written, value-unique}

-- in both modes
pub value-in : (mode : Mode) (tag : ℕ) (c : List ℕ) → IsTag tag → length c < 2 ^ 32
    → Value mode (value_octets tag c) tag c
value-in Der tag c is short = value-written tag c is short
value-in Ber tag c is short = value-ber (value_octets tag c) tag c (value-written tag c is short)

pub value-read : (mode : Mode) (tag : ℕ) (c rest : List ℕ) → IsTag tag → length c < 2 ^ 32
    → value_at tag mode (value_octets tag c ++ rest) ≡ Some (c, rest)
value-read mode tag c rest is short =
    value-complete tag mode (value_octets tag c) c rest (value-in mode tag c is short)

-- contents that f understands are read again
pub primitive-read : {X : Type 0} (tag : ℕ) (f : List ℕ → Option X) (mode : Mode) (c rest : List ℕ)
    (x : X) → IsTag tag → length c < 2 ^ 32 → f c ≡ Some x
    → primitive tag f mode (value_octets tag c ++ rest) ≡ Some (x, rest)
primitive-read tag f mode c rest x is short e = rw (value-read mode tag c rest is short) (rw e refl)

-- contents that p reads to their end
pub within-read : {X : Type 0} (tag : ℕ) (p : Parser X) (mode : Mode) (c rest : List ℕ) (x : X)
    → IsTag tag → length c < 2 ^ 32 → p mode c ≡ Some (x, [])
    → in_value tag p mode (value_octets tag c ++ rest) ≡ Some (x, rest)
within-read tag p mode c rest x is short e = rw (value-read mode tag c rest is short) (rw e refl)

pub within-written : (tag : ℕ) (G : List ℕ → Type 0) (c : List ℕ) → IsTag tag → length c < 2 ^ 32
    → G c → Within Der tag G (value_octets tag c)
within-written tag G c is short g = (c, value-written tag c is short, g)

-- a value whose contents G determines is written in one way
pub within-only : (tag : ℕ) (G : List ℕ → Type 0) (o d : List ℕ) → IsBytes o
    → ((c : List ℕ) → IsBytes c → G c → c ≡ d) → Within Der tag G o → o ≡ value_octets tag d
within-only tag G o d bytes is h =
    let inner : IsBytes h.0 = IsBytes-contents Der o o [] tag h.0 (sym (append-nil o)) h.1 bytes in
    value-unique o tag h.0 bytes h.1 ∙ ap (value_octets tag) (is h.0 inner h.2)

pub within-unique : (tag : ℕ) (G : List ℕ → Type 0) (o d : List ℕ) → IsBytes o
    → ((c : List ℕ) → G c → c ≡ d) → Within Der tag G o → o ≡ value_octets tag d
within-unique tag G o d bytes is h = within-only tag G o d bytes (λ c _. is c) h

-- values that are written one after another are a list of them
pub items-written : {X : Type 0} (G : List ℕ → X → Type 0) (f : X → List ℕ) (xs : List X)
    → All (λ x. G (f x) x) xs → Items G (flat_map f xs) xs
items-written G f [] h = refl
items-written G f (x ∷ xs) h = (
  f x,
  flat_map f xs,
  refl,
  h 0 x (omega arith),
  items-written G f xs (λ i d l. h (suc i) d (omega (arith, l))),
)

-- a list is written in one way where each element is
pub items-unique : {X : Type 0} (G : List ℕ → X → Type 0) (f : X → List ℕ)
    → ((d : List ℕ) (x : X) → IsBytes d → G d x → d ≡ f x) → (o : List ℕ) (xs : List X) → IsBytes o
    → Items G o xs → o ≡ flat_map f xs
items-unique G f one o [] bytes h = h
items-unique G f one o (x ∷ xs) bytes h =
    let both : IsBytes (h.0 ++ h.1) = subst IsBytes h.2 bytes in
    h.2 ∙ ap (λ (d : List ℕ). d ++ h.1) (one h.0 x (IsBytes-left h.0 h.1 both) h.3)
    ∙ ap (λ (d : List ℕ). f x ++ d) (items-unique G f one h.1 xs (IsBytes-right h.0 h.1 both) h.4)
