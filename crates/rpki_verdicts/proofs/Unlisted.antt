-- Keys that can't be written.
use Rattle.std.proofs.Common.{◌≡◌, ℕ, ◌<◌, ◌^◌, Bool, true, false, ◌&&◌}
use Rattle.std.proofs.Common.{cond, List, [], ◌++◌, length}
use Rattle.std.proofs.Common.{refl, sym, ap, ◌∙◌, ◌≢◌, arith, Result, Ok, Err}
use Rattle.std.specs.Prelude.{nat_lt, OnOk}
use Rattle.std.specs.declared.alloc.AllocError.{AllocError}
use Rattle.std.proofs.lemmas.Bool.Decides.{Decides-ltb}
use Rattle.std.proofs.lemmas.List.{append-nil}
use Rattle.rpki_der.specs.Tags.{SEQUENCE}
use Rattle.rpki_der.specs.Write.Encode.{Fits, IsBytesOf}
use Rattle.rpki_der.specs.declared.encode.EncodeError.{EncodeError}
use Rattle.rpki_der.specs.declared.encode.EncodeError.TheVariants.{NotDer, TooLong, Io, Memory}
use Rattle.rpki_der.specs.Write.Written.{length_value_octets_le}
use Rattle.rpki_basics.specs.Key.{key_contents, key_octets}
use Rattle.rpki_certs.specs.Verify.{Verdict}
use Rattle.rpki_verdicts.specs.Listing.{good_line}
use Rattle.rpki_verdicts.specs.Questions.{Question}

not-true : (b : Bool) → (b ≡ true → ⊥) → b ≡ false
not-true true n = absurd (n refl)
not-true false n = refl

empty-line : (v b : Bool) (line : List ℕ) → b ≡ false → cond (v && b) line [] ≡ []
empty-line true b line e = ap (λ (x : Bool). cond x line []) e
empty-line false b line e = refl

-- the octets of a key fit where its contents do
contents-fit : (key : List ℕ)
    → (Fits (length (key_contents key) < 2 ^ 32) (key_octets key) → ⊥)
    → length (key_contents key) < 2 ^ 32 → ⊥
contents-fit key n h =
    n (h, omega (arith, h, length_value_octets_le SEQUENCE (key_contents key)))

-- a key that can't be written has no line
too-long : (verdict : Verdict) (q : Question) (text : List ℕ)
    → (Fits (length (key_contents q.key) < 2 ^ 32) (key_octets q.key) → ⊥)
    → text ≡ text ++ good_line verdict q
too-long verdict q text n =
    let below = not-true (nat_lt (length (key_contents q.key)) (2 ^ 32)) (λ e.
    contents-fit q.key n ((Decides-ltb (length (key_contents q.key)) (2 ^ 32)).0 e)) in
    sym (append-nil text)
    ∙ sym (ap (λ (t : List ℕ). text ++ t)
    (empty-line (verdict q.key q.message q.signature)
    (nat_lt (length (key_contents q.key)) (2 ^ 32)) _ below))

-- A key that is not written has no line, unless memory ran out.
pub unwritten : (verdict : Verdict) (q : Question) (text : List ℕ) (error : EncodeError)
    (result : Result (Unit {0}) AllocError)
    → IsBytesOf (Unit {0}) (length (key_contents q.key) < 2 ^ 32) (key_octets q.key) (Err error)
    → OnOk result (error ≢ Memory) → OnOk result (text ≡ text ++ good_line verdict q)
unwritten verdict q text NotDer (Ok u) h n = absurd (h tt)
unwritten verdict q text TooLong (Ok u) h n = too-long verdict q text h
unwritten verdict q text Io (Ok u) h n = absurd h
unwritten verdict q text Memory (Ok u) h n = absurd (n refl)
unwritten verdict q text error (Err e) h n = tt
