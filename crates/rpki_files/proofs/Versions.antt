-- The number of a version is an INTEGER from 0 to 255 that is 0.
use Rattle.std.proofs.Common.{◌≡◌, ℕ, Bool, true, false, cond, eqb, List, Option, Some, None}
use Rattle.std.proofs.Common.{refl, ◌∙◌}
use Rattle.rpki_der.specs.Tags.{INTEGER}
use Rattle.rpki_der.specs.declared.mode.Mode.{Mode}
use Rattle.rpki_der.specs.Read.Parse.{◌>>=◌, value_at, unsigned_of, primitive, u8_at, this}

-- the number, where it is 0
abbrev zero_of : Option (ℕ × List ℕ) → Option (Unit {0} × List ℕ)
zero_of o = o >>= λ n. cond (eqb n.0 0) (Some (tt, n.1)) None

tested-spelt : (t : Bool) (s : List ℕ)
    → ◌>>=◌ {B = Unit {0} × List ℕ} (cond t (Some tt) None) (λ x. Some (x, s))
    ≡ cond t (Some (tt, s)) None
tested-spelt true s = refl
tested-spelt false s = refl

number-spelt : (m : Option ℕ) (s : List ℕ)
    → ◌>>=◌ {B = Unit {0} × List ℕ} (m >>= λ k. cond (eqb k 0) (Some tt) None) (λ x. Some (x, s))
    ≡ zero_of (m >>= λ x. Some (x, s))
number-spelt None s = refl
number-spelt (Some k) s = tested-spelt (eqb k 0) s

zero-spelt : (mode : Mode) (b : List ℕ)
    → primitive INTEGER (this 0) mode b ≡ zero_of (u8_at mode b)
zero-spelt mode b = of (value_at INTEGER mode b)
  where
    of : (o : Option (List ℕ × List ℕ))
        → ◌>>=◌ {B = Unit {0} × List ℕ} o (λ v. this 0 v.0 >>= λ x. Some (x, v.1))
        ≡ zero_of (o >>= λ v. (unsigned_of 1 v.0 >>= λ x. Some (x, v.1)))
    of None = refl
    of (Some v) = number-spelt (unsigned_of 1 v.0) v.1

-- the number is 0
pub zero_read : (mode : Mode) (b : List ℕ) (n : ℕ) (r : List ℕ) → u8_at mode b ≡ Some (n, r)
    → eqb n 0 ≡ true → primitive INTEGER (this 0) mode b ≡ Some (tt, r)
zero_read mode b n r e h = zero-spelt mode b ∙ rw (e, h) refl

-- it is another one
pub other_read : (mode : Mode) (b : List ℕ) (n : ℕ) (r : List ℕ) → u8_at mode b ≡ Some (n, r)
    → eqb n 0 ≡ false → primitive INTEGER (this 0) mode b ≡ None
other_read mode b n r e h = zero-spelt mode b ∙ rw (e, h) refl

-- there is none
pub none_read : (mode : Mode) (b : List ℕ) → u8_at mode b ≡ None
    → primitive INTEGER (this 0) mode b ≡ None
none_read mode b e = zero-spelt mode b ∙ rw e refl
