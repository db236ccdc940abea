-- In DER an OCTET STRING is one value.
use Rattle.std.proofs.Common.{◌≡◌, ℕ, Bool, true, false, List, [], ◌∷◌, Option, None, Some}
use Rattle.std.proofs.Common.{refl, sym, ◌∙◌, arith}
use Rattle.std.specs.Prelude.{nat_eq}
use Rattle.std.proofs.lemmas.Bool.{eqb-false}
use Rattle.rpki_der.specs.declared.mode.Mode.TheVariants.{Der}
use Rattle.rpki_der.specs.Read.Parse.{body_at, value_at, any_at, octets_at}
use Rattle.rpki_der.proofs.Reading.Strings.{octets-none, octets-der, octets_next}
use Rattle.rpki_lists.specs.Slice.{FindsFront}

any-none : (t : ℕ) (b : List ℕ) → body_at t Der b ≡ None → any_at Der (t ∷ b) ≡ None
unfolding any_at
any-none t b e = rw e refl

any-some : (t : ℕ) (b : List ℕ) (v : List ℕ × List ℕ) → body_at t Der b ≡ Some v
    → any_at Der (t ∷ b) ≡ Some ((t, v.0), v.1)
unfolding any_at
any-some t b v e = rw e refl

not-four : (t : ℕ) (b : List ℕ) → nat_eq t 4 ≡ false → value_at 4 Der (t ∷ b) ≡ None
unfolding value_at
not-four t b e = rw e refl

no-string : (t : ℕ) (b : List ℕ) (o : Option (List ℕ × List ℕ)) → body_at t Der b ≡ o
    → nat_eq t 4 ≡ false → octets_at 32 Der (t ∷ b) ≡ None
no-string t b None e k = octets-none 32 Der (t ∷ b) (any-none t b e)
no-string t b (Some v) e k =
    octets-der 32 Der (t ∷ b) t v.0 v.1 (omega arith) (any-some t b v e) (eqb-false _ _ k) refl

by-tag : (t : ℕ) (b : List ℕ) (k : Bool) → nat_eq t 4 ≡ k
    → octets_at 32 Der (t ∷ b) ≡ value_at 4 Der (t ∷ b)
by-tag t b true k = octets_next Der (t ∷ b) k
by-tag t b false k = no-string t b (body_at t Der b) refl k ∙ sym (not-four t b k)

at-none : octets_at 32 Der [] ≡ value_at 4 Der []
unfolding any_at value_at
at-none = octets-none 32 Der [] refl

pub octets-in-der : (b : List ℕ) → octets_at 32 Der b ≡ value_at 4 Der b
octets-in-der [] = at-none
octets-in-der (t ∷ b) = by-tag t b (nat_eq t 4) refl

-- what is found as one value is found as a string
pub as-string : {T : Type 0} (view : T → List ℕ) (octets : List ℕ) (result : Option T)
    (rest : List ℕ) → FindsFront view (value_at 4) octets result rest
    → FindsFront view (octets_at 32) octets result rest
as-string view octets None rest h = octets-in-der octets ∙ h
as-string view octets (Some t) rest h = octets-in-der octets ∙ h
