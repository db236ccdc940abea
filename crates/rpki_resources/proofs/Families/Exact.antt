-- Address families are read exactly.
use Rattle.std.proofs.Common.{◌≡◌, ℕ, List, [], ◌∷◌, Some, None, Bool, true, false}
use Rattle.std.proofs.Common.{cond}
use Rattle.std.proofs.Common.{refl, ap, subst, ◌∙◌}
use Rattle.std.specs.Prelude.{◌==◌}
use Rattle.std.proofs.lemmas.Bool.{eqb-true}
use Rattle.rpki_der.specs.Tags.{OCTET_STRING, OCTET_STRING_IN_PIECES}
use Rattle.rpki_der.specs.Grammar.{OctetString}
use Rattle.rpki_der.proofs.Reading.Lengths.{some_is}
use Rattle.rpki_der.specs.Form.Law.{nothing, is, or, IsPart}
use Rattle.rpki_der.proofs.Form.Words.{part-as, make-some}
use Rattle.rpki_der.proofs.Form.Kinds.{octets-part}
use Rattle.rpki_resources.specs.declared.family.AddressFamily.{AddressFamily}
use Rattle.rpki_resources.specs.declared.family.AddressFamily.TheVariants.{Ipv4, Ipv6}
use Rattle.rpki_resources.specs.Family.Form.{afi, FamilyForm}
use Rattle.rpki_resources.specs.Family.Read.{family_of, family_at}

-- the last octet of two
last-of : (b : ℕ) (family : AddressFamily) (s t : Bool) → (b == 1) ≡ s → (b == 2) ≡ t
    → cond s (Some Ipv4) (cond t (Some Ipv6) None) ≡ Some family → 0 ∷ b ∷ [] ≡ afi family
last-of b family true t e h k = let f : Ipv4 ≡ family = some_is _ _ k in
    subst (λ (x : AddressFamily). 0 ∷ b ∷ [] ≡ afi x) f (ap (λ n. 0 ∷ n ∷ []) (eqb-true b 1 e))
last-of b family false true e h k = let f : Ipv6 ≡ family = some_is _ _ k in
    subst (λ (x : AddressFamily). 0 ∷ b ∷ [] ≡ afi x) f (ap (λ n. 0 ∷ n ∷ []) (eqb-true b 2 h))
last-of b family false false e h k = absurd cc

first-of : (a b : ℕ) (family : AddressFamily) (s : Bool) → (a == 0) ≡ s
    → cond s (cond (b == 1) (Some Ipv4) (cond (b == 2) (Some Ipv6) None)) None ≡ Some family
    → a ∷ b ∷ [] ≡ afi family
first-of a b family true e k = ap (λ n. n ∷ b ∷ []) (eqb-true a 0 e)
    ∙ last-of b family (b == 1) (b == 2) refl refl k
first-of a b family false e k = absurd cc

family-sound : (string : List ℕ) (family : AddressFamily) → family_of string ≡ Some family
    → string ≡ afi family
unfolding family_of
family-sound [] family e = absurd cc
family-sound (a ∷ []) family e = absurd cc
family-sound (a ∷ b ∷ []) family e = first-of a b family (a == 0) refl e
family-sound (a ∷ b ∷ c ∷ rest) family e = absurd cc

family-complete : (family : AddressFamily) → family_of (afi family) ≡ Some family
unfolding family_of
family-complete Ipv4 = refl
family-complete Ipv6 = refl

-- a family
pub family-part : IsPart
    (or (is OCTET_STRING) (is OCTET_STRING_IN_PIECES)) nothing family_at FamilyForm
family-part = part-as (make-some family_of (octets-part 32))
    (λ mode o family h. subst (λ (s : List ℕ). OctetString mode 32 o s)
    (family-sound h.0 family h.2) h.1)
    (λ mode o family h. (afi family, h, family-complete family))
