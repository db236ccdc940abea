-- Which kind an object names.
use Rattle.std.proofs.Common.{◌≡◌, ◌∙◌, ℕ, List, Result, Ok, Err, inl, inr}
use Rattle.std.proofs.Common.{ap, get_or, refl, subst, sym}
use Rattle.std.specs.Prelude.{nat_eq, if◌then◌else◌}
use Rattle.rpki_der.specs.declared.mode.Mode.{Mode}
use Rattle.rpki_der.specs.Grammar.{HasNoFront}
use Rattle.rpki_der.specs.declared.mode.Mode.TheVariants.{Der}
use Rattle.rpki_multi.specs.Multi.{MultiForm}
use Rattle.rpki_sigobj.specs.Object.{SignedObject}
use Rattle.rpki_validation.specs.Kinds.{Names, type_of}
use Rattle.rpki_validation.specs.declared.kinds.Kind.{Kind}
use Rattle.rpki_validation.specs.declared.kinds.Kind.TheVariants.{Aspa, Checklist, Manifest, Roa}
use Rattle.rpki_check.specs.Kinds.{AsksFor, IsAskedOr, IsNamedBy, NamesAttestation, asked_code}
use Rattle.rpki_check.specs.declared.kinds.Asked.{Asked}
use Rattle.rpki_check.specs.declared.kinds.Asked.TheVariants.{Attestation, Object}

-- octets that begin with no multi-signed object name no attestation
pub no-attestation : (octets source : List ℕ) → source ≡ octets → HasNoFront (MultiForm Der) source
    → NamesAttestation octets → ⊥
no-attestation octets source same none h =
    subst (λ (o : List ℕ). HasNoFront (MultiForm Der) o) same none h.object h.rest h.front.found

-- nothing is named where neither a kind nor an attestation is
pub none-named : (mode : Mode) (octets : List ℕ) → ((k : Kind) → Names mode octets k → ⊥)
    → (NamesAttestation octets → ⊥) → (a : Asked) → IsNamedBy mode octets a → ⊥
none-named mode octets none not (Object k) h = none k h
none-named mode octets none not Attestation h = not h.0

-- nothing has the number 0
coded : (a : Asked) → 0 ≡ asked_code a → ⊥
coded (Object Roa) e = absurd cc
coded (Object Aspa) e = absurd cc
coded (Object Manifest) e = absurd cc
coded (Object Checklist) e = absurd cc
coded Attestation e = absurd cc

-- what is named is asked for by 0
pub asked : (mode : Mode) (number : ℕ) (octets : List ℕ) (result : Result Asked ℕ) → number ≡ 0
    → IsAskedOr (IsNamedBy mode octets) result → IsAskedOr (AsksFor mode number octets) result
asked mode number octets (Ok a) e h = inr (e, h)
asked mode number octets (Err status) e (inl memory) = inl memory
asked mode number octets (Err status) e (inr none) = inr (none.0, λ a h. unasked a h)
  where
    unasked : (a : Asked) → AsksFor mode number octets a → ⊥
    unasked a (inl is) = coded a (sym e ∙ is)
    unasked a (inr zero-named) = none.1 a zero-named.1

-- a number that is none asks for nothing
pub none-asked : (mode : Mode) (number : ℕ) (octets : List ℕ) → (number ≡ 0 → ⊥)
    → (number ≡ asked_code Attestation → ⊥)
    → ((k : Kind) → number ≡ asked_code (Object k) → ⊥) → (a : Asked)
    → AsksFor mode number octets a → ⊥
none-asked mode number octets z n none (Object k) (inl e) = none k e
none-asked mode number octets z n none Attestation (inl e) = n e
none-asked mode number octets z n none a (inr h) = z h.0

-- ---- one thing is asked for

-- what has this number
abbrev with-code : ℕ → Asked
with-code n =
    if nat_eq n 1 then Object Roa
    else if nat_eq n 2 then Object Aspa
    else if nat_eq n 3 then Object Manifest
    else if nat_eq n 4 then Object Checklist
    else Attestation

code-of : (a : Asked) → with-code (asked_code a) ≡ a
code-of (Object Roa) = refl
code-of (Object Aspa) = refl
code-of (Object Manifest) = refl
code-of (Object Checklist) = refl
code-of Attestation = refl

one-code : (a b : Asked) → asked_code a ≡ asked_code b → a ≡ b
one-code a b e = sym (code-of a) ∙ ap with-code e ∙ code-of b

-- the kind whose type has this last octet
abbrev with-octet : ℕ → Kind
with-octet n =
    if nat_eq n 0x18 then Roa
    else if nat_eq n 0x31 then Aspa
    else if nat_eq n 0x1A then Manifest
    else Checklist

octet-of : (k : Kind) → with-octet (get_or (type_of k) 10 0) ≡ k
octet-of Roa = refl
octet-of Aspa = refl
octet-of Manifest = refl
octet-of Checklist = refl

one-type : (k l : Kind) → type_of k ≡ type_of l → k ≡ l
one-type k l e =
    sym (octet-of k) ∙ ap (λ (t : List ℕ). with-octet (get_or t 10 0)) e ∙ octet-of l

one-named : (mode : Mode) (octets : List ℕ) (a b : Asked) → IsNamedBy mode octets a
    → IsNamedBy mode octets b → a ≡ b
one-named mode octets (Object k) (Object l) h g =
    let same : h.object ≡ g.object = (g.front.only h.object h.rest h.front.found).0 in
    ap Object (one-type k l
    (sym h.holds ∙ ap (λ (o : SignedObject). o.signed.content_type) same ∙ g.holds))
one-named mode octets (Object k) Attestation h g = absurd (g.1 k h)
one-named mode octets Attestation (Object l) h g = absurd (h.1 l g)
one-named mode octets Attestation Attestation h g = refl

-- a number asks for one thing at most
pub one-asked : (mode : Mode) (number : ℕ) (octets : List ℕ) (a b : Asked)
    → AsksFor mode number octets a → AsksFor mode number octets b → a ≡ b
one-asked mode number octets a b (inl e) (inl f) = one-code a b (sym e ∙ f)
one-asked mode number octets a b (inl e) (inr f) = absurd (coded a (sym f.0 ∙ e))
one-asked mode number octets a b (inr e) (inl f) = absurd (coded b (sym e.0 ∙ f))
one-asked mode number octets a b (inr e) (inr f) = one-named mode octets a b e.1 f.1
