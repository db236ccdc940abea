-- Which kind an object names.
use Rattle.std.proofs.Common.{◌≡◌, ℕ, List, subst}
use Rattle.rpki_der.specs.declared.mode.Mode.{Mode}
use Rattle.rpki_der.specs.Form.Decodes.{IsOnlyFront}
use Rattle.rpki_der.specs.Grammar.{HasNoFront}
use Rattle.rpki_sigobj.specs.Object.{SignedForm, SignedObject}
use Rattle.rpki_validation.specs.Kinds.{Names, type_of}
use Rattle.rpki_validation.specs.declared.kinds.Kind.{Kind}

module _ (mode : Mode) (octets source : List ℕ) (same : source ≡ octets) where
  -- octets that begin with no signed object name no kind
  pub unnamed : HasNoFront (SignedForm mode) source → (k : Kind) → Names mode octets k → ⊥
  unnamed none k h =
      subst (λ (o : List ℕ). HasNoFront (SignedForm mode) o) same none h.object h.rest h.front.found

  module _ (o : SignedObject) (rest : List ℕ) (front : IsOnlyFront (SignedForm mode) source o rest)
    where
      -- the object names the kind of its content's type
      pub named : (k : Kind) → o.signed.content_type ≡ type_of k → Names mode octets k
      named k is = subst (λ (s : List ℕ). Names mode s k) same (record {
        object = o;
        rest = rest;
        front = front;
        holds = is;
      })

      -- and no other
      pub other : ((k : Kind) → o.signed.content_type ≡ type_of k → ⊥) → (k : Kind)
          → Names mode octets k → ⊥
      other none k h =
          let f = subst (λ (s : List ℕ). IsOnlyFront (SignedForm mode) s o rest) same front in
          none k (subst (λ (x : SignedObject). x.signed.content_type ≡ type_of k)
          (f.only h.object h.rest h.front.found).0 h.holds)
