-- What a question asks, and what C is told where it is refused.
use Rattle.std.proofs.Common.{◌≡◌, ◌∙◌, ℕ, ◌+◌, List, [], ◌∷◌, Bool, true, false, Option, None, Some}
use Rattle.std.proofs.Common.{Result, Ok, Err, ap, refl, subst, sym}
use Rattle.rpki_der.specs.declared.error.DecodeError.TheVariants as decoding
use Rattle.rpki_basics.specs.Moment.{IsMoment, Moment}
use Rattle.rpki_faults.specs.declared.validation.ValidationError.TheVariants as validation
use Rattle.rpki_certs.specs.Validate.{Validated}
use Rattle.rpki_certs.specs.declared.issuer.IssuerError.{IssuerError}
use Rattle.rpki_certs.specs.declared.issuer.IssuerError.TheVariants as issuing
use Rattle.rpki_crls.specs.Crl.{KeptCrl}
use Rattle.rpki_signed.specs.declared.check.CheckError.{CheckError}
use Rattle.rpki_signed.specs.declared.check.CheckError.TheVariants as checking
use Rattle.rpki_tal.specs.Tal.{Locator}
use Rattle.rpki_validation.specs.Attestation.{IsGrantedOn}
use Rattle.rpki_validation.specs.Grounds as posing
use Rattle.rpki_validation.specs.Grounds.{AreLists, AreSame, locator_octets}
use Rattle.rpki_validation.specs.Issuer.{IsAnchorMade, IsIssuerOf, Leads}
use Rattle.rpki_validation.specs.Locator.{IsGiven, IsNoLocator}
use Rattle.rpki_validation.specs.Refusal.{is_memory, is_memory_in, is_memory_of_check}
use Rattle.rpki_validation.specs.declared.grounds.Grounds.{Grounds}
use Rattle.rpki_validation.specs.declared.question.Question.{Question as Posed}
use Rattle.rpki_validation.specs.declared.refusal.CaFault.TheVariants as ca
use Rattle.rpki_validation.specs.declared.refusal.IssuerFault.{IssuerFault}
use Rattle.rpki_validation.specs.declared.refusal.IssuerFault.TheVariants.{Anchor, Chain, OtherKey}
use Rattle.rpki_validation.specs.declared.refusal.Refusal.{Refusal as Cause}
use Rattle.rpki_validation.specs.declared.refusal.Refusal.TheVariants as causes
use Rattle.rpki_validation.proofs.Single as single
use Rattle.rpki_check.specs.Grounds.{AreGroundsOf, Asks, HasNoGrounds, IsGrounded, IsPosedGrounded}
use Rattle.rpki_check.specs.Grounds.{IsUngrounded}
use Rattle.rpki_check.specs.Numbers.{check_number, issuer_number, no_memory, refusal_number}
use Rattle.rpki_check.specs.Refusal.{IsToldAs, IsUnlocated}
use Rattle.rpki_check.specs.declared.question.Question.{Question}
use Rattle.rpki_check.specs.declared.refusal.Refusal.{Refusal}
use Rattle.rpki_check.specs.declared.refusal.Refusal.TheVariants.{Check, Issuer, Memory}
use Rattle.rpki_check.specs.declared.refusal.Refusal.TheVariants.{NoList, NoMoment}

-- ---- without a locator

module _ (lists : List KeptCrl) (now : Moment) where
  -- no certificate of a chain is compared with a locator
  leads-keyed : (chain : List (List ℕ)) (place : ℕ) (first : Validated)
      → Leads lists now place first chain (Err OtherKey) → ⊥
  leads-keyed [] place first h = absurd cc
  leads-keyed (o ∷ chain) place first (Ok next, h, t) = leads-keyed chain (place + 1) next t
  leads-keyed (o ∷ chain) place first (Err e, h, t) = absurd cc

  keyed : (anchor : List ℕ) (x : Option Locator) (chain : List (List ℕ)) → IsGiven None x
      → IsIssuerOf lists now anchor x chain (Err OtherKey) → ⊥
  keyed anchor (Some l) chain given h = given
  keyed anchor None chain given (Ok first, h, t) = leads-keyed chain 0 first t
  keyed anchor None chain given (Err e, h, t) =
      let same : e ≡ OtherKey = cc in
      let made : IsAnchorMade now None anchor (Err OtherKey) =
      subst (λ (f : IssuerFault). IsAnchorMade now None anchor (Err f)) same h in made.2 tt

-- a question without a locator is refused for none
pub unlocated : (p : Posed) → locator_octets p ≡ None → (cause : Cause)
    → posing.HasNoGrounds p cause → IsUnlocated cause
unlocated p e causes.Memory h = tt
unlocated p e causes.NoLocator h = subst (λ (o : Option (List ℕ)). IsNoLocator o) e h
unlocated p e (causes.NoList place) h = tt
unlocated p e (causes.Issuer (Anchor fault)) h = tt
unlocated p e (causes.Issuer OtherKey) h =
    keyed h.lists p.moment p.anchor.now h.locator p.chain.now
    (subst (λ (o : Option (List ℕ)). IsGiven o h.locator) e h.is_given) h.made
unlocated p e (causes.Issuer (Chain place fault)) h = tt
unlocated p e (causes.Check fault) h = tt
unlocated p e (causes.Revoked place) h = tt

-- and so is an attestation
pub unlocated-rta : (g : Grounds) (octets : List ℕ) (cause : Cause) → IsGrantedOn g octets (Err cause)
    → IsUnlocated cause
unlocated-rta g octets causes.Memory h = tt
unlocated-rta g octets causes.NoLocator h = h
unlocated-rta g octets (causes.NoList place) h = tt
unlocated-rta g octets (causes.Issuer (Anchor fault)) h = tt
unlocated-rta g octets (causes.Issuer OtherKey) h = h
unlocated-rta g octets (causes.Issuer (Chain place fault)) h = tt
unlocated-rta g octets (causes.Check fault) h = tt
unlocated-rta g octets (causes.Revoked place) h = tt

-- ---- what C is told

-- nothing is told as a moment that is none
no-moment-told : (cause : Cause) → IsToldAs cause NoMoment → ⊥
no-moment-told causes.Memory t = absurd cc
no-moment-told causes.NoLocator t = t
no-moment-told (causes.NoList place) t = absurd cc
no-moment-told (causes.Issuer (Anchor fault)) t = absurd cc
no-moment-told (causes.Issuer OtherKey) t = t
no-moment-told (causes.Issuer (Chain place (ca.Error fault))) t = absurd cc
no-moment-told (causes.Issuer (Chain place (ca.Revoked list))) t = absurd cc
no-moment-told (causes.Check fault) t = absurd cc
no-moment-told (causes.Revoked place) t = absurd cc

issuer-memory : (fault : IssuerError) → is_memory_in fault ≡ true → issuer_number fault ≡ no_memory
issuer-memory (issuing.Decode decoding.Memory) e = refl
issuer-memory (issuing.Decode decoding.Malformed) e = absurd cc
issuer-memory (issuing.Decode (decoding.Content fault)) e = absurd cc
issuer-memory (issuing.Validation validation.Memory) e = refl
issuer-memory (issuing.Validation (validation.Inspection fault)) e = absurd cc
issuer-memory (issuing.Validation (validation.Verification fault)) e = absurd cc

check-memory : (fault : CheckError) → is_memory_of_check fault ≡ true
    → check_number fault ≡ no_memory
check-memory (checking.Decode decoding.Memory) e = refl
check-memory (checking.Decode decoding.Malformed) e = absurd cc
check-memory (checking.Decode (decoding.Content fault)) e = absurd cc
check-memory (checking.Validation validation.Memory) e = refl
check-memory (checking.Validation (validation.Inspection fault)) e = absurd cc
check-memory (checking.Validation (validation.Verification fault)) e = absurd cc

-- want of memory is told as that
pub memory-told : (cause : Cause) (refusal : Refusal) → IsToldAs cause refusal
    → is_memory cause ≡ true → refusal_number refusal ≡ no_memory
memory-told causes.Memory refusal t e = ap refusal_number t
memory-told causes.NoLocator refusal t e = absurd t
memory-told (causes.NoList place) refusal t e = absurd cc
memory-told (causes.Issuer (Anchor fault)) refusal t e =
    ap refusal_number t ∙ issuer-memory fault e
memory-told (causes.Issuer OtherKey) refusal t e = absurd t
memory-told (causes.Issuer (Chain place (ca.Error fault))) refusal t e =
    ap refusal_number t ∙ issuer-memory fault e
memory-told (causes.Issuer (Chain place (ca.Revoked list))) refusal t e = absurd cc
memory-told (causes.Check fault) refusal t e = ap refusal_number t ∙ check-memory fault e
memory-told (causes.Revoked place) refusal t e = absurd cc

or-not : (b : Bool) → (b ≡ true → ⊥) → b ≡ false
or-not true n = absurd (n refl)
or-not false n = refl

-- what has another number is no want of memory
pub not-memory : (cause : Cause) (refusal : Refusal) → IsToldAs cause refusal
    → ¬ (refusal_number refusal ≡ no_memory) → is_memory cause ≡ false
not-memory cause refusal t m = or-not (is_memory cause) (λ e. m (memory-told cause refusal t e))

-- ---- grounds

refused : (q : Question) (p : Posed) → Asks q p → (cause : Cause) → posing.HasNoGrounds p cause
    → (refusal : Refusal) → IsToldAs cause refusal → HasNoGrounds q refusal
refused q p a cause none Memory t = tt
refused q p a cause none NoMoment t = absurd (no-moment-told cause t)
refused q p a cause none NoList t =
    record { posed = p; asks = a; cause = cause; none = none; told = t }
refused q p a cause none (Issuer fault) t =
    record { posed = p; asks = a; cause = cause; none = none; told = t }
refused q p a cause none (Check fault) t =
    record { posed = p; asks = a; cause = cause; none = none; told = t }

-- the grounds of a question are those of what it asks
pub grounded : (q : Question) (p : Posed) → Asks q p → (result : Result Grounds Refusal)
    → IsPosedGrounded p result → IsGrounded q result
grounded q p a (Ok g) h = record { posed = p; asks = a; are = h }
grounded q p a (Err refusal) (cause, none, told) = refused q p a cause none refusal told

module _ (q : Question) where
  -- what else it asks has the same grounds
  moved : (p r : Posed) → Asks q p → Asks q r → (g : Grounds) → posing.AreGroundsOf p g
      → posing.AreGroundsOf r g
  moved p r a b g h = record {
    moment = h.moment ∙ (a.moment ∙ sym b.moment);
    locator =
        subst (λ (o : Option (List ℕ)). IsGiven o g.locator) (a.locator ∙ sym b.locator) h.locator;
    lists =
        subst (λ (os : List (List ℕ)). AreLists os g.lists.items) (a.lists ∙ sym b.lists) h.lists;
    issuer =
        subst (λ (os : List (List ℕ)). IsIssuerOf g.lists.items g.moment r.anchor.now g.locator os
        (Ok g.issuer)) (a.chain ∙ sym b.chain)
        (subst (λ (o : List ℕ). IsIssuerOf g.lists.items g.moment o g.locator p.chain.now
        (Ok g.issuer)) (a.anchor ∙ sym b.anchor) h.issuer);
  }

  pub one-grounds : (g h : Grounds) → AreGroundsOf q g → AreGroundsOf q h → AreSame g h
  one-grounds g h a b =
      single.one-grounds b.posed g h (moved a.posed b.posed a.asks b.asks g a.are) b.are

  not-posed : (refusal : Refusal) → IsUngrounded q refusal
      → ¬ (refusal_number refusal ≡ no_memory) → (g : Grounds) → ¬ AreGroundsOf q g
  not-posed refusal u m g a =
      m (memory-told u.cause refusal u.told (single.memory-alone u.posed g u.cause
      (moved a.posed u.posed a.asks u.asks g a.are) u.none))

  -- a question that has grounds is refused for want of memory alone
  pub not-refused : (refusal : Refusal) → HasNoGrounds q refusal
      → ¬ (refusal_number refusal ≡ no_memory) → (g : Grounds) → ¬ AreGroundsOf q g
  not-refused Memory h m g a = m refl
  not-refused NoMoment h m g a = h (subst IsMoment a.asks.moment a.asks.is_moment)
  not-refused NoList h m g a = not-posed NoList h m g a
  not-refused (Issuer fault) h m g a = not-posed (Issuer fault) h m g a
  not-refused (Check fault) h m g a = not-posed (Check fault) h m g a
