-- A question has one moment, the same locator, the same lists and one issuer, and is not refused where
-- it has them.
use Rattle.std.proofs.Common.{◌≡◌, ◌∙◌, inl, inr, ℕ, zero, suc, ◌+◌, ◌<◌, List, [], ◌∷◌, length}
use Rattle.std.proofs.Common.{Bool, true, false, Option, None, Some, Ok, Err, get_or, refl, sym, ap}
use Rattle.std.proofs.Common.{arith, subst}
use Rattle.rpki_der.specs.declared.error.DecodeError.{DecodeError}
use Rattle.rpki_der.specs.declared.error.DecodeError.TheVariants as decoding
use Rattle.rpki_der.specs.declared.mode.Mode.TheVariants.{Der}
use Rattle.rpki_der.specs.Form.Decodes.{IsOnlyFront}
use Rattle.rpki_der.specs.Grammar.{HasNoFront}
use Rattle.rpki_der.specs.Read.Reads.{Refuses}
use Rattle.rpki_basics.specs.Moment.{Moment}
use Rattle.rpki_resources.specs.declared.block.Block.{Block}
use Rattle.rpki_resources.specs.declared.resources.Claim.{Claim}
use Rattle.rpki_resources.specs.declared.resources.Claim.TheVariants.{Explicit, Inherit, Missing}
use Rattle.rpki_resources.specs.Blocks.{IsCanonical, holds}
use Rattle.rpki_resources.specs.Claim.{HasBlocks}
use Rattle.rpki_resources.proofs.Sets.Same.{same_blocks}
use Rattle.rpki_faults.specs.Checks.{AllHold}
use Rattle.rpki_faults.specs.Validated.{IsValidated}
use Rattle.rpki_faults.specs.declared.overclaim.Overclaim.{Overclaim}
use Rattle.rpki_faults.specs.declared.validation.ValidationError.{ValidationError}
use Rattle.rpki_faults.specs.declared.validation.ValidationError.TheVariants as validation
use Rattle.rpki_faults.proofs.Order.{first-fails}
use Rattle.rpki_certs.specs.Cert.{CertForm, Certificate, KeptCertificate}
use Rattle.rpki_certs.specs.Issuer.{IsAnchored, IsIssued, MakesIssuer, in_der}
use Rattle.rpki_certs.specs.Validate.{AreCanonical, IsAnchorOf, IsValidatedUnder, Validated}
use Rattle.rpki_certs.specs.Validate.{ca_validation, ta_validation}
use Rattle.rpki_certs.specs.declared.issuer.IssuerError.{IssuerError}
use Rattle.rpki_certs.specs.declared.issuer.IssuerError.TheVariants as issuing
use Rattle.rpki_crls.specs.Crl.{CrlForm, KeptCrl}
use Rattle.rpki_rsa.specs.Signature.{is_rsa_signature}
use Rattle.rpki_sigobj.proofs.Wholes.Numbers.{same-numbers}
use Rattle.rpki_tal.specs.Tal.{Locator}
use Rattle.rpki_validation.specs.Grounds.{AreGroundsOf, AreLists, AreSame, HasNoGrounds}
use Rattle.rpki_validation.specs.Grounds.{IsSameLocator, locator_octets}
use Rattle.rpki_validation.specs.Issuer.{IsAnchorMade, IsIssuerOf, IsKeyed, IsNextCa, Leads}
use Rattle.rpki_validation.specs.Locator.{IsGiven, IsNoLocator}
use Rattle.rpki_validation.specs.Refusal.{is_memory, is_memory_at_ca, is_memory_at_issuer}
use Rattle.rpki_validation.specs.Refusal.{is_memory_in}
use Rattle.rpki_validation.specs.Revoked.{IsKeptList, IsUnrevoked}
use Rattle.rpki_validation.specs.declared.grounds.Grounds.{Grounds}
use Rattle.rpki_validation.specs.declared.question.Question.{Question}
use Rattle.rpki_validation.specs.declared.refusal.CaFault.{CaFault}
use Rattle.rpki_validation.specs.declared.refusal.CaFault.TheVariants as ca
use Rattle.rpki_validation.specs.declared.refusal.IssuerFault.{IssuerFault}
use Rattle.rpki_validation.specs.declared.refusal.IssuerFault.TheVariants.{Anchor, Chain, OtherKey}
use Rattle.rpki_validation.specs.declared.refusal.Refusal.{Refusal}
use Rattle.rpki_validation.specs.declared.refusal.Refusal.TheVariants.{Check, Issuer, Memory}
use Rattle.rpki_validation.specs.declared.refusal.Refusal.TheVariants.{NoList, NoLocator, Revoked}
use Rattle.rpki_validation.proofs.Steps.{revoked-not}

-- ---- numbers

same-truth : (x y : Bool) → (x ≡ true → y ≡ true) → (y ≡ true → x ≡ true) → x ≡ y
same-truth true y f g = sym (f refl)
same-truth false true f g = g refl
same-truth false false f g = refl

-- a claim names one set
one-named : (claim : Claim (List (Block ℕ))) (a b : List (Block ℕ)) → HasBlocks claim a
    → HasBlocks claim b → a ≡ b
one-named Missing a b h g = h ∙ sym g
one-named Inherit a b h g = absurd h
one-named (Explicit blocks) a b h g = h ∙ sym g

-- a claim has one validated set under an issuer
one-set : (policy : Overclaim) (claim : Claim (List (Block ℕ))) (issuer a b : List (Block ℕ))
    → IsCanonical (λ (n : ℕ). n) a → IsCanonical (λ (n : ℕ). n) b
    → IsValidated (λ (n : ℕ). n) policy claim issuer a
    → IsValidated (λ (n : ℕ). n) policy claim issuer b → a ≡ b
one-set policy claim issuer a b x y h g =
    same_blocks (λ (n : ℕ). n) (λ m n e. e) 0 0 a b x y
    (λ n. same-truth (holds (λ (m : ℕ). m) a n) (holds (λ (m : ℕ). m) b n)
    (same-numbers policy claim issuer a b h g n) (same-numbers policy claim issuer b a g h n))

same-validated : (v w : Validated) → v.cert ≡ w.cert → v.sets.as_numbers ≡ w.sets.as_numbers
    → v.sets.v4 ≡ w.sets.v4 → v.sets.v6 ≡ w.sets.v6 → v ≡ w
same-validated v w p a b c =
    λ i. record { cert = p i; sets = record { as_numbers = a i; v4 = b i; v6 = c i } }

-- ---- one certificate

one-anchor : (k : KeptCertificate) (v w : Validated) → IsAnchorOf k v → IsAnchorOf k w → v ≡ w
unfolding IsAnchorOf
one-anchor k v w h g =
    let x = k.certificate.tbs.extensions.claims in
    same-validated v w (h.0 ∙ sym g.0)
    (one-named x.as_numbers v.sets.as_numbers w.sets.as_numbers h.1.as_numbers g.1.as_numbers)
    (one-named x.addresses.v4 v.sets.v4 w.sets.v4 h.1.v4 g.1.v4)
    (one-named x.addresses.v6 v.sets.v6 w.sets.v6 h.1.v6 g.1.v6)

one-under : (k : KeptCertificate) (issuer v w : Validated) → IsValidatedUnder k issuer v
    → IsValidatedUnder k issuer w → AreCanonical v.sets → AreCanonical w.sets → v ≡ w
unfolding IsValidatedUnder
one-under k issuer v w h g cv cw =
    let x = k.certificate.tbs.extensions.claims in
    same-validated v w (h.0 ∙ sym g.0)
    (one-set x.policy x.as_numbers issuer.sets.as_numbers v.sets.as_numbers w.sets.as_numbers
    cv.as_numbers cw.as_numbers h.1.as_numbers g.1.as_numbers)
    (one-set x.policy x.addresses.v4 issuer.sets.v4 v.sets.v4 w.sets.v4 cv.v4 cw.v4 h.1.v4 g.1.v4)
    (one-set x.policy x.addresses.v6 issuer.sets.v6 v.sets.v6 w.sets.v6 cv.v6 cw.v6 h.1.v6 g.1.v6)

same-cert : (k : KeptCertificate) (issuer v w : Validated) → IsValidatedUnder k issuer v
    → IsValidatedUnder k issuer w → v.cert ≡ w.cert
unfolding IsValidatedUnder
same-cert k issuer v w h g = h.0 ∙ sym g.0

-- octets that begin with a certificate are refused as none for want of memory alone
unread : (octets : List ℕ) (c : Certificate) (rest : List ℕ) (e : DecodeError)
    → IsOnlyFront (CertForm Der) octets c rest → Refuses e (HasNoFront (CertForm Der) octets)
    → is_memory_in (issuing.Decode e) ≡ true
unread octets c rest decoding.Memory front none = refl
unread octets c rest decoding.Malformed front none = absurd (none c rest front.found)
unread octets c rest (decoding.Content fault) front none = absurd (none c rest front.found)

invalid : (fault : ValidationError) → fault ≡ validation.Memory
    → is_memory_in (issuing.Validation fault) ≡ true
invalid fault e = ap (λ (f : ValidationError). is_memory_in (issuing.Validation f)) e

module _ (now : Moment) (octets : List ℕ) where
  anchored-one : (v w : Validated) → IsAnchored is_rsa_signature now octets (Ok v)
      → IsAnchored is_rsa_signature now octets (Ok w) → v ≡ w
  anchored-one v w h g =
      one-anchor (in_der h.cert) v w h.holds.1
      (subst (λ (c : Certificate). IsAnchorOf (in_der c) w)
      (h.front.only g.cert g.rest g.front.found).0 g.holds.1)

  anchored-not : (v : Validated) (fault : IssuerError)
      → IsAnchored is_rsa_signature now octets (Ok v)
      → IsAnchored is_rsa_signature now octets (Err fault) → is_memory_in fault ≡ true
  anchored-not v (issuing.Decode e) h g = unread octets h.cert h.rest e h.front g
  anchored-not v (issuing.Validation fault) h g = elim g.holds [
    | inl e ↦ invalid fault e
    | inr first ↦ absurd (first-fails (ta_validation is_rsa_signature g.cert now) fault first
        (subst (λ (c : Certificate). AllHold (ta_validation is_rsa_signature c now))
        (g.front.only h.cert h.rest h.front.found).0 h.holds.0))
  ]

  module _ (issuer : Validated) where
    -- the second certificate as one of the first
    again : (v w : Validated) → (h : IsIssued is_rsa_signature now issuer octets (Ok v))
        → IsIssued is_rsa_signature now issuer octets (Ok w)
        → IsValidatedUnder (in_der h.cert) issuer w
    again v w h g =
        subst (λ (c : Certificate). IsValidatedUnder (in_der c) issuer w)
        (h.front.only g.cert g.rest g.front.found).0 g.holds.1

    issued-not : (v : Validated) (fault : IssuerError)
        → IsIssued is_rsa_signature now issuer octets (Ok v)
        → IsIssued is_rsa_signature now issuer octets (Err fault) → is_memory_in fault ≡ true
    issued-not v (issuing.Decode e) h g = unread octets h.cert h.rest e h.front g
    issued-not v (issuing.Validation fault) h g = elim g.holds [
      | inl e ↦ invalid fault e
      | inr first ↦ absurd (first-fails (ca_validation is_rsa_signature g.cert issuer now) fault
          first (subst (λ (c : Certificate). AllHold (ca_validation is_rsa_signature c issuer now))
          (g.front.only h.cert h.rest h.front.found).0 h.holds.0))
    ]

    module _ (lists : List KeptCrl) where
      next-one : (v w : Validated) → IsNextCa lists now issuer octets (Ok v)
          → IsNextCa lists now issuer octets (Ok w) → v ≡ w
      next-one v w (h, u, c) (g, x, d) =
          one-under (in_der h.cert) issuer v w h.holds.1 (again v w h g) c d

      pub next-not : (v : Validated) (fault : CaFault) → IsNextCa lists now issuer octets (Ok v)
          → IsNextCa lists now issuer octets (Err fault) → is_memory_at_ca fault ≡ true
      next-not v (ca.Error fault) (h, u, c) g = issued-not v fault h g
      next-not v (ca.Revoked place) (h, u, c) (w, g, r) =
          let unrevoked : IsUnrevoked lists issuer.cert.certificate w.cert.certificate =
          subst (λ (k : KeptCertificate). IsUnrevoked lists issuer.cert.certificate k.certificate)
          (same-cert (in_der h.cert) issuer v w h.holds.1 (again v w h g)) u in
          absurd (revoked-not lists issuer.cert.certificate w.cert.certificate place r unrevoked)

-- ---- chains

-- a key is that of the same locator
keyed-same : (c : Certificate) (x y : Option Locator) → IsSameLocator x y → IsKeyed c x → IsKeyed c y
keyed-same c None None s k = tt
keyed-same c None (Some m) s k = absurd s
keyed-same c (Some l) None s k = absurd s
keyed-same c (Some l) (Some m) s k = k ∙ s.1

module _ (lists : List KeptCrl) (now : Moment) where
  leads-one : (chain : List (List ℕ)) (place : ℕ) (first v w : Validated)
      → Leads lists now place first chain (Ok v) → Leads lists now place first chain (Ok w) → v ≡ w
  leads-one [] place first v w h g =
      let p : v ≡ first = cc in let q : w ≡ first = cc in p ∙ sym q
  leads-one (o ∷ chain) place first v w (Ok next, h, t) (Ok last, g, u) =
      leads-one chain (place + 1) next v w t
      (subst (λ (x : Validated). Leads lists now (place + 1) x chain (Ok w))
      (sym (next-one now o first lists next last h g)) u)
  leads-one (o ∷ chain) place first v w (Ok next, h, t) (Err e, g, u) = absurd cc
  leads-one (o ∷ chain) place first v w (Err e, h, t) r = absurd cc

  leads-not : (chain : List (List ℕ)) (place : ℕ) (first v : Validated) (fault : IssuerFault)
      → Leads lists now place first chain (Ok v) → Leads lists now place first chain (Err fault)
      → is_memory_at_issuer fault ≡ true
  leads-not [] place first v fault h g = absurd cc
  leads-not (o ∷ chain) place first v fault (Ok next, h, t) (Ok last, g, u) =
      leads-not chain (place + 1) next v fault t
      (subst (λ (x : Validated). Leads lists now (place + 1) x chain (Err fault))
      (sym (next-one now o first lists next last h g)) u)
  leads-not (o ∷ chain) place first v fault (Ok next, h, t) (Err e, g, u) =
      let p : fault ≡ Chain place e = cc in
      ap is_memory_at_issuer p ∙ next-not now o first lists next e h g
  leads-not (o ∷ chain) place first v fault (Err e, h, t) r = absurd cc

  anchor-one : (anchor : List ℕ) (v w : Validated)
      → MakesIssuer is_rsa_signature now anchor [] (Ok v)
      → MakesIssuer is_rsa_signature now anchor [] (Ok w) → v ≡ w
  anchor-one anchor v w (Ok x, h, t) (Ok y, g, u) =
      let p : v ≡ x = cc in
      let q : w ≡ y = cc in
      p ∙ anchored-one now anchor x y h g ∙ sym q
  anchor-one anchor v w (Ok x, h, t) (Err e, g, u) = absurd cc
  anchor-one anchor v w (Err e, h, t) r = absurd cc

  anchor-not : (anchor : List ℕ) (v : Validated) (fault : IssuerError)
      → MakesIssuer is_rsa_signature now anchor [] (Ok v)
      → MakesIssuer is_rsa_signature now anchor [] (Err fault) → is_memory_in fault ≡ true
  anchor-not anchor v fault (Ok x, h, t) (Ok y, g, u) = absurd cc
  anchor-not anchor v fault (Ok x, h, t) (Err e, g, u) =
      let p : fault ≡ e = cc in
      ap is_memory_in p ∙ anchored-not now anchor x e h g
  anchor-not anchor v fault (Err e, h, t) r = absurd cc

  made-not : (anchor : List ℕ) (x y : Option Locator) → IsSameLocator x y → (v : Validated)
      (fault : IssuerFault) → IsAnchorMade now x anchor (Ok v) → IsAnchorMade now y anchor (Err fault)
      → is_memory_at_issuer fault ≡ true
  made-not anchor x y s v (Anchor fault) (h, k) g = anchor-not anchor v fault h g
  made-not anchor x y s v OtherKey (h, k) (w, g, n) =
      absurd (n (subst (λ (z : Validated). IsKeyed z.cert.certificate y) (anchor-one anchor v w h g)
      (keyed-same v.cert.certificate x y s k)))
  made-not anchor x y s v (Chain place fault) (h, k) g = absurd g

  issuer-one : (anchor : List ℕ) (x y : Option Locator) (chain : List (List ℕ)) (v w : Validated)
      → IsIssuerOf lists now anchor x chain (Ok v) → IsIssuerOf lists now anchor y chain (Ok w)
      → v ≡ w
  issuer-one anchor x y chain v w (Ok a, h, t) (Ok b, g, u) =
      leads-one chain 0 a v w t
      (subst (λ (z : Validated). Leads lists now 0 z chain (Ok w))
      (sym (anchor-one anchor a b h.0 g.0)) u)
  issuer-one anchor x y chain v w (Ok a, h, t) (Err e, g, u) = absurd cc
  issuer-one anchor x y chain v w (Err e, h, t) r = absurd cc

  issuer-not : (anchor : List ℕ) (x y : Option Locator) → IsSameLocator x y
      → (chain : List (List ℕ)) (v : Validated) (fault : IssuerFault)
      → IsIssuerOf lists now anchor x chain (Ok v) → IsIssuerOf lists now anchor y chain (Err fault)
      → is_memory_at_issuer fault ≡ true
  issuer-not anchor x y s chain v fault (Ok a, h, t) (Ok b, g, u) =
      leads-not chain 0 a v fault t
      (subst (λ (z : Validated). Leads lists now 0 z chain (Err fault))
      (sym (anchor-one anchor a b h.0 g.0)) u)
  issuer-not anchor x y s chain v fault (Ok a, h, t) (Err e, g, u) =
      let p : fault ≡ e = cc in
      ap is_memory_at_issuer p ∙ made-not anchor x y s a e h g
  issuer-not anchor x y s chain v fault (Err e, h, t) r = absurd cc

-- ---- lists

one-list : (octets : List ℕ) (x y : KeptCrl) → IsKeptList octets x → IsKeptList octets y → x ≡ y
one-list octets x y ((r, h), m) ((s, g), n) =
    λ i. record { list = (g.only x.list r h.found).0 i; mode = (m ∙ sym n) i }

one-lists : (octets : List (List ℕ)) (a b : List KeptCrl) → AreLists octets a → AreLists octets b
    → a ≡ b
one-lists [] [] [] h g = refl
one-lists [] [] (y ∷ b) h g = absurd g
one-lists [] (x ∷ a) b h g = absurd h
one-lists (o ∷ octets) [] b h g = absurd h
one-lists (o ∷ octets) (x ∷ a) [] h g = absurd g
one-lists (o ∷ octets) (x ∷ a) (y ∷ b) h g =
    λ i. one-list o x y h.0 g.0 i ∷ one-lists octets a b h.1 g.1 i

not-lists : (octets : List (List ℕ)) (lists : List KeptCrl) (k : ℕ) (o : List ℕ)
    → k < length octets → get_or octets k o ≡ o → HasNoFront (CrlForm Der) o
    → AreLists octets lists → ⊥
not-lists [] lists k o l e none h = absurd (omega (arith, l))
not-lists (x ∷ octets) [] k o l e none h = h
not-lists (x ∷ octets) (y ∷ lists) zero o l e none (((r, front), m), h) =
    subst (λ (z : List ℕ). HasNoFront (CrlForm Der) z) (sym e) none y.list r front.found
not-lists (x ∷ octets) (y ∷ lists) (suc k) o l e none h =
    not-lists octets lists k o (omega (arith, l)) e none h.1

-- ---- locators

one-locator : (octets : Option (List ℕ)) (x y : Option Locator) → IsGiven octets x
    → IsGiven octets y → IsSameLocator x y
one-locator None None None h g = tt
one-locator None None (Some m) h g = absurd g
one-locator None (Some l) y h g = absurd h
one-locator (Some o) None y h g = absurd h
one-locator (Some o) (Some l) None h g = absurd g
one-locator (Some o) (Some l) (Some m) h g =
    let same = g.only l.uris l.key h.form in (same.0, same.1)

not-located : (octets : Option (List ℕ)) (x : Option Locator) → IsNoLocator octets
    → IsGiven octets x → ⊥
not-located None x none h = none
not-located (Some o) None none h = h
not-located (Some o) (Some l) none h = none l.uris l.key h.form

-- ---- grounds

module _ (q : Question) where
  pub one-grounds : (g h : Grounds) → AreGroundsOf q g → AreGroundsOf q h → AreSame g h
  one-grounds g h a b =
      let moment : g.moment ≡ h.moment = a.moment ∙ sym b.moment in
      let lists = one-lists q.lists.now g.lists.items h.lists.items a.lists b.lists in
      record {
        moment = moment;
        locator = one-locator (locator_octets q) g.locator h.locator a.locator b.locator;
        lists = lists;
        issuer =
            issuer-one h.lists.items h.moment q.anchor.now g.locator h.locator q.chain.now g.issuer
            h.issuer
            (subst (λ (t : Moment). IsIssuerOf h.lists.items t q.anchor.now g.locator q.chain.now
            (Ok g.issuer)) moment
            (subst (λ (l : List KeptCrl). IsIssuerOf l g.moment q.anchor.now g.locator q.chain.now
            (Ok g.issuer)) lists a.issuer)) b.issuer;
      }

  -- a question that has grounds is refused for want of memory alone
  pub memory-alone : (g : Grounds) (refusal : Refusal) → AreGroundsOf q g → HasNoGrounds q refusal
      → is_memory refusal ≡ true
  memory-alone g Memory a h = refl
  memory-alone g NoLocator a h = absurd (not-located (locator_octets q) g.locator h a.locator)
  memory-alone g (NoList place) a (l, n) =
      absurd (not-lists q.lists.now g.lists.items place n.one n.placed.there n.placed.is n.none
      a.lists)
  memory-alone g (Issuer fault) a h =
      issuer-not g.lists.items q.moment q.anchor.now g.locator h.locator
      (one-locator (locator_octets q) g.locator h.locator a.locator h.is_given) q.chain.now g.issuer
      fault
      (subst (λ (t : Moment). IsIssuerOf g.lists.items t q.anchor.now g.locator q.chain.now
      (Ok g.issuer)) a.moment a.issuer)
      (subst (λ (l : List KeptCrl). IsIssuerOf l q.moment q.anchor.now h.locator q.chain.now
      (Err fault)) (one-lists q.lists.now h.lists g.lists.items h.are_lists a.lists) h.made)
  memory-alone g (Check fault) a h = absurd h
  memory-alone g (Revoked place) a h = absurd h
