-- Two issuers that are made of the same files.
use Rattle.std.proofs.Common.{◌≡◌, ◌∙◌, ℕ, List, [], ◌∷◌, Bool, true, false, Ok, Err}
use Rattle.std.proofs.Common.{refl, ap, sym, subst, inl, inr, ◌&&◌, IsTrue}
use Rattle.sha2.specs.Sha256.{sha256}
use Rattle.rpki_der.specs.declared.error.DecodeError.{DecodeError}
use Rattle.rpki_der.specs.declared.error.DecodeError.TheVariants as decoding
use Rattle.rpki_der.specs.declared.mode.Mode.{Mode}
use Rattle.rpki_der.specs.declared.mode.Mode.TheVariants.{Der}
use Rattle.rpki_der.specs.Form.Decodes.{IsOnlyFront}
use Rattle.rpki_der.specs.Grammar.{HasNoFront}
use Rattle.rpki_der.specs.Read.Reads.{Refuses}
use Rattle.rpki_basics.specs.Moment.{Moment}
use Rattle.rpki_resources.specs.declared.block.Block.{Block}
use Rattle.rpki_resources.specs.declared.resources.Claim.{Claim}
use Rattle.rpki_resources.specs.declared.resources.Claim.TheVariants.{Missing, Inherit, Explicit}
use Rattle.rpki_resources.specs.Blocks.{Covers, SameSet, holds}
use Rattle.rpki_resources.specs.Claim.{HasBlocks}
use Rattle.rpki_faults.specs.Checks.{AllHold}
use Rattle.rpki_faults.specs.Validated.{IsAllowed, IsLeft, IsValidated}
use Rattle.rpki_faults.specs.declared.overclaim.Overclaim.{Overclaim}
use Rattle.rpki_faults.specs.declared.overclaim.Overclaim.TheVariants.{Refuse, Trim}
use Rattle.rpki_faults.specs.declared.validation.ValidationError.{ValidationError}
use Rattle.rpki_faults.specs.declared.validation.ValidationError.TheVariants as validation
use Rattle.rpki_faults.proofs.Order.{first-fails}
use Rattle.rpki_certs.specs.Cert.{Certificate, KeptCertificate, CertForm}
use Rattle.rpki_certs.specs.Inspect.{ca_checks}
use Rattle.rpki_certs.specs.Issuer.{in_der, IsAnchored, IsIssued, Follows}
use Rattle.rpki_certs.specs.Issuer.{MakesIssuer}
use Rattle.rpki_certs.specs.Validate.{Sets, Validated}
use Rattle.rpki_certs.specs.Validate.{IsAnchorOf, IsValidatedUnder, IsGoodUnder, ta_validation}
use Rattle.rpki_certs.specs.Validate.{ca_validation}
use Rattle.rpki_certs.specs.Verify.{Verdict, IsClaimedOf, IsSignedBy}
use Rattle.rpki_certs.specs.declared.issuer.IssuerError.{IssuerError}
use Rattle.rpki_certs.specs.declared.issuer.IssuerError.TheVariants as issuing
use Rattle.rpki_certs.proofs.Valid.{issued-valid}
use Rattle.rpki_sigobj.specs.Object.{SignedData}
use Rattle.rpki_sigobj.specs.Signed.Good.{IsGood}
use Rattle.rpki_sigobj.specs.Signed.Kind as signed
use Rattle.rpki_sigobj.specs.Signed.Process.{validation as valid_checks}
use Rattle.rpki_sigobj.specs.Signed.{Whole, ObjectForm, cert_in}
use Rattle.rpki_sigobj.specs.Verify.{Digester}
use Rattle.rpki_sigobj.proofs.Valid.{published-valid, detached-valid}
use Rattle.rpki_cli.specs.declared.words.Kind.{Kind}
use Rattle.rpki_cli.specs.declared.words.Kind.TheVariants.{Aspa, Manifest, Roa, Rsc}
use Rattle.rpki_cli.specs.declared.words.Options.{Options}
use Rattle.rpki_cli.specs.Answer.{Run, out_of_memory}
use Rattle.rpki_show.specs.Kinds.{OfKind}
use Rattle.rpki_show.specs.Options.{read_mode}
use Rattle.rpki_command.specs.Check.{issuer_refusal}
use Rattle.rpki_command.specs.Yes.{FilesOfCheck, BeginsWithNoGood, PrintsYes, IsRightYes, IsRightNo}
use Rattle.rpki_command.specs.Same.{HaveSameNumbers, IsSameIssuer}

-- ---- sets

abbrev Blocks : Type 0
Blocks = List (Block ℕ)

same-of : (a b : Blocks) → a ≡ b → SameSet (λ (n : ℕ). n) a b
same-of a b e = λ k. ap (λ (bs : Blocks). holds (λ (n : ℕ). n) bs k) e

-- a claim names one set
one-named : (claim : Claim Blocks) (a b : Blocks) → HasBlocks claim a → HasBlocks claim b → a ≡ b
one-named Missing a b h g = h ∙ sym g
one-named Inherit a b h g = absurd h
one-named (Explicit blocks) a b h g = h ∙ sym g

-- what is inherited names none
none-named : (claim : Claim Blocks) (a : Blocks) → claim ≡ Inherit → HasBlocks claim a → ⊥
none-named claim a e h = subst (λ (c : Claim Blocks). HasBlocks c a) e h

module _ (issuer other : Blocks) (same : SameSet (λ (n : ℕ). n) issuer other) where
  left-same : (a b : Blocks) (policy : Overclaim) (named : Blocks)
      → IsLeft (λ (n : ℕ). n) policy named issuer a → IsLeft (λ (n : ℕ). n) policy named other b
      → SameSet (λ (n : ℕ). n) a b
  left-same a b Refuse named h g = same-of a b (h ∙ sym g)
  left-same a b Trim named h g = λ k.
      h k ∙ ap (λ (x : Bool). holds (λ (n : ℕ). n) named k && x) (same k) ∙ sym (g k)

  -- sets that are validated of one claim have the same numbers
  set-same : (a b : Blocks) (policy : Overclaim) (claim : Claim Blocks)
      → IsValidated (λ (n : ℕ). n) policy claim issuer a
      → IsValidated (λ (n : ℕ). n) policy claim other b → SameSet (λ (n : ℕ). n) a b
  set-same a b policy claim (inl h) (inl g) = λ k.
      same-of a issuer h.1 k ∙ same k ∙ same-of other b (sym g.1) k
  set-same a b policy claim (inl h) (inr g) = absurd (none-named claim g.0 h.0 g.1)
  set-same a b policy claim (inr h) (inl g) = absurd (none-named claim h.0 g.0 h.1)
  set-same a b policy claim (inr h) (inr g) = left-same a b policy h.0 h.2
      (subst (λ (n : Blocks). IsLeft (λ (m : ℕ). m) policy n other b)
      (one-named claim g.0 h.0 g.1 h.1) g.2)

  left-carried : (a : Blocks) (policy : Overclaim) (named : Blocks)
      → IsLeft (λ (n : ℕ). n) policy named issuer a → IsLeft (λ (n : ℕ). n) policy named other a
  left-carried a Refuse named h = h
  left-carried a Trim named h = λ k.
      h k ∙ ap (λ (x : Bool). holds (λ (n : ℕ). n) named k && x) (same k)

  -- what is validated under the one is validated under the other, with the same numbers
  set-carried : (a : Blocks) (policy : Overclaim) (claim : Claim Blocks)
      → IsValidated (λ (n : ℕ). n) policy claim issuer a
      → (b : Blocks) × IsValidated (λ (n : ℕ). n) policy claim other b
      × SameSet (λ (n : ℕ). n) a b
  set-carried a policy claim (inl h) =
      (other, inl (h.0, refl), λ k. same-of a issuer h.1 k ∙ same k)
  set-carried a policy claim (inr h) =
      (a, inr (h.0, h.1, left-carried a policy h.0 h.2), λ k. refl)

  covers-carried : (inner : Blocks) → Covers (λ (n : ℕ). n) issuer inner
      → Covers (λ (n : ℕ). n) other inner
  covers-carried inner h k held = subst IsTrue (same k) (h k held)

  allowed-carried : (policy : Overclaim) (claim : Claim Blocks)
      → IsAllowed (λ (n : ℕ). n) policy claim issuer → IsAllowed (λ (n : ℕ). n) policy claim other
  allowed-carried policy claim h e named is = covers-carried named (h e named is)

-- ---- issuers

-- a trust anchor has the numbers that it claims
anchors-same : (k : KeptCertificate) (v w : Validated) → IsAnchorOf k v → IsAnchorOf k w
    → IsSameIssuer v w
unfolding IsAnchorOf
anchors-same k v w h g =
    let x = k.certificate.tbs.extensions.claims in
    record {
      cert = h.0 ∙ sym g.0;
      numbers = record {
        as_numbers = same-of v.sets.as_numbers w.sets.as_numbers (one-named x.as_numbers
            v.sets.as_numbers w.sets.as_numbers h.1.as_numbers g.1.as_numbers);
        v4 = same-of v.sets.v4 w.sets.v4
            (one-named x.addresses.v4 v.sets.v4 w.sets.v4 h.1.v4 g.1.v4);
        v6 = same-of v.sets.v6 w.sets.v6
            (one-named x.addresses.v6 v.sets.v6 w.sets.v6 h.1.v6 g.1.v6);
      };
    }

module _ (issuer other : Validated) (same : IsSameIssuer issuer other) where
  -- so has a certificate that is validated under it
  validated-same : (k : KeptCertificate) (v w : Validated) → IsValidatedUnder k issuer v
      → IsValidatedUnder k other w → IsSameIssuer v w
  unfolding IsValidatedUnder
  validated-same k v w h g =
      let x = k.certificate.tbs.extensions.claims in
      let n = same.numbers in
      record {
        cert = h.0 ∙ sym g.0;
        numbers = record {
          as_numbers = set-same issuer.sets.as_numbers other.sets.as_numbers n.as_numbers
              v.sets.as_numbers w.sets.as_numbers x.policy x.as_numbers h.1.as_numbers
              g.1.as_numbers;
          v4 = set-same issuer.sets.v4 other.sets.v4 n.v4 v.sets.v4 w.sets.v4 x.policy
              x.addresses.v4 h.1.v4 g.1.v4;
          v6 = set-same issuer.sets.v6 other.sets.v6 n.v6 v.sets.v6 w.sets.v6 x.policy
              x.addresses.v6 h.1.v6 g.1.v6;
        };
      }

  validated-carried : (k : KeptCertificate) (v : Validated) → IsValidatedUnder k issuer v
      → (w : Validated) × IsValidatedUnder k other w × HaveSameNumbers v.sets w.sets
  unfolding IsValidatedUnder
  validated-carried k v h =
      let x = k.certificate.tbs.extensions.claims in
      let n = same.numbers in
      let a = set-carried issuer.sets.as_numbers other.sets.as_numbers n.as_numbers
      v.sets.as_numbers x.policy x.as_numbers h.1.as_numbers in
      let b = set-carried issuer.sets.v4 other.sets.v4 n.v4 v.sets.v4 x.policy x.addresses.v4 h.1.v4
      in
      let c = set-carried issuer.sets.v6 other.sets.v6 n.v6 v.sets.v6 x.policy x.addresses.v6 h.1.v6
      in (
        record { cert = v.cert; sets = record { as_numbers = a.0; v4 = b.0; v6 = c.0 } },
        (h.0, record { as_numbers = a.1; v4 = b.1; v6 = c.1 }),
        record { as_numbers = a.2; v4 = b.2; v6 = c.2 },
      )

  under-carried : (verdict : Verdict) (c : Certificate) (now : Moment)
      → IsGoodUnder verdict c issuer now → IsGoodUnder verdict c other now
  under-carried verdict c now h =
      let x = c.tbs.extensions.claims in
      let n = same.numbers in
      record {
        claimed = subst (λ (k : KeptCertificate). IsClaimedOf k.certificate.tbs c.tbs) same.cert
            h.claimed;
        in_time = h.in_time;
        signed = subst (λ (k : KeptCertificate). IsSignedBy verdict k.certificate.tbs.key c)
            same.cert h.signed;
        allowed = record {
          as_numbers = allowed-carried issuer.sets.as_numbers other.sets.as_numbers n.as_numbers
              x.policy x.as_numbers h.allowed.as_numbers;
          v4 = allowed-carried issuer.sets.v4 other.sets.v4 n.v4 x.policy x.addresses.v4
              h.allowed.v4;
          v6 = allowed-carried issuer.sets.v6 other.sets.v6 n.v6 x.policy x.addresses.v6
              h.allowed.v6;
        };
      }

  ca-carried : (verdict : Verdict) (c : Certificate) (now : Moment)
      → AllHold (ca_validation verdict c issuer now) → AllHold (ca_validation verdict c other now)
  unfolding ca_validation
  ca-carried verdict c now h =
      let p = (issued-valid (ca_checks c.tbs) verdict c issuer now).0 h in
      (issued-valid (ca_checks c.tbs) verdict c other now).1
      (p.0, under-carried verdict c now p.1)

-- ---- one file

-- the fault is not that memory ran out
abbrev pub HasMemory : IssuerError → Type 0
HasMemory fault = (¬ (fault ≡ issuing.Decode decoding.Memory))
    × ¬ (fault ≡ issuing.Validation validation.Memory)

-- octets that begin with a certificate are not refused as none
not-refused : (octets : List ℕ) (c : Certificate) (rest : List ℕ) (fault : DecodeError)
    → IsOnlyFront (CertForm Der) octets c rest
    → Refuses fault (HasNoFront (CertForm Der) octets)
    → ¬ (issuing.Decode fault ≡ issuing.Decode decoding.Memory) → ⊥
not-refused octets c rest decoding.Memory front none memory = memory refl
not-refused octets c rest decoding.Malformed front none memory = none c rest front.found
not-refused octets c rest (decoding.Content fault) front none memory = none c rest front.found

module _ (verdict : Verdict) (now : Moment) (octets : List ℕ) where
  anchored-same : (v w : Validated) → IsAnchored verdict now octets (Ok v)
      → IsAnchored verdict now octets (Ok w) → IsSameIssuer v w
  anchored-same v w h g =
      anchors-same (in_der h.cert) v w h.holds.1 (subst (λ (c : Certificate).
      IsAnchorOf (in_der c) w) (h.front.only g.cert g.rest g.front.found).0 g.holds.1)

  anchored-not : (v : Validated) (fault : IssuerError) → IsAnchored verdict now octets (Ok v)
      → IsAnchored verdict now octets (Err fault) → HasMemory fault → ⊥
  anchored-not v (issuing.Decode fault) h g memory =
      not-refused octets h.cert h.rest fault h.front g memory.0
  anchored-not v (issuing.Validation fault) h g memory = elim g.holds [
    | inl e ↦ memory.1 (ap (λ (f : ValidationError). issuing.Validation f) e)
    | inr first ↦ first-fails (ta_validation verdict g.cert now) fault first
        (subst (λ (c : Certificate). AllHold (ta_validation verdict c now))
        (g.front.only h.cert h.rest h.front.found).0 h.holds.0)
  ]

  module _ (issuer other : Validated) (same : IsSameIssuer issuer other) where
    issued-same : (v w : Validated) → IsIssued verdict now issuer octets (Ok v)
        → IsIssued verdict now other octets (Ok w) → IsSameIssuer v w
    issued-same v w h g =
        validated-same issuer other same (in_der h.cert) v w h.holds.1
        (subst (λ (c : Certificate). IsValidatedUnder (in_der c) other w)
        (h.front.only g.cert g.rest g.front.found).0 g.holds.1)

    issued-not : (v : Validated) (fault : IssuerError) → IsIssued verdict now issuer octets (Ok v)
        → IsIssued verdict now other octets (Err fault) → HasMemory fault → ⊥
    issued-not v (issuing.Decode fault) h g memory =
        not-refused octets h.cert h.rest fault h.front g memory.0
    issued-not v (issuing.Validation fault) h g memory = elim g.holds [
      | inl e ↦ memory.1 (ap (λ (f : ValidationError). issuing.Validation f) e)
      | inr first ↦ first-fails (ca_validation verdict g.cert other now) fault first
          (ca-carried issuer other same verdict g.cert now
          (subst (λ (c : Certificate). AllHold (ca_validation verdict c issuer now))
          (g.front.only h.cert h.rest h.front.found).0 h.holds.0))
    ]

-- ---- a chain

module _ (verdict : Verdict) (now : Moment) where
  follows-same : (chain : List (List ℕ)) (first second v w : Validated)
      → IsSameIssuer first second → Follows verdict now first chain (Ok v)
      → Follows verdict now second chain (Ok w) → IsSameIssuer v w
  follows-same [] first second v w same h g =
      let p : v ≡ first = cc in
      let q : w ≡ second = cc in
      subst (λ (x : Validated). IsSameIssuer x w) (sym p)
      (subst (λ (y : Validated). IsSameIssuer first y) (sym q) same)
  follows-same (o ∷ chain) first second v w same (Ok next, h, t) (Ok last, g, u) =
      follows-same chain next last v w (issued-same verdict now o first second same next last h g) t
      u
  follows-same (o ∷ chain) first second v w same (Ok next, h, t) (Err e, g, u) = absurd cc
  follows-same (o ∷ chain) first second v w same (Err e, h, t) r = absurd cc

  follows-not : (chain : List (List ℕ)) (first second v : Validated) (fault : IssuerError)
      → IsSameIssuer first second → Follows verdict now first chain (Ok v)
      → Follows verdict now second chain (Err fault) → HasMemory fault → ⊥
  follows-not [] first second v fault same h g memory = absurd cc
  follows-not (o ∷ chain) first second v fault same (Ok next, h, t) (Ok last, g, u) memory =
      follows-not chain next last v fault
      (issued-same verdict now o first second same next last h g) t u memory
  follows-not (o ∷ chain) first second v fault same (Ok next, h, t) (Err e, g, u) memory =
      let p : fault ≡ e = cc in
      issued-not verdict now o first second same next e h g (subst HasMemory p memory)
  follows-not (o ∷ chain) first second v fault same (Err e, h, t) r memory = absurd cc

  -- two issuers of the same files have the same certificate and the same numbers
  pub makes-same : (anchor : List ℕ) (chain : List (List ℕ)) (v w : Validated)
      → MakesIssuer verdict now anchor chain (Ok v)
      → MakesIssuer verdict now anchor chain (Ok w) → IsSameIssuer v w
  makes-same anchor chain v w (Ok first, h, t) (Ok second, g, u) =
      follows-same chain first second v w (anchored-same verdict now anchor first second h g) t u
  makes-same anchor chain v w (Ok first, h, t) (Err e, g, u) = absurd cc
  makes-same anchor chain v w (Err e, h, t) r = absurd cc

  -- where they make one, they are not refused but for want of memory
  pub makes-not : (anchor : List ℕ) (chain : List (List ℕ)) (v : Validated) (fault : IssuerError)
      → MakesIssuer verdict now anchor chain (Ok v)
      → MakesIssuer verdict now anchor chain (Err fault) → HasMemory fault → ⊥
  makes-not anchor chain v fault (Ok first, h, t) (Ok second, g, u) memory =
      follows-not chain first second v fault (anchored-same verdict now anchor first second h g) t
      u memory
  makes-not anchor chain v fault (Ok first, h, t) (Err e, g, u) memory =
      let p : fault ≡ e = cc in
      anchored-not verdict now anchor first e h g (subst HasMemory p memory)
  makes-not anchor chain v fault (Err e, h, t) r memory = absurd cc

-- ---- objects

-- what the kind asks for of an object lies in sets with the same numbers
abbrev pub Spans : {X : Type 0} → signed.ObjectKind X → Type 0
Spans {X} kind = (o : Whole X) (a b : Sets) → HaveSameNumbers a b
    → kind.covers o.content o.object.signed.cert.tbs.extensions.claims a
    → kind.covers o.content o.object.signed.cert.tbs.extensions.claims b

spans-kind : (options : Options) (kind : Kind)
    → OfKind options kind (λ X asked form text. Spans asked)
spans-kind options Aspa = λ o a b same h. record {
  customer = h.customer;
  v4 = h.v4;
  v6 = h.v6;
  held = λ n held. subst IsTrue (same.as_numbers n) (h.held n held);
}
spans-kind options Manifest = λ o a b same h. tt
spans-kind options Roa = λ o a b same h. record {
  v4 = λ k d l n held. subst IsTrue (same.v4 n) (h.v4 k d l n held);
  v6 = λ k d l n held. subst IsTrue (same.v6 n) (h.v6 k d l n held);
}
spans-kind options Rsc = λ o a b same h. record {
  as_numbers = λ n held. subst IsTrue (same.as_numbers n) (h.as_numbers n held);
  v4 = λ n held. subst IsTrue (same.v4 n) (h.v4 n held);
  v6 = λ n held. subst IsTrue (same.v6 n) (h.v6 n held);
}

valid-carried : (published : Bool) (digest : Digester) (verdict : Verdict) (s : SignedData)
    (issuer other : Validated) (now : Moment) → IsSameIssuer issuer other
    → AllHold (valid_checks published digest verdict s issuer now)
    → AllHold (valid_checks published digest verdict s other now)
valid-carried true digest verdict s issuer other now same h =
    let p = (published-valid digest verdict s issuer now).0 h in
    (published-valid digest verdict s other now).1
    (p.0, p.1, under-carried issuer other same verdict s.cert now p.2)
valid-carried false digest verdict s issuer other now same h =
    let p = (detached-valid digest verdict s issuer now).0 h in
    (detached-valid digest verdict s other now).1
    (p.0, p.1, under-carried issuer other same verdict s.cert now p.2)

-- an object that is good under the one is good under the other
pub good-carried : {X : Type 0} (kind : signed.ObjectKind X) (spans : Spans kind) (mode : Mode)
    (digest : Digester) (verdict : Verdict) (issuer other : Validated) (now : Moment)
    (o : Whole X) (v : Validated) → IsSameIssuer issuer other
    → IsGood kind mode digest verdict issuer now o v
    → (w : Validated) × IsGood kind mode digest verdict other now o w
good-carried kind spans mode digest verdict issuer other now o v same h =
    let c = validated-carried issuer other same (cert_in mode o) v h.certificate in (
      c.0,
      record {
        valid = valid-carried kind.is_published digest verdict o.object.signed issuer other now same
            h.valid;
        certificate = c.1;
        covered = spans o v.sets c.0.sets c.2 h.covered;
      },
    )

-- octets that begin with it begin with no other
pub not-both : {X : Type 0} (kind : signed.ObjectKind X) (form : List ℕ → X → Type 0)
    (spans : Spans kind) (mode : Mode) (digest : Digester) (verdict : Verdict)
    (issuer other : Validated) (now : Moment) (octets : List ℕ) (o : Whole X) (rest : List ℕ)
    (v : Validated) → IsSameIssuer issuer other
    → IsOnlyFront (ObjectForm kind.type form mode) octets o rest
    → IsGood kind mode digest verdict issuer now o v
    → BeginsWithNoGood kind form mode digest verdict other now octets → ⊥
not-both kind form spans mode digest verdict issuer other now octets o rest v same front good
    (inl none) = none o rest front.found
not-both {X} kind form spans mode digest verdict issuer other now octets o rest v same front good
    (inr b) =
    let w = good-carried kind spans mode digest verdict issuer other now o v same good in
    b.holds w.0 (subst (λ (x : Whole X). IsGood kind mode digest verdict other now x w.0)
    (b.front.only o rest front.found).0 w.1)

-- what excludes each other for each kind excludes each other for this one
pub kinds-clash : (options : Options) (kind : Kind)
    (P Q : (X : Type 0) → signed.ObjectKind X → (List ℕ → X → Type 0) → (X → List ℕ) → Type 0)
    → ((X : Type 0) (asked : signed.ObjectKind X) (form : List ℕ → X → Type 0) (text : X → List ℕ)
    → P X asked form text → Q X asked form text → Spans asked → ⊥)
    → OfKind options kind P → OfKind options kind Q → ⊥
kinds-clash options Aspa P Q clash p q = clash _ _ _ _ p q (spans-kind options Aspa)
kinds-clash options Manifest P Q clash p q = clash _ _ _ _ p q (spans-kind options Manifest)
kinds-clash options Roa P Q clash p q = clash _ _ _ _ p q (spans-kind options Roa)
kinds-clash options Rsc P Q clash p q = clash _ _ _ _ p q (spans-kind options Rsc)

-- ---- a check

-- a fault that is not said to be want of memory is none
pub memory-had : (fault : IssuerError) → (issuer_refusal fault ≡ out_of_memory → ⊥)
    → HasMemory fault
memory-had fault h = ((λ e. h (ap issuer_refusal e)), (λ e. h (ap issuer_refusal e)))

-- a fault that can't be another one is want of memory
only-memory : (fault : IssuerError) → (HasMemory fault → ⊥)
    → issuer_refusal fault ≡ out_of_memory
only-memory (issuing.Decode decoding.Memory) h = refl
only-memory (issuing.Decode decoding.Malformed) h =
    absurd (h ((λ e. absurd cc), (λ e. absurd cc)))
only-memory (issuing.Decode (decoding.Content fault)) h =
    absurd (h ((λ e. absurd cc), (λ e. absurd cc)))
only-memory (issuing.Validation validation.Memory) h = refl
only-memory (issuing.Validation (validation.Inspection fault)) h =
    absurd (h ((λ e. absurd cc), (λ e. absurd cc)))
only-memory (issuing.Validation (validation.Verification fault)) h =
    absurd (h ((λ e. absurd cc), (λ e. absurd cc)))

-- certificates that make an issuer are refused for nothing else
pub makes-spent : (verdict : Verdict) (now : Moment) (anchor : List ℕ) (chain : List (List ℕ))
    (v : Validated) (fault : IssuerError) → MakesIssuer verdict now anchor chain (Ok v)
    → MakesIssuer verdict now anchor chain (Err fault) → issuer_refusal fault ≡ out_of_memory
makes-spent verdict now anchor chain v fault made none =
    only-memory fault (makes-not verdict now anchor chain v fault made none)

module _ (options : Options) (kind : Kind) (verdict : Verdict) (now : Moment) (files : FilesOfCheck)
    (run : Run) where
  -- a yes and a no exclude each other
  pub yes-or-no : IsRightYes options kind verdict now files run
      → IsRightNo options kind verdict now files → ⊥
  yes-or-no right (inl none) =
      makes-not verdict now files.anchor files.chain right.issuer none.fault right.made none.made
      (memory-had none.fault none.has_memory)
  yes-or-no right (inr other) =
      let same = makes-same verdict now files.anchor files.chain right.issuer other.issuer
      right.made other.made in
      kinds-clash options kind
      (λ X asked form text. PrintsYes asked form text (read_mode options) sha256 verdict
      right.issuer now files.object run)
      (λ X asked form text. BeginsWithNoGood asked form (read_mode options) sha256 verdict
      other.issuer now files.object)
      (λ X asked form text p q spans. not-both asked form spans (read_mode options) sha256 verdict
      right.issuer other.issuer now files.object p.object p.rest p.certificate same p.front p.good q)
      right.yes other.no
