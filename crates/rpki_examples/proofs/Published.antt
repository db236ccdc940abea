-- Objects that an authority made and checked.
use Rattle.std.proofs.Common.{◌≡◌, ◌≤◌, ◌⊎◌, ◌++◌, ℕ, List, [], ◌∷◌, inl, inr, refl, ap, sym}
use Rattle.std.proofs.Common.{◌∙◌, Result, Ok, Err, subst, true}
use Rattle.std.specs.Prelude.{Contains, IfErr, IfOk}
use Rattle.std.proofs.lemmas.List.{append-nil}
use Rattle.rpki_der.specs.Grammar.{Front}
use Rattle.rpki_der.specs.declared.error.DecodeError.TheVariants as decode
use Rattle.rpki_der.specs.declared.mode.Mode.TheVariants.{Der}
use Rattle.rpki_basics.specs.Moment.{Moment, Period, stamp}
use Rattle.rpki_resources.specs.As.Form.{only}
use Rattle.rpki_resources.specs.Blocks.{Covers, Holds}
use Rattle.rpki_resources.specs.declared.block.Block.{Block}
use Rattle.rpki_resources.specs.declared.resources.Claim.{Claim}
use Rattle.rpki_resources.specs.declared.resources.Claim.TheVariants.{Missing}
use Rattle.rpki_faults.specs.Checks.{AllHold, IsFirstFault}
use Rattle.rpki_faults.specs.Validated.{IsAllowed}
use Rattle.rpki_faults.specs.declared.overclaim.Overclaim.TheVariants.{Refuse}
use Rattle.rpki_faults.specs.declared.validation.ValidationError.{ValidationError}
use Rattle.rpki_faults.specs.declared.validation.ValidationError.TheVariants.{Memory}
use Rattle.rpki_faults.proofs.Order.{first-fails, hold-join}
use Rattle.rpki_crls.specs.Crl.{IsSignedBy, KeptCrl, RevocationList}
use Rattle.rpki_certs.specs.Cert.{Certificate, KeptCertificate}
use Rattle.rpki_certs.specs.Inspect.{NamesNothing, ta_checks}
use Rattle.rpki_certs.specs.Validate.{AreAllowed, IsGoodAnchor, IsValidatedUnder, Sets, Validated}
use Rattle.rpki_certs.specs.Validate.{ta_validation}
use Rattle.rpki_certs.specs.Verify.{Verdict, IsInTime}
use Rattle.rpki_issued.specs.Tbs.{Unsigned, tbs_of}
use Rattle.rpki_issued.specs.Written.{made_certificate, tbs_octets}
use Rattle.rpki_issued_crls.specs.Lists.{UnsignedList, made_list, name_of}
use Rattle.rpki_issued_crls.specs.Lists.{tbs_octets as list_octets}
use Rattle.rpki_sigobj.specs.Object.{SignedData}
use Rattle.rpki_sigobj.specs.Verify.{Digester}
use Rattle.rpki_sigobj.specs.Signed.Good.{IsGood}
use Rattle.rpki_sigobj.specs.Signed.Kind.{ObjectKind}
use Rattle.rpki_sigobj.specs.Signed.Process.{AnswersAsked, before_revocation, said_checks}
use Rattle.rpki_sigobj.specs.Signed.{Whole, ObjectForm, cert_in}
use Rattle.rpki_signing.specs.Built.{Settings, AreSignatures, IsBuilt, IsFit, claims_of}
use Rattle.rpki_signing.specs.Content.{Passes}
use Rattle.rpki_routes.specs.Aspa.{Aspa}
use Rattle.rpki_routes.specs.Aspa.Signed.{claiming}
use Rattle.rpki_routes.specs.Roa.{Roa}
use Rattle.rpki_routes.specs.Roa.Checks.{RoaCovered}
use Rattle.rpki_routes.specs.Roa.Signed.{ClaimsPrefixes}
use Rattle.rpki_routes.proofs.Origins.Signed.{claim-allowed}
use Rattle.rpki_signed.specs.declared.check.CheckError.{CheckError}
use Rattle.rpki_signed.specs.declared.check.CheckError.TheVariants.{Decode, Validation}
use Rattle.rpki_signed.specs.Check.{BeginsWith, Checks}
use Rattle.rpki_signed.specs.Exact.{IsExact}
use Rattle.rpki_examples.specs.Authority.{Checking, Desk, IsFaultOf, IsFaulty, IsFitAnchor}
use Rattle.rpki_examples.specs.Authority.{IsNoAnchor, IsPublished, IsTimely, IsWantOfMemory, Takes}
use Rattle.rpki_examples.specs.Received.{IsUnrevoked, SaysAs, SaysOf}

-- what is answered by what is said is answered by the list
pub first-by-list : {X : Type 0} (kind : ObjectKind X) (form : List ℕ → X → Type 0)
    (digest : Digester) (verdict : Verdict) (issuer : Validated) (now : Moment) (octets : List ℕ)
    (list : RevocationList)
    (Says : KeptCertificate → Result (Unit {0}) ValidationError → Type 0) → SaysAs Says list
    → (r : Result (Validated × X) CheckError)
    → Checks kind form Der digest verdict issuer now Says octets r
    → Checks kind form Der digest verdict issuer now (SaysOf list) octets r
first-by-list {X} kind form digest verdict issuer now octets list Says means r h = of r h
  where
    asked : (o : Whole X) (s : Result (Validated × X) ValidationError)
        → AnswersAsked (before_revocation kind digest verdict o issuer now)
        (IsValidatedUnder (cert_in Der o) issuer) (Says (cert_in Der o)) (kind.held o.content)
        o.content s
        → AnswersAsked (before_revocation kind digest verdict o issuer now)
        (IsValidatedUnder (cert_in Der o) issuer) (SaysOf list (cert_in Der o))
        (kind.held o.content) o.content s
    asked o s (inl e) = inl e
    asked o s (inr p) = inr (record {
      valid = p.valid;
      said = p.said;
      asked = λ all. ((p.asked all).0, means (cert_in Der o) p.said (p.asked all).1);
      first = p.first;
    })

    of : (r : Result (Validated × X) CheckError)
        → Checks kind form Der digest verdict issuer now Says octets r
        → Checks kind form Der digest verdict issuer now (SaysOf list) octets r
    of (Ok a) h = record {
      object = h.object;
      rest = h.rest;
      front = h.front;
      holds = asked h.object (Ok a) h.holds;
    }
    of (Err (Decode e)) h = h
    of (Err (Validation fault)) h = record {
      object = h.object;
      rest = h.rest;
      front = h.front;
      holds = asked h.object (Err fault) h.holds;
    }

module _ {X : Type 0} (kind : ObjectKind X) (form : List ℕ → X → Type 0) (by : Checking)
    (o : Whole X) (written : ObjectForm kind.type form Der o.object.octets o) where
  front : Front (ObjectForm kind.type form Der) o.object.octets o []
  front = (o.object.octets, sym (append-nil o.object.octets), written)

  -- what the octets begin with is the object
  same : (P : Whole X → Type 0)
      → BeginsWith (ObjectForm kind.type form Der) o.object.octets P → P o
  same P b = subst P (sym (b.front.only o [] front).0) b.holds

  -- an object of which a yes is answered is published
  pub yes-published : (r : Result (Validated × X) CheckError)
      → IsExact kind form Der by.digest by.verdict by.issuer by.moment (SaysOf by.list)
      o.object.octets r → IfOk r (λ _.
      IsPublished kind form by o.content (λ s. s ≡ o.object.signed) o.object.octets)
  yes-published (Ok a) h =
      let p = same (λ (x : Whole X). SaysOf by.list (cert_in Der x) (Ok tt)
      × IsGood kind Der by.digest by.verdict by.issuer by.moment x a.0 × (a.1 ≡ x.content)) h in
      record {
        object = o;
        written = written;
        content = refl;
        good = (a.0, p.1, p.0.0);
        issued = refl;
      }
  yes-published (Err e) h = tt

  said-yes : (said : Result (Unit {0}) ValidationError)
      → SaysOf by.list (cert_in Der o) said → IsUnrevoked by.list o.object.signed.cert
      → AllHold (said_checks said)
  said-yes (Ok done) h u = tt
  said-yes (Err fault) (inl h) u = absurd h.1
  said-yes (Err fault) (inr h) u = absurd (h.0 u)

  -- what a check answers of the octets is answered of the object
  pub faulty : (r : Result (Validated × X) CheckError)
      → Checks kind form Der by.digest by.verdict by.issuer by.moment (SaysOf by.list)
      o.object.octets r → IfErr r (IsFaulty kind by o.content (λ s. s ≡ o.object.signed))
  faulty (Ok a) h = tt
  faulty (Err (Decode decode.Memory)) h = refl
  faulty (Err (Decode decode.Malformed)) h = absurd (h o [] front)
  faulty (Err (Decode (decode.Content fault))) h = absurd (h o [] front)
  faulty (Err (Validation fault)) h =
      (o, refl, refl, same (λ (x : Whole X). IsFaultOf kind by x fault) h)

  -- an object that passes its validation is refused for want of memory alone
  pub only-memory : Passes kind Der by.digest by.verdict by.issuer by.moment o
      → IsUnrevoked by.list o.object.signed.cert → (r : Result (Validated × X) CheckError)
      → Checks kind form Der by.digest by.verdict by.issuer by.moment (SaysOf by.list)
      o.object.octets r → IfErr r IsWantOfMemory
  only-memory passes u (Ok a) h = tt
  only-memory passes u (Err (Decode decode.Memory)) h = refl
  only-memory passes u (Err (Decode decode.Malformed)) h = absurd (h o [] front)
  only-memory passes u (Err (Decode (decode.Content fault))) h = absurd (h o [] front)
  only-memory passes u (Err (Validation fault)) h = of (same (λ (x : Whole X).
      AnswersAsked (before_revocation kind by.digest by.verdict x by.issuer by.moment)
      (IsValidatedUnder (cert_in Der x) by.issuer) (SaysOf by.list (cert_in Der x))
      (kind.held x.content) x.content (let s : Result (Validated × X) ValidationError = Err fault
      in s)) h)
    where
      of : AnswersAsked (before_revocation kind by.digest by.verdict o by.issuer by.moment)
          (IsValidatedUnder (cert_in Der o) by.issuer) (SaysOf by.list (cert_in Der o))
          (kind.held o.content) o.content
          (let s : Result (Validated × X) ValidationError = Err fault in s) → fault ≡ Memory
      of (inl e) = cc
      of (inr p) =
          let asked = p.asked passes.before in
          absurd (first-fails (before_revocation kind by.digest by.verdict o by.issuer by.moment
          ++ (said_checks p.said ++ kind.held o.content p.valid.sets)) fault p.first
          (hold-join (before_revocation kind by.digest by.verdict o by.issuer by.moment)
          (said_checks p.said ++ kind.held o.content p.valid.sets) (
            passes.before,
            hold-join (said_checks p.said) (kind.held o.content p.valid.sets)
                (said-yes p.said asked.1 u, passes.held p.valid asked.0),
          )))

module _ {X : Type 0} (kind : ObjectKind X) (by : Checking) (content told : X) (signed : SignedData)
    (Issued : SignedData → Type 0) (says : content ≡ told) (issued : Issued signed) where
  -- what is published says what was told, and was issued as it was told
  pub published-as : (form : List ℕ → X → Type 0) (octets : List ℕ)
      → IsPublished kind form by content (λ s. s ≡ signed) octets
      → IsPublished kind form by told Issued octets
  published-as form octets p = record {
    object = p.object;
    written = p.written;
    content = p.content ∙ says;
    good = p.good;
    issued = subst Issued (sym p.issued) issued;
  }

  -- so was what does not pass its check
  pub faulty-as : (e : CheckError) → IsFaulty kind by content (λ s. s ≡ signed) e
      → IsFaulty kind by told Issued e
  faulty-as (Decode e) h = h
  faulty-as (Validation fault) h = (h.0, h.1 ∙ says, subst Issued (sym h.2) issued, h.3)

module _ (may : List ℕ → List ℕ → List ℕ → Type 0) (made : Digester) (by : Checking)
    (handed told : Settings) (key type content digest : List ℕ) (s : SignedData)
    (timely : IsTimely handed key by) where
  -- what was signed fits the issuer
  pub signed-fits : Takes may made by → told.validity ≡ handed.validity
      → told.signing_time ≡ handed.signing_time → AreSignatures may key s
      → ¬ NamesNothing (claims_of told) → AreAllowed (claims_of told) by.issuer.sets
      → IsFit by.verdict told key s by.issuer by.moment
  signed-fits takes validity time signatures named allowed = record {
    cert_signed = takes.signatures key s.cert.signed s.cert.signature signatures.1;
    signed = takes.signatures s.cert.tbs.key _ s.signer.signature signatures.0;
    issuer_key = timely.issuer_key;
    in_time = subst (λ (p : Period). IsInTime p by.moment) (sym validity) timely.in_time;
    signing_time =
        subst (λ (p : Period). stamp told.signing_time ≤ stamp p.not_after) (sym validity)
        (subst (λ (t : Moment). stamp t ≤ stamp handed.validity.not_after) (sym time)
        timely.signing_time);
    named = named;
    allowed = allowed;
  }

  -- its certificate is not revoked
  pub signed-unrevoked : told.serial_number ≡ handed.serial_number
      → IsBuilt told key type content digest s → IsUnrevoked by.list s.cert
  signed-unrevoked serial built =
      let e : s.cert.tbs.serial_number ≡ handed.serial_number =
      ap (λ (c : Certificate). c.tbs.serial_number) built.cert ∙ serial in
      subst (λ (n : ℕ). Contains by.list.tbs.revoked n → ⊥) (sym e) timely.unrevoked

-- ---- who checks

-- what is so of one who checks is so of the same
pub by-desk : {C : Type 0} (P : Desk C → Type 0) (a b : Desk C) → a ≡ b → P a → P b
by-desk P a b e h = subst P e h

-- the issuer of the same is the same
pub same-issuer : {C : Type 0} (a b : Desk C) → a ≡ b → a.issuer ≡ b.issuer
same-issuer {C} a b e = ap (λ (d : Desk C). d.issuer) e

-- ---- what is claimed

-- a claim that is missing is allowed
missing-allowed : (set : List (Block ℕ)) → IsAllowed (λ (n : ℕ). n) Refuse Missing set
missing-allowed set = λ refuses named h n i.
    absurd (let none : Holds (λ (m : ℕ). m) [] n =
    subst (λ (l : List (Block ℕ)). Holds (λ (m : ℕ). m) l n) h i in cc)

-- what a ROA claims is allowed under an issuer that has each prefix, and that allows the claim of
-- AS numbers that was handed in
pub roa-allowed : (r : Roa) (handed told : Settings) (sets : Sets) → ClaimsPrefixes r handed told
    → RoaCovered r sets → IsAllowed (λ (n : ℕ). n) Refuse handed.as_numbers sets.as_numbers
    → AreAllowed (claims_of told) sets
roa-allowed r handed told sets claims covered allowed = record {
  as_numbers =
      subst (λ (claim : Claim (List (Block ℕ))).
      IsAllowed (λ (n : ℕ). n) Refuse claim sets.as_numbers)
      (sym (ap (λ (b : Settings). b.as_numbers) claims.others)) allowed;
  v4 = claim-allowed r.v4 told.v4 sets.v4 claims.v4 covered.v4;
  v6 = claim-allowed r.v6 told.v6 sets.v6 claims.v6 covered.v6;
}

-- what an ASPA claims is allowed under an issuer that has the customer
pub aspa-allowed : (a : Aspa) (handed : Settings) (sets : Sets)
    → Covers (λ (n : ℕ). n) sets.as_numbers (only a.customer ∷ [])
    → AreAllowed (claims_of (claiming a handed)) sets
aspa-allowed a handed sets covered = record {
  as_numbers = λ refuses named h.
      subst (λ (l : List (Block ℕ)). Covers (λ (n : ℕ). n) sets.as_numbers l) (sym h) covered;
  v4 = missing-allowed sets.v4;
  v6 = missing-allowed sets.v6;
}

-- ---- trust anchors

module _ (may : List ℕ → List ℕ → List ℕ → Type 0) (verdict : Verdict) (told : Unsigned)
    (key : List ℕ) (now : Moment) (c : Certificate)
    (made : c ≡ made_certificate (tbs_of told) c.signature)
    (signed : may key (tbs_octets (tbs_of told)) c.signature) where
  -- a fault of its validation is one of a certificate that is made so
  pub no-anchor : (fault : ValidationError)
      → (fault ≡ Memory) ⊎ IsFirstFault (ta_validation verdict c now) fault
      → IsNoAnchor (may key) verdict told now (Validation fault)
  no-anchor fault (inl e) = inl e
  no-anchor fault (inr h) =
      inr (
        c.signature,
        signed,
        subst (λ (k : Certificate). IsFirstFault (ta_validation verdict k now) fault) made h,
      )

  -- where it fits, it is good
  fit-good : IsFitAnchor may verdict told key now → IsGoodAnchor verdict c now
  fit-good fit =
      subst (λ (k : Certificate). IsGoodAnchor verdict k now) (sym made) (record {
        in_time = fit.in_time;
        signed =
            subst (λ (k : List ℕ). verdict k (tbs_octets (tbs_of told)) c.signature ≡ true)
            (sym fit.own_key)
            (fit.signatures key (tbs_octets (tbs_of told)) c.signature signed);
      })

  -- and its validation refuses it for want of memory alone
  pub fit-anchor : (AllHold (ta_checks c.tbs) × IsGoodAnchor verdict c now
      → AllHold (ta_validation verdict c now)) → IsFitAnchor may verdict told key now
      → (fault : ValidationError)
      → (fault ≡ Memory) ⊎ IsFirstFault (ta_validation verdict c now) fault → fault ≡ Memory
  fit-anchor holds fit fault (inl e) = e
  fit-anchor holds fit fault (inr h) =
      absurd (first-fails (ta_validation verdict c now) fault h
      (holds (
        subst (λ (k : Certificate). AllHold (ta_checks k.tbs)) (sym made) fit.profile,
        fit-good fit,
      )))

-- ---- lists

-- a list that was made is signed, where verdicts say yes to what the signer may answer
pub list-signed : {E : Type 0} (may : List ℕ → List ℕ → List ℕ → Type 0) (verdict : Verdict)
    (key : List ℕ) (told : UnsignedList)
    → ((k m s : List ℕ) → may k m s → verdict k m s ≡ true) → (r : Result KeptCrl E)
    → IfOk r (λ c. c.list ≡ made_list told (name_of key) c.list.signature)
    → IfOk r (λ c. may key (list_octets told (name_of key)) c.list.signature)
    → IfOk r (λ c. IsSignedBy verdict key c.list)
list-signed may verdict key told takes (Ok c) made signed =
    subst (λ (m : List ℕ). verdict key m c.list.signature ≡ true)
    (sym (ap (λ (l : RevocationList). l.signed) made))
    (takes key (list_octets told (name_of key)) c.list.signature signed)
list-signed may verdict key told takes (Err e) made signed = tt
