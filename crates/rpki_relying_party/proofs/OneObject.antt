-- Octets that may hold an object of a CA: it is one with its content, or is refused by one fault.
use Rattle.std.proofs.Common.{◌≡◌, inl, inr, ℕ, List, [], ◌∷◌, ◌++◌, Result, Ok, Err, refl}
use Rattle.std.proofs.Common.{sym, subst, ap, ◌∙◌}
use Rattle.rpki_der.specs.declared.mode.Mode.TheVariants.{Der}
use Rattle.rpki_basics.specs.Moment.{Moment}
use Rattle.rpki_crls.specs.Crl.{RevocationList}
use Rattle.rpki_faults.specs.Checks.{◌unless◌, Check, AllHold, IsFirstFault}
use Rattle.rpki_faults.specs.declared.validation.ValidationError.{ValidationError}
use Rattle.rpki_faults.specs.declared.validation.ValidationError.TheVariants as faults
use Rattle.rpki_faults.specs.declared.verification.VerificationError.TheVariants.{Caller}
use Rattle.rpki_faults.proofs.Order.{first-fails, first-one, first-split, hold-join}
use Rattle.rpki_extensions.specs.declared.claims.Claims.{Claims}
use Rattle.rpki_certs.specs.Cert.{Certificate, KeptCertificate}
use Rattle.rpki_certs.specs.Validate.{Validated, IsValidatedUnder}
use Rattle.rpki_certs.specs.Verify.{Verdict}
use Rattle.rpki_signed.specs.Check.{Checks}
use Rattle.rpki_signed.specs.declared.check.CheckError.{CheckError}
use Rattle.rpki_signed.specs.declared.check.CheckError.TheVariants as checks
use Rattle.rpki_sigobj.specs.Signed.{Whole, ObjectForm, cert_in}
use Rattle.rpki_sigobj.specs.Signed.Good.{IsGood}
use Rattle.rpki_sigobj.specs.Signed.Kind.{ObjectKind}
use Rattle.rpki_sigobj.specs.Signed.Process.{validation, before_revocation, said_checks}
use Rattle.rpki_sigobj.specs.Signed.Process.{IsProcessed, AnswersAsked}
use Rattle.rpki_sigobj.specs.Verify.{Digester}
use Rattle.rpki_relying_party.specs.Memory.{IsCheckMemory, plain_check}
use Rattle.rpki_relying_party.specs.Point.{HasGood, IsUnrevoked}
use Rattle.rpki_relying_party.specs.Setting.{Setting}
use Rattle.rpki_relying_party.specs.Tells.{HasContent}
use Rattle.rpki_relying_party.specs.Under.{SaysOf}
use Rattle.rpki_relying_party.proofs.Meanings.{SameChecks, IsSound, same-self, same-join}
use Rattle.rpki_relying_party.proofs.Meanings.{same-first, all-held}
use Rattle.rpki_relying_party.proofs.Objects.{refuses}

err-one : {T E : Type 0} (a b : E) → ◌≡◌ {A = Result T E} (Err a) (Err b) → a ≡ b
err-one a b e = cc

-- ---- what is said of a certificate

-- one thing is said of each certificate
abbrev pub SaysOne : (KeptCertificate → Result (Unit {0}) ValidationError → Type 0) → Type 0
SaysOne Says = (k : KeptCertificate) (a b : Result (Unit {0}) ValidationError) → Says k a
    → Says k b → a ≡ b

pub list-says-one : (list : RevocationList) → SaysOne (SaysOf list)
list-says-one list k (Ok a) (Ok b) h g = refl
list-says-one list k (Ok a) (Err y) h g =
    absurd (first-fails
    ((faults.Verification Caller unless IsUnrevoked list k.certificate) ∷ []) y g h)
list-says-one list k (Err x) (Ok b) h g =
    absurd (first-fails
    ((faults.Verification Caller unless IsUnrevoked list k.certificate) ∷ []) x h g)
list-says-one list k (Err x) (Err y) h g =
    ap (λ (f : ValidationError). Err f) (first-one
    ((faults.Verification Caller unless IsUnrevoked list k.certificate) ∷ []) x y h g)

pub yes-says-one : SaysOne (λ k said. said ≡ Ok tt)
yes-says-one k a b h g = h ∙ sym g

-- ---- the checks of one object

module _ {X : Type 0} (kind : ObjectKind X) (sound : IsSound kind) (digest : Digester)
    (verdict : Verdict) (issuer : Validated) (now : Moment) (o : Whole X)
    (Says : Result (Unit {0}) ValidationError → Type 0) where
  abbrev claims : Claims
  claims = o.object.signed.cert.tbs.extensions.claims

  abbrev Before : List (Check ValidationError)
  Before = before_revocation kind digest verdict o issuer now

  abbrev Asked : ValidationError → Type 0
  Asked fault = IsProcessed Before (IsValidatedUnder (cert_in Der o) issuer) Says
      (kind.held o.content) o.content (Err fault)

  same-held : (v w : Validated) → IsValidatedUnder (cert_in Der o) issuer v
      → IsValidatedUnder (cert_in Der o) issuer w
      → SameChecks (kind.held o.content v.sets) (kind.held o.content w.sets)
  unfolding IsValidatedUnder
  same-held v w h g = sound.same o.content v.sets w.sets
      (all-held claims issuer.sets w.sets v.sets (g.1) (h.1))
      (all-held claims issuer.sets v.sets w.sets (h.1) (g.1))

  said-fault : (said : Result (Unit {0}) ValidationError) (fault : ValidationError)
      → IsFirstFault (said_checks said) fault → Says said → Says (Err fault)
  said-fault (Ok done) fault h g = absurd h
  said-fault (Err why) fault (inl h) g = absurd (h.0)
  said-fault (Err why) fault (inr h) g =
      subst (λ (f : ValidationError). Says (Err f)) (sym (h.1)) g

  -- what is good is refused by what was said alone
  pub good-said : (v : Validated) → IsGood kind Der digest verdict issuer now o v
      → (fault : ValidationError) → Asked fault → Says (Err fault)
  good-said v g fault h =
      elim (first-split Before (said_checks h.said ++ kind.held o.content h.valid.sets) fault
      h.first) [
        | inl k ↦ absurd (first-fails Before fault k before)
        | inr k ↦ elim (first-split (said_checks h.said) (kind.held o.content h.valid.sets) fault
            (k.1)) [
              | inl l ↦ said-fault h.said fault l ((h.asked before).1)
              | inr l ↦ absurd (first-fails (kind.held o.content v.sets) fault
                  (same-first (kind.held o.content h.valid.sets) (kind.held o.content v.sets) fault
                  (same-held h.valid v ((h.asked before).0) g.certificate) (l.1))
                  ((sound.passes o.content claims v.sets g.covered).1))
            ]
      ]
    where
      before : AllHold Before
      before = hold-join (kind.claimed o.content claims)
          (validation kind.is_published digest verdict o.object.signed issuer now)
          ((sound.passes o.content claims v.sets g.covered).0, g.valid)

  module _ (one : (a b : Result (Unit {0}) ValidationError) → Says a → Says b → a ≡ b) where
    later : (x y : ValidationError) (h : Asked x) (g : Asked y) → AllHold Before
        → IsFirstFault (said_checks h.said ++ kind.held o.content h.valid.sets) x
        → IsFirstFault (said_checks g.said ++ kind.held o.content g.valid.sets) y → x ≡ y
    later x y h g before k l =
        first-one (said_checks h.said ++ kind.held o.content h.valid.sets) x y k
        (same-first (said_checks h.said ++ kind.held o.content g.valid.sets)
        (said_checks h.said ++ kind.held o.content h.valid.sets) y
        (same-join (said_checks h.said) (said_checks h.said)
        (kind.held o.content g.valid.sets) (kind.held o.content h.valid.sets)
        (same-self (said_checks h.said))
        (same-held g.valid h.valid ((g.asked before).0) ((h.asked before).0)))
        (subst (λ (r : Result (Unit {0}) ValidationError).
        IsFirstFault (said_checks r ++ kind.held o.content g.valid.sets) y)
        (one g.said h.said ((g.asked before).1) ((h.asked before).1)) l))

    -- two refusals are by one fault
    pub one-fault : (x y : ValidationError) → Asked x → Asked y → x ≡ y
    one-fault x y h g =
        elim (first-split Before (said_checks h.said ++ kind.held o.content h.valid.sets) x
        h.first) [
          | inl k ↦ elim (first-split Before
              (said_checks g.said ++ kind.held o.content g.valid.sets) y g.first) [
                | inl l ↦ first-one Before x y k l
                | inr l ↦ absurd (first-fails Before x k (l.0))
              ]
          | inr k ↦ elim (first-split Before
              (said_checks g.said ++ kind.held o.content g.valid.sets) y g.first) [
                | inl l ↦ absurd (first-fails Before y l (k.0))
                | inr l ↦ later x y h g (k.0) (k.1) (l.1)
              ]
        ]

-- ---- octets

module _ {X : Type 0} (s : Setting) (kind : ObjectKind X) (form : List ℕ → X → Type 0)
    (ca : Validated) (octets : List ℕ) where
  -- they hold one object
  pub one-object : (P Q : Whole X → Type 0) (a : HasGood s kind form ca octets P)
      (b : HasGood s kind form ca octets Q) → b.object ≡ a.object
  one-object P Q a b = (a.front.only b.object b.rest b.front.found).0

  module _ (sound : IsSound kind)
      (Says : KeptCertificate → Result (Unit {0}) ValidationError → Type 0) where
    abbrev Refused : CheckError → Type 0
    Refused error = Checks kind form Der s.digest s.verdict ca s.now Says octets (Err error)

    abbrev Answers : ValidationError → Whole X → Type 0
    Answers fault o = AnswersAsked (before_revocation kind s.digest s.verdict o ca s.now)
        (IsValidatedUnder (cert_in Der o) ca) (Says (cert_in Der o)) (kind.held o.content)
        o.content (Err fault)

    -- a good object is refused by what was said alone
    pub good-refused : (P : Whole X → Type 0) (g : HasGood s kind form ca octets P)
        (error : CheckError) → Refused error → ¬ IsCheckMemory error
        → (fault : ValidationError) × Says (cert_in Der g.object) (Err fault)
    good-refused P g (checks.Decode e) h m =
        absurd (m (refuses (ObjectForm kind.type form Der) octets g.object g.rest e h g.front))
    good-refused P g (checks.Validation fault) h m = (
      fault,
      of (subst (Answers fault)
          (g.front.only h.object h.rest h.front.found).0 h.holds),
    )
      where
        of : Answers fault g.object → Says (cert_in Der g.object) (Err fault)
        of (inl e) = absurd (m (err-one fault faults.Memory e))
        of (inr p) = good-said kind sound s.digest s.verdict ca s.now g.object
            (Says (cert_in Der g.object)) (g.holds.0.0) (g.holds.0.1) fault p

    -- and two refusals with nothing of the octets are one
    pub one-error : SaysOne Says → (x y : CheckError) → Refused x → Refused y
        → ¬ IsCheckMemory x → ¬ IsCheckMemory y → plain_check x ≡ x → plain_check y ≡ y → x ≡ y
    one-error one (checks.Decode e) (checks.Decode f) h g m n p q = sym p ∙ q
    one-error one (checks.Decode e) (checks.Validation f) h g m n p q =
        absurd (m (refuses (ObjectForm kind.type form Der) octets g.object g.rest e h g.front))
    one-error one (checks.Validation e) (checks.Decode f) h g m n p q =
        absurd (n (refuses (ObjectForm kind.type form Der) octets h.object h.rest f g h.front))
    one-error one (checks.Validation e) (checks.Validation f) h g m n same same2 =
        ap (λ (v : ValidationError). checks.Validation v) (of h.holds (subst (Answers f)
        (h.front.only g.object g.rest g.front.found).0 g.holds))
      where
        of : Answers e h.object → Answers f h.object → e ≡ f
        of (inl p) q = absurd (m (err-one e faults.Memory p))
        of (inr p) (inl q) = absurd (n (err-one f faults.Memory q))
        of (inr p) (inr q) = one-fault kind sound s.digest s.verdict ca s.now h.object
            (Says (cert_in Der h.object)) (one (cert_in Der h.object)) e f p q

-- ---- objects that the list does not revoke

module _ {X : Type 0} (s : Setting) (kind : ObjectKind X) (form : List ℕ → X → Type 0)
    (ca : Validated) (list : RevocationList) (octets : List ℕ) where
  pub one-content : (cert cert2 : Certificate) (x y : X)
      → HasContent s kind form ca list octets cert x
      → HasContent s kind form ca list octets cert2 y → (cert ≡ cert2) × (x ≡ y)
  one-content cert cert2 x y a b =
      let same : b.object ≡ a.object = (a.front.only b.object b.rest b.front.found).0 in (
        sym (a.holds.1.1) ∙ sym (ap (λ (o : Whole X). o.object.signed.cert) same) ∙ b.holds.1.1,
        sym (a.holds.1.2) ∙ sym (ap (λ (o : Whole X). o.content) same) ∙ b.holds.1.2,
      )

  -- one that is there is not refused
  pub content-stays : IsSound kind → (cert : Certificate) (x : X)
      → HasContent s kind form ca list octets cert x → (error : CheckError)
      → Checks kind form Der s.digest s.verdict ca s.now (SaysOf list) octets (Err error)
      → ¬ IsCheckMemory error → ⊥
  content-stays sound cert x a error h m = revoked (good-refused s kind form ca octets sound
      (SaysOf list) (λ o. IsUnrevoked list o.object.signed.cert
      × (o.object.signed.cert ≡ cert) × (o.content ≡ x)) a error h m)
    where
      revoked : (fault : ValidationError) × SaysOf list (cert_in Der a.object) (Err fault) → ⊥
      revoked r = elim (r.1) [
        | inl first ↦ first.1
        | inr why ↦ why.0 (a.holds.1.0)
      ]
