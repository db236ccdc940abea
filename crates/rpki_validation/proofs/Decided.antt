-- What is found decides.
use Rattle.std.proofs.Common.{◌≡◌, ◌∙◌, inl, inr, ℕ, List, [], ◌∷◌, ◌++◌, true, false, Ok, Err, map}
use Rattle.std.proofs.Common.{Option, None, Some}
use Rattle.std.proofs.Common.{ap, refl, subst, sym}
use Rattle.std.proofs.lemmas.List.Elements.{All-cons, All-head, All-map, All-nil, All-tail}
use Rattle.std.specs.Prelude.{All}
use Rattle.sha2.specs.Sha256.{sha256}
use Rattle.rpki_der.specs.declared.error.DecodeError.{DecodeError}
use Rattle.rpki_der.specs.declared.error.DecodeError.TheVariants as decoding
use Rattle.rpki_der.specs.declared.mode.Mode.{Mode}
use Rattle.rpki_faults.specs.declared.validation.ValidationError.{ValidationError}
use Rattle.rpki_faults.specs.declared.validation.ValidationError.TheVariants as validation
use Rattle.rpki_basics.specs.Moment.{Moment}
use Rattle.rpki_certs.specs.Cert.{Certificate, KeptCertificate}
use Rattle.rpki_certs.specs.Validate.{IsValidatedUnder, Validated}
use Rattle.rpki_crls.specs.Crl.{KeptCrl}
use Rattle.rpki_multi.specs.Attestation.{KeptWhole, Whole as Attested, whole_of}
use Rattle.rpki_paths.specs.Anchor.{Supply}
use Rattle.rpki_rsa.specs.Signature.{is_rsa_signature}
use Rattle.rpki_rta.specs.Granted.{IsGrantedRta}
use Rattle.rpki_tal.specs.Tal.{Locator}
use Rattle.rpki_signed.proofs.Exactness.{headline, rta-headline}
use Rattle.rpki_signed.specs.Headline.{IsMemory}
use Rattle.rpki_signed.specs.declared.check.CheckError.{CheckError}
use Rattle.rpki_signed.specs.declared.check.CheckError.TheVariants as checking
use Rattle.rpki_sigobj.specs.Object.{mode_of}
use Rattle.rpki_sigobj.specs.Signed.Good.{IsGood}
use Rattle.rpki_sigobj.specs.Signed.Kind.{ObjectKind}
use Rattle.rpki_sigobj.specs.Signed.{Whole, cert_in}
use Rattle.rpki_validation.specs.Attestation.{IsGoodRtaOn, IsGrantedOn, IsRtaDecided}
use Rattle.rpki_validation.specs.Attestation.{IsUnrevokedOf, located, supplies_on, supply_of}
use Rattle.rpki_validation.specs.Grounds.{AreSame, IsSameLocator}
use Rattle.rpki_validation.specs.Object.{IsDecided, IsDecidedOn, IsFound, IsFoundOn}
use Rattle.rpki_validation.specs.Object.{IsGoodFor, IsGoodOn, IsNotGoodFor, passes}
use Rattle.rpki_validation.specs.Refusal.{is_memory, is_memory_of_check}
use Rattle.rpki_validation.specs.Revoked.{IsUnrevoked}
use Rattle.rpki_validation.specs.declared.grounds.Grounds.{Grounds}
use Rattle.rpki_validation.specs.declared.question.Question.{Question}
use Rattle.rpki_validation.specs.declared.refusal.Refusal.{Refusal}
use Rattle.rpki_validation.specs.declared.refusal.Refusal.TheVariants.{Check, Issuer, Memory}
use Rattle.rpki_validation.specs.declared.refusal.Refusal.TheVariants.{NoList, NoLocator, Revoked}
use Rattle.rpki_validation.proofs.Single.{memory-alone, one-grounds}
use Rattle.rpki_validation.proofs.Steps.{revoked-not}

of-cert : (c : KeptCertificate) (issuer v : Validated) → IsValidatedUnder c issuer v → v.cert ≡ c
unfolding IsValidatedUnder
of-cert c issuer v h = h.0

no-memory : (fault : CheckError) → is_memory_of_check fault ≡ false → IsMemory fault → ⊥
no-memory (checking.Decode fault) e m =
    let f : is_memory_of_check (checking.Decode decoding.Memory) ≡ false =
    subst (λ (d : DecodeError). is_memory_of_check (checking.Decode d) ≡ false) m e in absurd cc
no-memory (checking.Validation fault) e m =
    let f : is_memory_of_check (checking.Validation validation.Memory) ≡ false =
    subst (λ (v : ValidationError). is_memory_of_check (checking.Validation v) ≡ false) m e in
    absurd cc

module _ {X : Type 0} (kind : ObjectKind X) (form : List ℕ → X → Type 0) where
  yes : (mode : Mode) (g : Grounds) (octets : List ℕ) (x : X)
      → IsFoundOn kind form mode g octets (Ok x) → IsGoodOn kind form mode g octets
  yes mode g octets x f =
      let b = f.1.exact in
      let same = of-cert (cert_in mode b.object) g.issuer f.0 b.holds.1.certificate in
      record {
        object = b.object;
        rest = b.rest;
        front = b.front;
        certificate = f.0;
        good = b.holds.1;
        said = subst (λ (k : KeptCertificate). IsUnrevoked g.lists.items g.issuer.cert.certificate
            k.certificate) same f.2;
      }

  no : (mode : Mode) (g : Grounds) (octets : List ℕ) (refusal : Refusal)
      → IsFoundOn kind form mode g octets (Err refusal) → is_memory refusal ≡ false
      → ¬ IsGoodOn kind form mode g octets
  no mode g octets Memory f e good = absurd cc
  no mode g octets NoLocator f e good = f
  no mode g octets (NoList place) f e good = f
  no mode g octets (Issuer fault) f e good = f
  no mode g octets (Check fault) f e good =
      (headline kind form passes).no mode sha256 is_rsa_signature g.issuer g.moment octets fault
      f.exact (no-memory fault e) (record {
        object = good.object;
        rest = good.rest;
        front = good.front;
        certificate = good.certificate;
        good = good.good;
        said = refl;
      }) (λ a b h i. h ∙ sym i)
  no mode g octets (Revoked place) f e good =
      let b = f.2.exact in
      let same : b.object ≡ good.object = (good.front.only b.object b.rest b.front.found).0 in
      let its = of-cert (cert_in mode b.object) g.issuer f.0 b.holds.1.certificate
      ∙ ap (λ (o : Whole X). cert_in mode o) same in
      let unrevoked : IsUnrevoked g.lists.items g.issuer.cert.certificate f.0.cert.certificate =
      subst (λ (k : KeptCertificate). IsUnrevoked g.lists.items g.issuer.cert.certificate
      k.certificate) (sym its) good.said in
      revoked-not g.lists.items g.issuer.cert.certificate f.0.cert.certificate place f.3 unrevoked

  -- what is found on grounds decides
  pub decided-on : IsDecidedOn kind form
  decided-on = record { yes = yes; no = no }

  yes-for : (q : Question) (octets : List ℕ) (x : X) → IsFound kind form q octets (Ok x)
      → IsGoodFor kind form q octets
  yes-for q octets x (inl h) = absurd (let same : Ok x ≡ Err h.0 = h.2 in cc)
  yes-for q octets x (inr f) = record {
    grounds = f.grounds;
    are = f.are;
    good = yes (mode_of q.manner.strict) f.grounds octets x f.found;
  }

  no-for : (q : Question) (octets : List ℕ) (refusal : Refusal)
      → IsFound kind form q octets (Err refusal) → is_memory refusal ≡ false
      → IsNotGoodFor kind form q octets
  no-for q octets refusal (inl h) e =
      let same : Err refusal ≡ Err h.0 = h.2 in
      let is : refusal ≡ h.0 = cc in
      inl (h.0, h.1, subst (λ (r : Refusal). is_memory r ≡ false) is e)
  no-for q octets refusal (inr f) e = inr (record {
    grounds = f.grounds;
    are = f.are;
    none = no (mode_of q.manner.strict) f.grounds octets refusal f.found e;
  })

  -- what is good on some grounds is good on the same
  pub good-on : (mode : Mode) (octets : List ℕ) (g h : Grounds) → AreSame g h
      → IsGoodOn kind form mode g octets → IsGoodOn kind form mode h octets
  good-on mode octets g h same good =
      let k = (cert_in mode good.object).certificate in
      let Good : Moment → Validated → Type 0 = λ t v.
      IsGood kind mode sha256 is_rsa_signature v t good.object good.certificate in
      record {
        object = good.object;
        rest = good.rest;
        front = good.front;
        certificate = good.certificate;
        good =
            subst (λ (t : Moment). Good t h.issuer) same.moment
            (subst (λ (v : Validated). Good g.moment v) same.issuer good.good);
        said =
            subst (λ (ls : List KeptCrl). IsUnrevoked ls h.issuer.cert.certificate k) same.lists
            (subst (λ (v : Validated). IsUnrevoked g.lists.items v.cert.certificate k) same.issuer
            good.said);
      }

  never-for : (q : Question) (octets : List ℕ) → IsNotGoodFor kind form q octets
      → ¬ IsGoodFor kind form q octets
  never-for q octets (inl (refusal, none, e)) good =
      let f : is_memory refusal ≡ true = memory-alone q good.grounds refusal good.are none in
      absurd (let t : true ≡ false = sym f ∙ e in cc)
  never-for q octets (inr n) good =
      n.none (good-on (mode_of q.manner.strict) octets good.grounds n.grounds
      (one-grounds q good.grounds n.grounds good.are n.are) good.good)

  -- and so does what is found in answer to a question
  pub decided : IsDecided kind form
  decided = record { on = decided-on; yes = yes-for; no = no-for; never = never-for }

-- ---- attestations

unmapped : {X Y : Type 0} (P : X → Type 0) (f : Y → X) (ys : List Y) → All P (map f ys)
    → All (λ y. P (f y)) ys
unmapped P f [] h = All-nil (λ y. P (f y))
unmapped P f (y ∷ ys) h =
    All-cons (λ z. P (f z)) y ys (All-head P (f y) (map f ys) h)
    (unmapped P f ys (All-tail P (f y) (map f ys) h))

abbrev certificate_of : KeptCertificate → Certificate
certificate_of k = k.certificate

module _ (g : Grounds) (octets : List ℕ) where
  abbrev Unrevoked : Certificate → Type 0
  Unrevoked c = IsUnrevokedOf g.lists.items g.issuer.cert.certificate c

  good-rta : (k : KeptWhole) → IsGrantedOn g octets (Ok k) → IsGoodRtaOn g octets
  good-rta k f =
      let b = f.0.exact in
      record {
        granted = record {
          object = b.object;
          rest = b.rest;
          front = b.front;
          granted = b.holds.0;
        };
        unrevoked =
            subst (λ (r : Attested). All Unrevoked r.signed.certs) b.holds.1
            (All-map Unrevoked certificate_of k.signed.certs f.1);
      }

  revoked-rta : (place : ℕ) → IsGrantedOn g octets (Err (Revoked place)) → ¬ IsGoodRtaOn g octets
  revoked-rta place (k, f, one) good =
      let b = f.exact in
      let r = good.granted in
      let at : whole_of k ≡ r.object =
      b.holds.1 ∙ (r.front.only b.object b.rest b.front.found).0 in
      let all : All (λ (c : KeptCertificate). Unrevoked c.certificate) k.signed.certs =
      unmapped Unrevoked certificate_of k.signed.certs
      (subst (λ (w : Attested). All Unrevoked w.signed.certs) (sym at) good.unrevoked) in
      let unrevoked : IsUnrevoked g.lists.items g.issuer.cert.certificate one.cert.certificate =
      subst (λ (c : KeptCertificate). Unrevoked c.certificate) one.placed.is
      (all one.index one.cert one.placed.there) one.of_issuer in
      revoked-not g.lists.items g.issuer.cert.certificate one.cert.certificate place one.revoked
      unrevoked

-- the same locator supplies the same
located-same : (x y : Option Locator) → IsSameLocator x y → located x ≡ located y
located-same None None s = refl
located-same None (Some m) s = absurd s
located-same (Some l) None s = absurd s
located-same (Some l) (Some m) s = ap (λ (key : List ℕ). Supply.Tal key ∷ []) s.1

-- what is good on some grounds is good on the same
pub good-rta-on : (octets : List ℕ) (g h : Grounds) → AreSame g h → IsGoodRtaOn g octets
    → IsGoodRtaOn h octets
good-rta-on octets g h same good =
    let b = good.granted in
    let Granted : Moment → List Supply → Validated → Type 0 = λ t supplies v.
    IsGrantedRta sha256 is_rsa_signature t b.object (supplies ++ supply_of v ∷ []) in
    let Unrevoked : List KeptCrl → Validated → Type 0 = λ ls v.
    All (λ (c : Certificate). IsUnrevokedOf ls v.cert.certificate c) b.object.signed.certs in
    record {
      granted = record {
        object = b.object;
        rest = b.rest;
        front = b.front;
        granted =
            subst (λ (t : Moment). Granted t (located h.locator) h.issuer) same.moment
            (subst (λ (supplies : List Supply). Granted g.moment supplies h.issuer)
            (located-same g.locator h.locator same.locator)
            (subst (λ (v : Validated). Granted g.moment (located g.locator) v) same.issuer
            b.granted));
      };
      unrevoked =
          subst (λ (ls : List KeptCrl). Unrevoked ls h.issuer) same.lists
          (subst (λ (v : Validated). Unrevoked g.lists.items v) same.issuer good.unrevoked);
    }

-- of attestations
pub rta-decided : IsRtaDecided
rta-decided = record {
  yes = good-rta;
  no = λ g octets fault f e.
      rta-headline.no sha256 is_rsa_signature g.moment (supplies_on g) octets fault f.exact
      (no-memory fault e);
  revoked = revoked-rta;
}
