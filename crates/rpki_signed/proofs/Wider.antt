-- What is read and checked by a narrow form of contents, and by a wider one.
use Rattle.std.proofs.Common.{◌≡◌, ◌⊎◌, inl, inr, ℕ, List, Result, Ok, Err, refl, sym, ap, subst}
use Rattle.std.proofs.Common.{◌∙◌}
use Rattle.rpki_der.specs.declared.error.DecodeError.{DecodeError}
use Rattle.rpki_der.specs.declared.error.DecodeError.TheVariants.{Malformed, Content, Memory}
use Rattle.rpki_der.specs.declared.mode.Mode.{Mode}
use Rattle.rpki_der.specs.declared.mode.Mode.TheVariants.{Der}
use Rattle.rpki_der.specs.Form.Decodes.{IsOnlyFront}
use Rattle.rpki_der.specs.Grammar.{Front, HasNoFront, IsUnique}
use Rattle.rpki_der.specs.Read.Reads.{Refuses}
use Rattle.rpki_der.proofs.Form.Words.{part-unique}
use Rattle.rpki_basics.specs.declared.limits.ManifestRule.TheVariants.{Any, Registered}
use Rattle.rpki_basics.specs.declared.limits.ProviderLimit.TheVariants.{Narrow, Wide}
use Rattle.rpki_basics.specs.Moment.{Moment}
use Rattle.rpki_faults.specs.Checks.{AllHold}
use Rattle.rpki_faults.specs.declared.validation.ValidationError.{ValidationError}
use Rattle.rpki_faults.specs.declared.validation.ValidationError.TheVariants as faults
use Rattle.rpki_extensions.specs.declared.claims.Claims.{Claims}
use Rattle.rpki_certs.specs.Cert.{KeptCertificate}
use Rattle.rpki_certs.specs.Validate.{Sets, Validated, AreHeld, AreValidated, IsValidatedUnder}
use Rattle.rpki_certs.specs.Verify.{Verdict}
use Rattle.rpki_sigobj.specs.Object.{SignedObject}
use Rattle.rpki_sigobj.specs.Verify.{Digester}
use Rattle.rpki_sigobj.proofs.Objects.Exact.{object-part}
use Rattle.rpki_sigobj.proofs.Wholes.Fronts.{same-whole}
use Rattle.rpki_sigobj.proofs.Wholes.Numbers.{same-numbers}
use Rattle.rpki_sigobj.specs.Signed.Good.{IsGood, IsNotGood}
use Rattle.rpki_sigobj.specs.Signed.Kind.{ObjectKind}
use Rattle.rpki_sigobj.specs.Signed.Process.{before_revocation}
use Rattle.rpki_sigobj.specs.Signed.{Whole, ObjectForm, cert_in}
use Rattle.rpki_files.specs.Manifest.{Manifest, ManifestForm}
use Rattle.rpki_files.proofs.Manifests.Exact.{manifest-reading}
use Rattle.rpki_files.specs.Manifest.Checks.{manifest_kind}
use Rattle.rpki_routes.specs.Aspa.{Aspa}
use Rattle.rpki_routes.specs.Aspa.Form.{AspaForm}
use Rattle.rpki_routes.proofs.Attestations.Exact.{aspa-part}
use Rattle.rpki_routes.proofs.Attestations.Written.{attestation-wide}
use Rattle.rpki_routes.specs.Aspa.Checks.{aspa_kind}
use Rattle.rpki_signed.specs.declared.check.CheckError.{CheckError}
use Rattle.rpki_signed.specs.declared.check.CheckError.TheVariants.{Decode, Validation}
use Rattle.rpki_signed.specs.Check.{BeginsWith, MayAsk}
use Rattle.rpki_signed.specs.Exact.{IsExact}
use Rattle.rpki_signed.specs.Wider.{KeepsYes, RepeatsYes}

-- ---- certificates that were validated under the same issuer

validated : {X : Type 0} (mode : Mode) (o : Whole X) (issuer v : Validated)
    → IsValidatedUnder (cert_in mode o) issuer v
    → (v.cert ≡ cert_in mode o)
    × AreValidated o.object.signed.cert.tbs.extensions.claims issuer.sets v.sets
unfolding IsValidatedUnder
validated mode o issuer v h = h

same-held : (x : Claims) (issuer a b : Sets) → AreValidated x issuer a → AreValidated x issuer b
    → AreHeld b a
same-held x issuer a b v w = record {
  as_numbers = same-numbers x.policy x.as_numbers issuer.as_numbers a.as_numbers b.as_numbers
      v.as_numbers w.as_numbers;
  v4 = same-numbers x.policy x.addresses.v4 issuer.v4 a.v4 b.v4 v.v4 w.v4;
  v6 = same-numbers x.policy x.addresses.v6 issuer.v6 a.v6 b.v6 v.v6 w.v6;
}

-- ---- objects

-- where what a content says is unique, what an object says is
whole-unique : {X : Type 0} (type : List ℕ) (form : List ℕ → X → Type 0) → IsUnique form
    → (mode : Mode) → IsUnique (ObjectForm type form mode)
whole-unique type form unique mode a b x y r s g h same =
    let objects = part-unique object-part mode a b x.object y.object r s g.0.0 h.0.0 same in
    let content = ap (λ (o : SignedObject). o.signed.content) objects.1 in
    let contents = unique g.1.1.0 h.1.1.0 x.content y.content g.1.0 h.1.0 g.1.1.2 h.1.1.2
    (sym g.1.1.1 ∙ content ∙ h.1.1.1) in
    (objects.0, same-whole x y.object y.content objects.1 contents.1, objects.2)

module _ {X : Type 0} (narrow wide : List ℕ → X → Type 0)
    (wider : (octets : List ℕ) (x : X) → narrow octets x → wide octets x) where
  pub widened : (type : List ℕ) (mode : Mode) (octets : List ℕ) (o : Whole X)
      → ObjectForm type narrow mode octets o → ObjectForm type wide mode octets o
  widened type mode octets o h =
      (h.0, (h.1.0, (h.1.1.0, h.1.1.1, wider h.1.1.0 o.content h.1.1.2)))

  module _ (unique : IsUnique wide) where
    wide-front : (type : List ℕ) (mode : Mode) (octets : List ℕ) (o : Whole X) (rest : List ℕ)
        → Front (ObjectForm type narrow mode) octets o rest
        → IsOnlyFront (ObjectForm type wide mode) octets o rest
    wide-front type mode octets o rest f =
        let found = widened type mode f.0 o f.2 in
        record {
          found = (f.0, f.1, found);
          only = λ y other g.
              let same = whole-unique type wide unique mode g.0 f.0 y o other rest g.2 found
              (sym g.1 ∙ f.1) in (same.1, same.2);
        }

    begins : (type : List ℕ) (mode : Mode) (octets : List ℕ) (P : Whole X → Type 0)
        → BeginsWith (ObjectForm type narrow mode) octets P
        → BeginsWith (ObjectForm type wide mode) octets P
    begins type mode octets P b = record {
      object = b.object;
      rest = b.rest;
      front = wide-front type mode octets b.object b.rest b.front.found;
      holds = b.holds;
    }

    -- ---- checks

    module _ (kind : ObjectKind X) (Says : KeptCertificate → Result (Unit {0}) ValidationError
        → Type 0)
        (Takes : KeptCertificate → Type 0)
      where
        module _ (mode : Mode) (digest : Digester) (verdict : Verdict) (issuer : Validated)
            (now : Moment) (octets : List ℕ) (a : Validated × X)
            (b : IsExact kind narrow mode digest verdict issuer now Says octets (Ok a)) where
          abbrev claims : Claims
          claims = b.object.object.signed.cert.tbs.extensions.claims

          yes : Says (cert_in mode b.object) (Ok tt)
              × IsGood kind mode digest verdict issuer now b.object a.0
              × (a.1 ≡ b.object.content)
          yes = b.holds

          mine : (a.0.cert ≡ cert_in mode b.object) × AreValidated claims issuer.sets a.0.sets
          mine = validated mode b.object issuer a.0 yes.1.certificate

          front : IsOnlyFront (ObjectForm kind.type wide mode) octets b.object b.rest
          front = wide-front kind.type mode octets b.object b.rest b.front.found

          -- what holds of an object at the front holds of this one
          here : (P : Whole X → Type 0) → BeginsWith (ObjectForm kind.type wide mode) octets P
              → P b.object
          here P c = subst P (front.only c.object c.rest c.front.found).0 c.holds

          unread : (e : DecodeError)
              → Refuses e (HasNoFront (ObjectForm kind.type wide mode) octets) → e ≡ Memory
          unread Memory h = refl
          unread Malformed h = absurd (h b.object b.rest front.found)
          unread (Content fault) h = absurd (h b.object b.rest front.found)

          refused : (fault : ValidationError)
              → (fault ≡ faults.Memory) ⊎ IsNotGood kind mode digest verdict issuer now
              (Says (cert_in mode b.object)) b.object fault
              → (fault ≡ faults.Memory) ⊎ Says a.0.cert (Err fault)
          refused fault (inl h) = inl h
          refused fault (inr h) = inr (subst (λ (k : KeptCertificate). Says k (Err fault))
              (sym mine.0) (h a.0 yes.1))

          keeps-again : (result : Result (Validated × X) CheckError)
              → IsExact kind wide mode digest verdict issuer now Says octets result
              → RepeatsYes Says a result
          keeps-again (Ok other) c =
              let good = here (λ (o : Whole X). Says (cert_in mode o) (Ok tt)
              × IsGood kind mode digest verdict issuer now o other.0 × (other.1 ≡ o.content)) c in
              let its = validated mode b.object issuer other.0 good.1.certificate in (
                its.0 ∙ sym mine.0,
                same-held claims issuer.sets other.0.sets a.0.sets its.1 mine.1,
                same-held claims issuer.sets a.0.sets other.0.sets mine.1 its.1,
                good.2 ∙ sym yes.2,
              )
          keeps-again (Err (Decode e)) c = unread e c
          keeps-again (Err (Validation fault)) c =
              refused fault (here (λ (o : Whole X). (fault ≡ faults.Memory)
              ⊎ IsNotGood kind mode digest verdict issuer now (Says (cert_in mode o)) o fault) c)

          may-ask : MayAsk kind narrow mode digest verdict issuer now Takes octets
              → MayAsk kind wide mode digest verdict issuer now Takes octets
          may-ask asks o rest f all =
              let same : o ≡ b.object = (front.only o rest f).0 in
              subst (λ (w : Whole X). Takes (cert_in mode w)) (sym same)
              (asks b.object b.rest b.front.found (subst
              (λ (w : Whole X). AllHold (before_revocation kind digest verdict w issuer now))
              same all))

        pub keeps-yes : KeepsYes kind narrow wide Says Takes
        keeps-yes = record {
          first = λ mode digest verdict issuer now octets a b.
              begins kind.type mode octets _ b;
          exact = λ mode digest verdict issuer now octets a b.
              begins kind.type mode octets _ b;
          again = λ mode digest verdict issuer now octets a result b c.
              keeps-again mode digest verdict issuer now octets a b result c;
          asks = λ mode digest verdict issuer now octets a b c.
              may-ask mode digest verdict issuer now octets a b c;
        }

-- ---- manifests and ASPAs

pub manifest-wider : (octets : List ℕ) (m : Manifest) → ManifestForm Registered Der octets m
    → ManifestForm Any Der octets m
manifest-wider octets m h = (h.0, record { order = h.1.order; files = tt })

pub aspa-wider : (octets : List ℕ) (a : Aspa) → AspaForm Narrow octets a → AspaForm Wide octets a
aspa-wider octets a h = (h.0, attestation-wide Narrow a h.1)

pub manifest-keeps : (Says : KeptCertificate → Result (Unit {0}) ValidationError → Type 0)
    (Takes : KeptCertificate → Type 0)
    → KeepsYes manifest_kind (ManifestForm Registered Der) (ManifestForm Any Der) Says Takes
manifest-keeps Says Takes =
    keeps-yes (ManifestForm Registered Der) (ManifestForm Any Der) manifest-wider
    ((manifest-reading Any).unique Der) manifest_kind Says Takes

pub aspa-keeps : (Says : KeptCertificate → Result (Unit {0}) ValidationError → Type 0)
    (Takes : KeptCertificate → Type 0)
    → KeepsYes aspa_kind (AspaForm Narrow) (AspaForm Wide) Says Takes
aspa-keeps Says Takes =
    keeps-yes (AspaForm Narrow) (AspaForm Wide) aspa-wider (part-unique (aspa-part Wide) Der)
    aspa_kind Says Takes
