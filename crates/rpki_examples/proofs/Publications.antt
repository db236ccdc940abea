-- What an authority of the stand-in publishes.
use Rattle.std.proofs.Common.{◌≡◌, ℕ, List, inl, inr, refl, ap, sym, ◌∙◌, subst, ◌↔◌, true, Bool}
use Rattle.std.proofs.Common.{Result, Ok, Err}
use Rattle.std.specs.Prelude.{Any, Contains, IfErr}
use Rattle.sha2.specs.Sha256.{sha256}
use Rattle.rpki_der.specs.declared.error.DecodeError.TheVariants as decode
use Rattle.rpki_basics.specs.Moment.{Moment}
use Rattle.rpki_basics.specs.StandIn.{is_stand_in_signature}
use Rattle.rpki_basics.specs.declared.signing.SigningError.{SigningError}
use Rattle.rpki_faults.specs.declared.validation.ValidationError.TheVariants as fault
use Rattle.rpki_extensions.specs.declared.claims.Claims.{Claims}
use Rattle.rpki_crls.specs.Crl.{RevocationList}
use Rattle.rpki_certs.specs.Cert.{Certificate, KeptCertificate}
use Rattle.rpki_certs.specs.Validate.{AreClaimed, IsAnchorOf, Validated}
use Rattle.rpki_issued.specs.Tbs.{Unsigned}
use Rattle.rpki_issued_crls.specs.Lists.{UnsignedList, made_list, name_of, serial_of}
use Rattle.rpki_signing.specs.Built.{Settings}
use Rattle.rpki_signing.proofs.Answered.{counts-of}
use Rattle.rpki_signed.specs.declared.check.CheckError.{CheckError}
use Rattle.rpki_signed.specs.declared.check.CheckError.TheVariants.{Decode, Validation}
use Rattle.rpki_examples.specs.Authority.{Checking, CountsIssue, IsFitAnchor, IsMadeAnchor}
use Rattle.rpki_examples.specs.Authority.{IsNotPublished, IsTimely, IsWantOfMemory, Takes}
use Rattle.rpki_examples.specs.Publication.{AnchorFits, IsFitPlan, IsToldInTime, ObjectsFit}
use Rattle.rpki_examples.specs.Publication.{OrUnfit, may_sign}
use Rattle.rpki_examples.specs.declared.authority.IssueError.{IssueError}
use Rattle.rpki_examples.specs.declared.authority.IssueError.TheVariants.{Signing, Check}
use Rattle.rpki_examples.specs.declared.publication.Plan.{Plan}

-- ---- refusals

-- what refuses for want of memory alone where all fits, refuses for it, or not all fits
or-unfit : (Fits : Type 0) (e : CheckError) → (Fits → IsWantOfMemory e) → OrUnfit Fits e
or-unfit Fits (Decode decode.Memory) h = inl refl
or-unfit Fits (Decode decode.Malformed) h =
    inr (λ fits. let e : decode.Malformed ≡ decode.Memory = h fits in cc)
or-unfit Fits (Decode (decode.Content text)) h =
    inr (λ fits. let e : decode.Content text ≡ decode.Memory = h fits in cc)
or-unfit Fits (Validation fault.Memory) h = inl refl
or-unfit Fits (Validation (fault.Inspection error)) h =
    inr (λ fits. let e : fault.Inspection error ≡ fault.Memory = h fits in cc)
or-unfit Fits (Validation (fault.Verification error)) h =
    inr (λ fits. let e : fault.Verification error ≡ fault.Memory = h fits in cc)

-- the same of what is not published
pub fits-or-error : {E : Type 0} (Why : SigningError E → Type 0) (Faulty : CheckError → Type 0)
    (Fits : Type 0) (e : IssueError E) → (Fits → IsNotPublished Why IsWantOfMemory e)
    → IsNotPublished Why Faulty e → IsNotPublished Why (OrUnfit Fits) e
fits-or-error Why Faulty Fits (Signing error) passes refused = refused
fits-or-error Why Faulty Fits (Check error) passes refused = or-unfit Fits error passes

-- the same of what is published, or not
pub fits-or : {T E : Type 0} (Why : SigningError E → Type 0) (Faulty : CheckError → Type 0)
    (Fits : Type 0) (r : Result T (IssueError E))
    → (Fits → IfErr r (IsNotPublished Why IsWantOfMemory))
    → IfErr r (IsNotPublished Why Faulty) → IfErr r (IsNotPublished Why (OrUnfit Fits))
fits-or Why Faulty Fits (Ok t) passes refused = tt
fits-or Why Faulty Fits (Err e) passes refused = fits-or-error Why Faulty Fits e passes refused

-- what is refused of a part is refused of the whole
pub of-part : {E : Type 0} (Why Whole : SigningError E → Type 0) (Fits All : Type 0)
    → ((e : SigningError E) → Why e → Whole e) → (All → Fits) → (e : IssueError E)
    → IsNotPublished Why (OrUnfit Fits) e → IsNotPublished Whole (OrUnfit All) e
of-part Why Whole Fits All to part (Signing error) h = to error h
of-part Why Whole Fits All to part (Check error) (inl memory) = inl memory
of-part Why Whole Fits All to part (Check error) (inr unfit) = inr (λ all. unfit (part all))

-- a refusal counts as one of whatever was asked for
counts-issue-of : {E : Type 0} (T U : Type 0) (old new : ℕ) (e : IssueError E)
    → CountsIssue old new (let r : Result T (IssueError E) = Err e in r)
    → CountsIssue old new (let r : Result U (IssueError E) = Err e in r)
counts-issue-of T U old new (Signing error) h = counts-of T U old new error h
counts-issue-of T U old new (Check error) h = h

-- it counts so after calls that did not fail, which count nothing
pub counts-later : {E : Type 0} (T U : Type 0) (old middle new : ℕ) (e : IssueError E)
    → middle ≡ old → CountsIssue middle new (let r : Result T (IssueError E) = Err e in r)
    → CountsIssue old new (let r : Result U (IssueError E) = Err e in r)
counts-later {E} T U old middle new e same h =
    counts-issue-of T U old new e
    (subst (λ (n : ℕ). CountsIssue n new (let r : Result T (IssueError E) = Err e in r)) same h)

-- ---- what fits

-- the stand-in says yes to what its signer may answer, and has the same digests
pub stand-in-takes : (by : Checking) → by.digest ≡ sha256 → by.verdict ≡ is_stand_in_signature
    → ((k m s : List ℕ) → may_sign k m s → is_stand_in_signature k m s ≡ true)
    → Takes may_sign sha256 by
stand-in-takes by digest verdict agree = record {
  signatures = λ k m s may. subst (λ (v : List ℕ → List ℕ → List ℕ → Bool). v k m s ≡ true)
      (sym verdict) (agree k m s may);
  digests = λ octets. ap (λ (d : List ℕ → List ℕ). d octets) (sym digest);
}

-- where what was told of a trust anchor fits, it fits the stand-in
pub anchor-fit : (key : List ℕ) (told : Unsigned) (now : Moment)
    → ((k m s : List ℕ) → may_sign k m s → is_stand_in_signature k m s ≡ true)
    → AnchorFits key told now → IsFitAnchor may_sign is_stand_in_signature told key now
anchor-fit key told now agree fits = record {
  signatures = agree;
  profile = fits.profile;
  own_key = fits.own_key;
  in_time = fits.in_time;
}

module _ (key : List ℕ) (told : Plan) (now : Moment) (anchor : Validated) (list : RevocationList)
    (made : IsMadeAnchor (may_sign key) is_stand_in_signature told.anchor now anchor)
    (listed : list ≡ made_list told.list (name_of key) list.signature)
    (pushed : (u : UnsignedList) (issuer s : List ℕ) (serial : ℕ)
    → Contains (made_list u issuer s).tbs.revoked serial
    ↔ Any (λ r. serial_of r ≡ serial) u.revoked)
    (fits : IsFitPlan key told now) where
  -- who checks by the trust anchor and the list
  abbrev pub by : Checking
  by = record {
    digest = sha256;
    verdict = is_stand_in_signature;
    issuer = anchor;
    list = list;
    moment = now;
  }

  kept : anchor.cert ≡ made.cert
  unfolding IsAnchorOf
  kept = made.validated.0

  claimed : AreClaimed told.anchor.extensions.claims anchor.sets
  unfolding IsAnchorOf
  claimed =
      subst (λ (x : Claims). AreClaimed x anchor.sets)
      (ap (λ (c : Certificate). c.tbs.extensions.claims) made.made) made.validated.1

  timely : (b : Settings) → IsToldInTime b told.list now → IsTimely b key by
  timely b h = record {
    issuer_key = ap (λ (k : KeptCertificate). k.certificate.tbs.key) kept
        ∙ (ap (λ (c : Certificate). c.tbs.key) made.made ∙ fits.anchor.own_key);
    in_time = h.in_time;
    signing_time = h.signing_time;
    unrevoked = λ contains.
        h.unrevoked ((pushed told.list (name_of key) list.signature b.serial_number).0
        (subst (λ (l : RevocationList). Contains l.tbs.revoked b.serial_number) listed contains));
  }

  -- where the plan fits, so does each object
  pub objects-fit : ObjectsFit key told.objects by
  objects-fit = record {
    roa = record {
      builder = timely told.objects.roa.builder fits.roa;
      prefixes = fits.prefixes anchor.sets claimed;
      numbers = fits.numbers anchor.sets claimed;
    };
    aspa = record {
      builder = timely told.objects.aspa.builder fits.aspa;
      customer = fits.customer anchor.sets claimed;
    };
    manifest = timely told.objects.manifest.builder fits.manifest;
  }
