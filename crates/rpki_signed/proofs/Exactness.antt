-- From octets to the yes.
use Rattle.std.proofs.Common.{◌≡◌, ◌⊎◌, inl, inr, ℕ, List, Result, Ok, Err, refl, subst}
use Rattle.rpki_der.specs.declared.error.DecodeError.TheVariants as unread
use Rattle.rpki_der.specs.declared.mode.Mode.{Mode}
use Rattle.rpki_basics.specs.Moment.{Moment}
use Rattle.rpki_faults.specs.declared.validation.ValidationError.{ValidationError}
use Rattle.rpki_faults.specs.declared.validation.ValidationError.TheVariants as faults
use Rattle.rpki_certs.specs.Cert.{KeptCertificate}
use Rattle.rpki_certs.specs.Validate.{Validated}
use Rattle.rpki_certs.specs.Verify.{Verdict}
use Rattle.rpki_sigobj.specs.Verify.{Digester}
use Rattle.rpki_sigobj.specs.Signed.Good.{IsNotGood}
use Rattle.rpki_sigobj.specs.Signed.Kind.{ObjectKind}
use Rattle.rpki_sigobj.specs.Signed.{Whole, cert_in}
use Rattle.rpki_multi.specs.Attestation.{KeptWhole, Whole as Attested}
use Rattle.rpki_paths.specs.Anchor.{Supply}
use Rattle.rpki_rta.specs.Granted.{GrantsRta, IsDistinct}
use Rattle.rpki_signed.specs.declared.check.CheckError.{CheckError}
use Rattle.rpki_signed.specs.declared.check.CheckError.TheVariants.{Decode, Validation}
use Rattle.rpki_signed.specs.Attested.{IsExactRta}
use Rattle.rpki_signed.specs.Exact.{IsExact}
use Rattle.rpki_signed.specs.Headline.{BeginsWithGood, BeginsWithGranted, IsHeadline}
use Rattle.rpki_signed.specs.Headline.{IsMemory, IsRtaHeadline, SaysOne}

yes-is-no : {T E : Type 0} (t : T) (e : E) → Ok t ≡ Err e → ⊥
yes-is-no t e h = absurd cc

-- ---- one signer

module _ {X : Type 0} (kind : ObjectKind X) (form : List ℕ → X → Type 0) (mode : Mode)
    (digest : Digester) (verdict : Verdict) (issuer : Validated) (now : Moment)
    (Says : KeptCertificate → Result (Unit {0}) ValidationError → Type 0) (octets : List ℕ) where
  abbrev Good : Type 0
  Good = BeginsWithGood kind form mode digest verdict issuer now Says octets

  yes-is-good : (a : Validated × X)
      → IsExact kind form mode digest verdict issuer now Says octets (Ok a) → Good
  yes-is-good a b = record {
    object = b.object;
    rest = b.rest;
    front = b.front;
    certificate = a.0;
    good = b.holds.1;
    said = b.holds.0;
  }

  refused-here : (fault : ValidationError) → (g : Good)
      → IsNotGood kind mode digest verdict issuer now (Says (cert_in mode g.object)) g.object fault
      → ¬ (SaysOne Says (cert_in mode g.object))
  refused-here fault g h one =
      yes-is-no tt fault (one (Ok tt) (Err fault) g.said (h g.certificate g.good))

  no-is-not-good : (e : CheckError)
      → IsExact kind form mode digest verdict issuer now Says octets (Err e) → ¬ (IsMemory e)
      → (g : Good) → ¬ (SaysOne Says (cert_in mode g.object))
  no-is-not-good (Decode unread.Memory) h m g one = m refl
  no-is-not-good (Decode unread.Malformed) h m g one = h g.object g.rest g.front.found
  no-is-not-good (Decode (unread.Content fault)) h m g one = h g.object g.rest g.front.found
  no-is-not-good (Validation fault) b m g one =
      let same : b.object ≡ g.object = (g.front.only b.object b.rest b.front.found).0 in
      of (subst (λ (o : Whole X). (fault ≡ faults.Memory)
      ⊎ IsNotGood kind mode digest verdict issuer now (Says (cert_in mode o)) o fault) same b.holds)
    where
      of : (fault ≡ faults.Memory)
          ⊎ IsNotGood kind mode digest verdict issuer now (Says (cert_in mode g.object)) g.object
          fault
          → ⊥
      of (inl e) = m e
      of (inr h) = refused-here fault g h one

pub headline : {X : Type 0} (kind : ObjectKind X) (form : List ℕ → X → Type 0)
    (Says : KeptCertificate → Result (Unit {0}) ValidationError → Type 0)
    → IsHeadline kind form Says
headline kind form Says = record {
  yes = λ mode digest verdict issuer now octets.
      yes-is-good kind form mode digest verdict issuer now Says octets;
  no = λ mode digest verdict issuer now octets.
      no-is-not-good kind form mode digest verdict issuer now Says octets;
}

-- ---- several signers

module _ (digest : Digester) (verdict : Verdict) (now : Moment) (supplies : List Supply)
    (octets : List ℕ) where
  rta-yes : (k : KeptWhole) → IsExactRta digest verdict now supplies octets (Ok k)
      → BeginsWithGranted digest verdict now supplies octets
  rta-yes k b = record {
    object = b.object;
    rest = b.rest;
    front = b.front;
    granted = b.holds.0;
  }

  rta-no : (e : CheckError) → IsExactRta digest verdict now supplies octets (Err e)
      → ¬ (IsMemory e) → (g : BeginsWithGranted digest verdict now supplies octets)
      → ¬ (IsDistinct digest verdict g.object)
  rta-no (Decode unread.Memory) h m g distinct = m refl
  rta-no (Decode unread.Malformed) h m g distinct = h g.object g.rest g.front.found
  rta-no (Decode (unread.Content fault)) h m g distinct = h g.object g.rest g.front.found
  rta-no (Validation fault) b m g distinct =
      let same : b.object ≡ g.object = (g.front.only b.object b.rest b.front.found).0 in
      subst (λ (r : Attested). GrantsRta digest verdict now supplies r (Err fault)) same b.holds
      m distinct g.granted

pub rta-headline : IsRtaHeadline
rta-headline = record {
  yes = λ digest verdict now supplies octets. rta-yes digest verdict now supplies octets;
  no = λ digest verdict now supplies octets. rta-no digest verdict now supplies octets;
}
