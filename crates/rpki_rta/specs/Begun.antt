-- A validation of an attestation that has begun, and what its calls answer
-- (draft-michaelson-rpki-rta).
use Rattle.std.specs.Prelude.{◌≡◌, ◌≤◌, ℕ, List, Bool, Result, Ok, Err, All, option_map}
use Rattle.rpki_basics.specs.Moment.{Moment}
use Rattle.rpki_faults.specs.Checks.{IsFirstFault}
use Rattle.rpki_faults.specs.declared.validation.ValidationError.{ValidationError}
use Rattle.rpki_certs.specs.Validate.{Validated, ta_validation}
use Rattle.rpki_certs.specs.Verify.{Verdict}
use Rattle.rpki_sigobj.specs.Verify.{Digester}
use Rattle.rpki_tal.specs.Tal.{Locator}
use Rattle.rpki_multi.specs.Attestation.{KeptWhole, Whole, whole_of}
use Rattle.rpki_paths.specs.declared.decision.FinalFault.{FinalFault}
use Rattle.rpki_paths.specs.declared.supply.SupplyFault.{SupplyFault}
use Rattle.rpki_paths.specs.declared.walker.Path.{Path}
use Rattle.rpki_paths.specs.Accepting.{AreAccepted, most_verdicts}
use Rattle.rpki_paths.specs.Anchor.{Supply}
use Rattle.rpki_paths.specs.Cert.{Cert, IsIn}
use Rattle.rpki_paths.specs.Final.{Decides}
use Rattle.rpki_paths.specs.Supplied.{AnswersEach}
use Rattle.rpki_rta.specs.Carried.{IsValid, seen_cert, set_of}
use Rattle.rpki_rta.specs.Granted.{IsDistinct, attested_by, carried_by}
use Rattle.rpki_rta.specs.Faults.{final_fault, supply_answer}
use Rattle.rpki_rta.specs.declared.carried.Carried.{Carried as Handle}

-- An attestation that is being validated, what is kept of its paths, and how many verdicts were
-- asked to begin.
pub record Begun (C : Type 0) : Type 0 where
  pub rta : KeptWhole
  pub paths : List (Path (Handle C))
  pub verdicts : ℕ

-- what paths see of the handle of a carried certificate
abbrev pub cert_of : {C : Type 0} → (C → Verdict) → Handle C → Cert
cert_of says c =
    seen_cert (says c.crypto.now) c.cert.now.certificate (option_map (λ l. l.now.list) c.crl)

-- The handle is that of a carried certificate, and has this cryptography and this moment.
pub record IsHandle {C : Type 0} (crypto : C) (now : Moment) (r : Whole) (handle : Handle C)
    : Type 0 where
  pub carried : IsIn handle.cert.now.certificate r.signed.certs
  pub of_crypto : handle.crypto.now ≡ crypto
  pub of_now : handle.now ≡ now

-- The head of each path is the handle of a carried certificate, with this cryptography and this
-- moment.
abbrev pub HaveHandles : {C : Type 0} → C → Moment → Whole → List (Path (Handle C)) → Type 0
HaveHandles crypto now r paths = All (λ p. IsHandle crypto now r p.head) paths

-- The validation of this attestation has begun: every carried certificate is valid at the moment as
-- that of its kind, and what is carried is accepted, with what is kept of its paths, whose heads
-- are carried.
pub record IsBegun {C : Type 0} (digests : C → Digester) (says : C → Verdict) (crypto : C)
    (now : Moment) (r : KeptWhole) (v : Begun C) : Type 0 where
  pub of_rta : v.rta ≡ r
  pub valid : All (λ c. IsValid c.tbs now) (whole_of r).signed.certs
  pub accepted : AreAccepted (cert_of says)
      (carried_by (digests crypto) (says crypto) (whole_of r)) v.paths
  pub heads : HaveHandles crypto now (whole_of r) v.paths

-- With distinct identifiers few verdicts were asked to begin: of s signers, l lists and a CAs, at
-- most s + l + s * a (`most_verdicts`).
abbrev pub AsksFew : {C : Type 0} → Digester → Verdict → Whole → Begun C → Type 0
AsksFew digest verdict r v =
    IsDistinct digest verdict r → v.verdicts ≤ most_verdicts (carried_by digest verdict r)

-- what is supplied by a locator
abbrev pub supply_of_tal : Locator → Supply
supply_of_tal t = Supply.Tal t.key

-- what is supplied by a CA
abbrev pub supply_of_ca : Validated → Supply
supply_of_ca v =
    Supply.Ca v.cert.certificate.tbs.extensions.key.subject_key v.cert.certificate.tbs.key
    (set_of v.sets)

-- The fault is the first in the validation of the head as the certificate of a trust anchor.
abbrev pub RefusesHead : {C : Type 0} → (C → Verdict) → Handle C → ValidationError → Type 0
RefusesHead says head fault =
    IsFirstFault (ta_validation (says head.crypto.now) head.cert.now.certificate head.now) fault

-- The faults that a supply gives of a head that it is meant for: those of a locator, and none of a
-- CA.
abbrev pub Refuses : {C : Type 0} → (C → Verdict) → Supply → Handle C → ValidationError → Type 0
Refuses says (Supply.Tal key) head fault = RefusesHead says head fault
Refuses says (Supply.Ca ski key sets) head fault = ⊥

-- What a supply answers to the paths, its fault told as that of the whole, and what it leaves: on
-- each path that is not anchored, in order, it changes nothing where it is not meant for the head,
-- and anchors the path where it takes it; the first path that it is meant for and does not take
-- ends the call. The attestation stays, and so does the number of verdicts that were asked to
-- begin. That heads are valid is no premise, though `seen_cert` takes it as given: a handle is made
-- only of a certificate that is valid (`IsValid`).
pub record AnswersSupply {C : Type 0} (says : C → Verdict) (s : Supply) (old new : Begun C)
    (result : Result Bool ValidationError) : Type 0 where
  pub of_rta : new.rta ≡ old.rta
  pub of_verdicts : new.verdicts ≡ old.verdicts
  pub answer : Result Bool (SupplyFault ValidationError)
  pub each : AnswersEach (cert_of says) (Refuses says s) s old.paths new.paths answer
  pub told : result ≡ supply_answer answer

-- All paths are anchored, and each attested set has just the numbers of the paths.
abbrev pub IsEnded : {C : Type 0} → Begun C → Type 0
IsEnded v = Decides v.paths (attested_by v.rta.content) (Ok tt)

-- The end says no: by the first thing that does not hold, told as the fault of the whole.
abbrev pub EndsWith : {C : Type 0} → Begun C → ValidationError → Type 0
EndsWith v fault =
    (end : FinalFault) × Decides v.paths (attested_by v.rta.content) (Err end)
    × (fault ≡ final_fault end)
