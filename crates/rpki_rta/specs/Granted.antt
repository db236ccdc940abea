-- When a multi-signed attestation is accepted, and when it is granted (draft-michaelson-rpki-rta).
use Rattle.std.specs.Prelude.{◌≡◌, List, not, All, map, filter, Result, Ok, Err}
use Rattle.rpki_basics.specs.Moment.{Moment}
use Rattle.rpki_faults.specs.declared.family.Family.{Family}
use Rattle.rpki_faults.specs.declared.family.Family.TheVariants.{As, V4, V6}
use Rattle.rpki_faults.specs.declared.validation.ValidationError.{ValidationError}
use Rattle.rpki_faults.specs.declared.validation.ValidationError.TheVariants.{Memory}
use Rattle.rpki_certs.specs.Verify.{Verdict}
use Rattle.rpki_sigobj.specs.Verify.{Digester}
use Rattle.rpki_tagged.specs.Attestation.{Attestation}
use Rattle.rpki_multi.specs.Attestation.{Whole}
use Rattle.rpki_paths.specs.After.{IsGrantedBySome}
use Rattle.rpki_paths.specs.Anchor.{Supply}
use Rattle.rpki_paths.specs.Cert.{Cert, Numbers}
use Rattle.rpki_paths.specs.Grant.{IsAccepted, IsGranted}
use Rattle.rpki_paths.specs.Pairing.{Carried, HasDistinctIds}
use Rattle.rpki_rta.specs.Carried.{IsValid, is_of_ca, seen_alone, seen_crl, seen_signer}

-- What an attestation carries, as paths see it: the certificates of end entities and those of CAs
-- each in their order. Each is seen as valid: what rests on this says beside it that they all are
-- (`IsValid`).
abbrev pub carried_by : Digester → Verdict → Whole → Carried
carried_by digest verdict r = record {
  subject_keys = r.content.subject_keys;
  signers = map (seen_signer verdict (digest r.signed.content)) r.signed.signers;
  ees = map (seen_alone verdict) (filter (λ c. not (is_of_ca c.tbs)) r.signed.certs);
  cas = map (seen_alone verdict) (filter (λ c. is_of_ca c.tbs) r.signed.certs);
  crls = map (seen_crl verdict) r.signed.crls;
}

-- the sets that are attested
abbrev pub attested_by : Attestation → Family → Numbers
attested_by a As = a.as_resources
attested_by a V4 = a.v4_resources
attested_by a V6 = a.v6_resources

-- The attestation is accepted at this moment: every carried certificate is valid as that of its
-- kind, all that is carried is paired, each signer has a certification path whose links are
-- covered, and each carried CA stands on one of these.
pub record IsAcceptedRta (digest : Digester) (verdict : Verdict) (now : Moment) (r : Whole) :
    Type 0 where
  pub valid : All (λ c. IsValid c.tbs now) r.signed.certs
  pub paths : List (List Cert)
  pub accepted : IsAccepted (carried_by digest verdict r) paths

-- No two carried CAs share a key identifier, and end entities that share one have one key.
abbrev pub IsDistinct : Digester → Verdict → Whole → Type 0
IsDistinct digest verdict r = HasDistinctIds (carried_by digest verdict r)

-- The attestation is granted at this moment under these supplies: every carried certificate is
-- valid as that of its kind, and what is carried is granted, with the attested sets: it is
-- accepted, each path is anchored by the first supply that is meant for it, and each set has just
-- the numbers that some path stands for.
pub record IsGrantedRta (digest : Digester) (verdict : Verdict) (now : Moment) (r : Whole)
    (supplies : List Supply) : Type 0 where
  pub valid : All (λ c. IsValid c.tbs now) r.signed.certs
  pub granted : IsGranted (carried_by digest verdict r) supplies (attested_by r.content)

-- The attestation is granted, but that each path may be anchored by any supply that is meant for it
-- and takes it.
pub record IsGrantedRtaBySome (digest : Digester) (verdict : Verdict) (now : Moment) (r : Whole)
    (supplies : List Supply) : Type 0 where
  pub valid : All (λ c. IsValid c.tbs now) r.signed.certs
  pub granted : IsGrantedBySome (carried_by digest verdict r) supplies (attested_by r.content)

-- Where an attestation is refused by this fault, other than want of memory, it is not accepted, if
-- the identifiers of its certificates are distinct.
abbrev pub RefusesRightly : Digester → Verdict → Moment → Whole → ValidationError → Type 0
RefusesRightly digest verdict now r fault =
    ¬ (fault ≡ Memory) → IsDistinct digest verdict r → ¬ (IsAcceptedRta digest verdict now r)

-- Where a validation under these supplies is refused by this fault, other than want of memory, the
-- attestation is not granted, if the identifiers of its certificates are distinct.
abbrev pub DeniesRightly : Digester → Verdict → Moment → List Supply → Whole → ValidationError
    → Type 0
DeniesRightly digest verdict now supplies r fault =
    ¬ (fault ≡ Memory) → IsDistinct digest verdict r
    → ¬ (IsGrantedRta digest verdict now r supplies)

-- What a validation of this attestation answers: a yes only where it is granted at this moment
-- under these supplies, and a fault other than want of memory, if the identifiers of its
-- certificates are distinct, only where it is not.
abbrev pub GrantsRta : Digester → Verdict → Moment → List Supply → Whole
    → Result (Unit {0}) ValidationError → Type 0
GrantsRta digest verdict now supplies r (Ok done) = IsGrantedRta digest verdict now r supplies
GrantsRta digest verdict now supplies r (Err fault) =
    DeniesRightly digest verdict now supplies r fault
