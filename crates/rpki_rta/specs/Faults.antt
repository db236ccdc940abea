-- How faults of the parts are told of the whole (draft-michaelson-rpki-rta).
use Rattle.std.specs.Prelude.{Result, Ok, Err}
use Rattle.rpki_faults.specs.declared.validation.ValidationError.{ValidationError}
use Rattle.rpki_faults.specs.declared.validation.ValidationError.TheVariants.{Verification, Memory}
use Rattle.rpki_faults.specs.declared.verification.VerificationError.TheVariants as faults
use Rattle.rpki_paths.specs.declared.acceptance.AcceptFault.{AcceptFault}
use Rattle.rpki_paths.specs.declared.acceptance.AcceptFault.TheVariants as accepts
use Rattle.rpki_paths.specs.declared.attestation.GrantFault.{GrantFault}
use Rattle.rpki_paths.specs.declared.attestation.GrantFault.TheVariants.{NotAccepted, NotSupplied}
use Rattle.rpki_paths.specs.declared.attestation.GrantFault.TheVariants.{NotGranted}
use Rattle.rpki_paths.specs.declared.decision.FinalFault.{FinalFault}
use Rattle.rpki_paths.specs.declared.decision.FinalFault.TheVariants as finals
use Rattle.rpki_paths.specs.declared.supply.SupplyFault.{SupplyFault}
use Rattle.rpki_paths.specs.declared.supply.SupplyFault.TheVariants as supplies
use Rattle.rpki_paths.specs.declared.walker.PathFault.{PathFault}
use Rattle.rpki_paths.specs.declared.walker.PathFault.TheVariants as paths
use Rattle.rpki_paths.specs.declared.walks.WalksFault.{WalksFault}
use Rattle.rpki_paths.specs.declared.walks.WalksFault.TheVariants as walks

-- the fault of a walk up one certification path, told as one of the attestation
abbrev pub path_fault : PathFault → ValidationError
path_fault paths.NoValidIssuer = Verification faults.InvalidCaCertificates
path_fault paths.Returns = Verification faults.PathReturns
path_fault paths.Revoked = Verification faults.Revoked
path_fault (paths.NotCovered family) = Verification (faults.Overclaimed family)
path_fault paths.Memory = Memory

-- the fault of the walks up all certification paths, told as one of the attestation
abbrev pub walks_fault : WalksFault → ValidationError
walks_fault (walks.NoPath fault) = path_fault fault
walks_fault (walks.Unused place) = Verification faults.UnusedCaCertificates
walks_fault walks.Memory = Memory

-- the fault of what an attestation carries, told as one of the attestation
abbrev pub accept_fault : AcceptFault ValidationError → ValidationError
accept_fault (accepts.NotGood fault) = fault
accept_fault accepts.NoCrl = Verification faults.MissingCrl
accept_fault accepts.NoKey = Verification faults.UnknownKey
accept_fault accepts.Digest = Verification faults.SignerDigest
accept_fault accepts.NoCert = Verification faults.MissingCertificate
accept_fault accepts.KeysLeft = Verification faults.UnusedSubjectKeys
accept_fault accepts.CrlsLeft = Verification faults.UnusedCrls
accept_fault accepts.CertsLeft = Verification faults.UnusedEeCertificates
accept_fault (accepts.Walks fault) = walks_fault fault
accept_fault accepts.Memory = Memory

-- the fault of a supply, told as one of the attestation
abbrev pub supply_fault : SupplyFault ValidationError → ValidationError
supply_fault (supplies.NoAnchor fault) = fault
supply_fault (supplies.NotCovered family) = Verification (faults.Overclaimed family)
supply_fault supplies.Memory = Memory

-- the answer of a supply, its fault told as one of the attestation
abbrev pub supply_answer : {T : Type 0} → Result T (SupplyFault ValidationError) →
    Result T ValidationError
supply_answer (Ok done) = Ok done
supply_answer (Err fault) = Err (supply_fault fault)

-- the fault of a validation at its end, told as one of the attestation
abbrev pub final_fault : FinalFault → ValidationError
final_fault finals.NotAnchored = Verification faults.NotAnchored
final_fault finals.AsNumbers = Verification faults.AsNotFullyCovered
final_fault finals.Addresses = Verification faults.IpNotFullyCovered
final_fault finals.Memory = Memory

-- the first fault of a whole validation, told as one of the attestation
abbrev pub grant_fault : GrantFault ValidationError ValidationError → ValidationError
grant_fault (NotAccepted fault) = accept_fault fault
grant_fault (NotSupplied fault) = supply_fault fault
grant_fault (NotGranted fault) = final_fault fault
