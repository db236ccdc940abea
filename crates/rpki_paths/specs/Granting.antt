-- Why the whole check of an attestation fails, and when it does so for want of memory alone.
use Rattle.std.specs.Prelude.{◌≡◌, List, All, Ok, Err}
use Rattle.rpki_faults.specs.declared.family.Family.{Family}
use Rattle.rpki_paths.specs.declared.walker.Path.{Path}
use Rattle.rpki_paths.specs.declared.attestation.GrantFault.{GrantFault}
use Rattle.rpki_paths.specs.declared.attestation.GrantFault.TheVariants.{NotAccepted, NotSupplied}
use Rattle.rpki_paths.specs.declared.attestation.GrantFault.TheVariants.{NotGranted}
use Rattle.rpki_paths.specs.declared.supply.SupplyFault.TheVariants.{Memory as NoMemory}
use Rattle.rpki_paths.specs.declared.decision.FinalFault.TheVariants.{Memory as UnionMemory}
use Rattle.rpki_paths.specs.Cert.{Cert, Numbers}
use Rattle.rpki_paths.specs.Anchor.{Supply}
use Rattle.rpki_paths.specs.Pairing.{Carried}
use Rattle.rpki_paths.specs.Supplied.{AreSuppliedAll}
use Rattle.rpki_paths.specs.Final.{Decides}
use Rattle.rpki_paths.specs.Accepting.{AreAccepted, WantsMemory}
use Rattle.rpki_paths.specs.declared.acceptance.AcceptFault.{AcceptFault}

-- The fault says that memory was wanting: while the attestation was accepted, under a supply, or at
-- the end.
abbrev pub LacksMemory : {A F : Type 0} → GrantFault A F → Type 0
LacksMemory (NotAccepted fault) = WantsMemory fault
LacksMemory (NotSupplied fault) = fault ≡ NoMemory
LacksMemory (NotGranted fault) = fault ≡ UnionMemory

-- Why an attestation is not granted: it is not accepted, for a cause of which `refused` holds; or
-- paths of which `accepted` holds were walked, and one of the supplies, handed in one after the
-- other, declines a path; or none of them does, and the end says no.
abbrev pub WhyNotGranted : {C Y A F : Type 0} → (AcceptFault A → Type 0) →
    (List (Path C) → Type 0) → (C → Cert) → (Y → Supply) → (Y → C → F → Type 0) → List Y →
    (Family → Numbers) → GrantFault A F → Type 0
WhyNotGranted refused accepted cert of refuses supplies attested (NotAccepted fault) =
    refused fault
WhyNotGranted {C} refused accepted cert of refuses supplies attested (NotSupplied fault) =
    (walked : List (Path C)) × (kept : List (Path C)) × accepted walked
    × AreSuppliedAll cert of refuses supplies walked kept (Err fault)
WhyNotGranted {C} refused accepted cert of refuses supplies attested (NotGranted fault) =
    (walked : List (Path C)) × (kept : List (Path C)) × accepted walked
    × AreSuppliedAll cert of refuses supplies walked kept (Ok tt)
    × Decides kept attested (Err fault)

-- All certificates of an attestation are good, and it is accepted with these paths.
abbrev pub IsPassed : {X C : Type 0} → (X → Type 0) → List X → (C → Cert) → Carried →
    List (Path C) → Type 0
IsPassed good certs cert a walked = All good certs × AreAccepted cert a walked
