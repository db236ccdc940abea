-- The texts of faults.
use Rattle.std.specs.Prelude.{ℕ, List, ◌++◌, Option, Some, codes, decimal}
use Rattle.rpki_faults.specs.declared.verification.VerificationError.{VerificationError}
use Rattle.rpki_faults.specs.Text.Verification.{verification_text}
use Rattle.rpki_paths.specs.declared.pairs.PairFault.{PairFault}
use Rattle.rpki_paths.specs.declared.walker.PathFault.{PathFault}
use Rattle.rpki_paths.specs.declared.walks.WalksFault.{WalksFault}
use Rattle.rpki_paths.specs.declared.acceptance.AcceptFault.{AcceptFault}
use Rattle.rpki_paths.specs.declared.supply.SupplyFault.{SupplyFault}
use Rattle.rpki_paths.specs.declared.decision.FinalFault.{FinalFault}
use Rattle.rpki_paths.specs.declared.attestation.GrantFault.{GrantFault}

-- The text that says why items cannot be paired.
abbrev pub pair_text : PairFault → List ℕ
pair_text (PairFault.Unpaired place) = codes "nothing left for item " ++ decimal place
pair_text PairFault.LeftOver = codes "items left over"
pair_text PairFault.Memory = codes "out of memory"

-- The text that says why a walk from an end-entity certificate is refused.
abbrev pub path_text : PathFault → List ℕ
path_text PathFault.NoValidIssuer = codes "no valid issuer"
path_text PathFault.Returns = codes "path returns to its issuer"
path_text PathFault.Revoked = codes "certificate revoked"
path_text (PathFault.NotCovered family) = verification_text (VerificationError.Overclaimed family)
path_text PathFault.Memory = codes "out of memory"

-- The text that says why not all end-entity certificates have paths on which all CAs stand.
abbrev pub walks_text : WalksFault → List ℕ
walks_text (WalksFault.NoPath fault) = path_text fault
walks_text (WalksFault.Unused place) = codes "unused CA certificate " ++ decimal place
walks_text WalksFault.Memory = codes "out of memory"

-- The text that says why an attestation is not accepted, where own are the texts of the faults of
-- certificates.
abbrev pub accept_text : {F : Type 0} → (F → Option (List ℕ)) → AcceptFault F → Option (List ℕ)
accept_text own (AcceptFault.NotGood fault) = own fault
accept_text own AcceptFault.NoCrl = Some (codes "no revocation list for a CA")
accept_text own AcceptFault.NoKey = Some (codes "no subject key for a signer")
accept_text own AcceptFault.Digest = Some (codes "wrong digest of the content")
accept_text own AcceptFault.NoCert = Some (codes "no certificate for a signer")
accept_text own AcceptFault.KeysLeft = Some (codes "unused subject keys")
accept_text own AcceptFault.CrlsLeft = Some (codes "unused revocation lists")
accept_text own AcceptFault.CertsLeft = Some (codes "unused end-entity certificates")
accept_text own (AcceptFault.Walks fault) = Some (walks_text fault)
accept_text own AcceptFault.Memory = Some (codes "out of memory")

-- The text that says why a supply ends a call, where own are the texts of a locator's own faults.
abbrev pub supply_text : {F : Type 0} → (F → Option (List ℕ)) → SupplyFault F → Option (List ℕ)
supply_text own (SupplyFault.NoAnchor fault) = own fault
supply_text own (SupplyFault.NotCovered family) =
    Some (verification_text (VerificationError.Overclaimed family))
supply_text own SupplyFault.Memory = Some (codes "out of memory")

-- The text that says why attested sets are not granted.
abbrev pub final_text : FinalFault → List ℕ
final_text FinalFault.NotAnchored = codes "path not anchored"
final_text FinalFault.AsNumbers = codes "AS numbers not those of the paths"
final_text FinalFault.Addresses = codes "addresses not those of the paths"
final_text FinalFault.Memory = codes "out of memory"

-- The text that says why an attestation is not granted, where own are the texts of the faults of
-- certificates and of a locator's own faults.
abbrev pub grant_text : {A F : Type 0} → (A → Option (List ℕ)) → (F → Option (List ℕ)) →
    GrantFault A F → Option (List ℕ)
grant_text own others (GrantFault.NotAccepted fault) = accept_text own fault
grant_text own others (GrantFault.NotSupplied fault) = supply_text others fault
grant_text own others (GrantFault.NotGranted fault) = Some (final_text fault)
