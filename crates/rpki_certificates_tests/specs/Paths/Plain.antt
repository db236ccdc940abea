-- The claims of a certificate, and why one is no trust anchor.
use Rattle.std.specs.Prelude.{◌≡◌, Bool, IsTrue, IsFalse}
use Rattle.rpki_resources.specs.declared.resources.Claim.{Claim}
use Rattle.rpki_faults.specs.declared.family.Family.{Family}
use Rattle.rpki_faults.specs.declared.family.Family.TheVariants.{As, V4, V6}
use Rattle.rpki_paths.specs.Cert.{Numbers}

-- The claim of each family.
abbrev pub claims_of : Claim Numbers → Claim Numbers → Claim Numbers → Family → Claim Numbers
claims_of asn v4 v6 As = asn
claims_of asn v4 v6 V4 = v4
claims_of asn v4 v6 V6 = v6

-- The set of each family.
abbrev pub sets_of : Numbers → Numbers → Numbers → Family → Numbers
sets_of asn v4 v6 As = asn
sets_of asn v4 v6 V4 = v4
sets_of asn v4 v6 V6 = v6

-- The fault is that of the first of two tests that a head does not pass: its inspection, and the
-- verdict of its own key.
abbrev pub IsNoAnchor : {Fault : Type 0} → Fault → Fault → Bool → Bool → Fault → Type 0
IsNoAnchor inspection signature is_anchor verifies fault =
    (fault ≡ inspection → IsFalse is_anchor)
    × (fault ≡ signature → IsTrue is_anchor × IsFalse verifies)
