-- Verifying a certificate: the checks and their order.
use Rattle.std.specs.Prelude.{◌≡◌, ◌≤◌, ℕ, List, [], ◌∷◌, ◌++◌, Bool, true, Some}
use Rattle.rpki_basics.specs.Moment.{Moment, Period, stamp}
use Rattle.rpki_faults.specs.Checks.{Check, ◌unless◌}
use Rattle.rpki_faults.specs.declared.verification.VerificationError.{VerificationError}
use Rattle.rpki_faults.specs.declared.verification.VerificationError.TheVariants as faults
use Rattle.rpki_certs.specs.Cert.{Tbs, Certificate}

-- Whether a signature is good, given the bits of the key, the message and the signature.
abbrev pub Verdict : Type 0
Verdict = List ℕ → List ℕ → List ℕ → Bool

-- The certificate states this issuer's key identifier as its issuer's (RFC 6487, section 4.8.3).
-- Not comparing names is this project's own rule.
abbrev pub IsClaimedOf : Tbs → Tbs → Type 0
IsClaimedOf issuer t =
    t.extensions.key.authority_key ≡ Some issuer.extensions.key.subject_key

-- The validity period has begun; its first moment belongs to it (RFC 5280, section 4.1.2.5).
abbrev pub HasBegun : Period → Moment → Type 0
HasBegun p now = stamp p.not_before ≤ stamp now

-- The validity period has not ended; its last moment belongs to it (RFC 5280, section 4.1.2.5).
abbrev pub HasNotEnded : Period → Moment → Type 0
HasNotEnded p now = stamp now ≤ stamp p.not_after

-- The moment lies in the validity period.
abbrev pub IsInTime : Period → Moment → Type 0
IsInTime p now = HasBegun p now × HasNotEnded p now

-- The key signed the certificate: its signature is good for the octets of its signed part, as they
-- stand in it (RFC 5280, section 6.1.3).
abbrev pub IsSignedBy : Verdict → List ℕ → Certificate → Type 0
IsSignedBy verdict key c = verdict key c.signed c.signature ≡ true

-- The certificate states this issuer's key identifier.
abbrev pub claim_checks : Tbs → Tbs → List (Check VerificationError)
claim_checks issuer t = (faults.IssuerClaim unless IsClaimedOf issuer t) ∷ []

-- The moment lies in the validity period; the beginning is checked first.
abbrev pub validity_checks : Period → Moment → List (Check VerificationError)
validity_checks p now =
    (faults.NotYetValid unless HasBegun p now)
    ∷ (faults.Expired unless HasNotEnded p now)
    ∷ []

-- The key signed the certificate.
abbrev pub signature_checks : Verdict → List ℕ → Certificate → List (Check VerificationError)
signature_checks verdict key c = (faults.BadSignature unless IsSignedBy verdict key c) ∷ []

-- Verifying a trust anchor's certificate: its validity time, then the signature by its own key.
abbrev pub ta_ref_checks : Verdict → Certificate → Moment → List (Check VerificationError)
ta_ref_checks verdict c now =
    validity_checks c.tbs.validity now ++ signature_checks verdict c.tbs.key c
