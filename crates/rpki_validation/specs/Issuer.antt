-- The issuer that certificates make, none of which a list revokes.
use Rattle.std.specs.Prelude.{◌≡◌, ℕ, ◌+◌, List, [], ◌∷◌, Option, None, Some, Result, Ok, Err}
use Rattle.rpki_basics.specs.Moment.{Moment}
use Rattle.rpki_certs.specs.Cert.{Certificate}
use Rattle.rpki_certs.specs.Issuer.{IsIssued, MakesIssuer}
use Rattle.rpki_certs.specs.Validate.{AreCanonical, Validated}
use Rattle.rpki_crls.specs.Crl.{KeptCrl}
use Rattle.rpki_rsa.specs.Signature.{is_rsa_signature}
use Rattle.rpki_tal.specs.Tal.{Locator}
use Rattle.rpki_validation.specs.Revoked.{IsRevokedAt, IsUnrevoked}
use Rattle.rpki_validation.specs.declared.refusal.CaFault.{CaFault}
use Rattle.rpki_validation.specs.declared.refusal.CaFault.TheVariants.{Error, Revoked}
use Rattle.rpki_validation.specs.declared.refusal.IssuerFault.{IssuerFault}
use Rattle.rpki_validation.specs.declared.refusal.IssuerFault.TheVariants.{Anchor, Chain, OtherKey}

-- The certificate has the key of the locator, if there is one (RFC 8630, section 3).
abbrev pub IsKeyed : Certificate → Option Locator → Type 0
IsKeyed c None = Unit {0}
IsKeyed c (Some locator) = c.tbs.key ≡ locator.key

-- What is answered of the certificate of a trust anchor: it, if it is valid (`MakesIssuer`) and has
-- the key of the locator; and else why not.
abbrev pub IsAnchorMade : Moment → Option Locator → List ℕ → Result Validated IssuerFault → Type 0
IsAnchorMade now locator octets (Ok v) =
    MakesIssuer is_rsa_signature now octets [] (Ok v) × IsKeyed v.cert.certificate locator
IsAnchorMade now locator octets (Err (Anchor fault)) =
    MakesIssuer is_rsa_signature now octets [] (Err fault)
IsAnchorMade now locator octets (Err OtherKey) = (v : Validated)
    × MakesIssuer is_rsa_signature now octets [] (Ok v) × (¬ IsKeyed v.cert.certificate locator)
IsAnchorMade now locator octets (Err (Chain place fault)) = ⊥

-- What is answered of the certificate of a CA under this issuer: it, if it is valid (`IsIssued`) and
-- no list revokes it, with each set of its numbers in the one way to write it; and else why not, and
-- which is the first list that does.
abbrev pub IsNextCa : List KeptCrl → Moment → Validated → List ℕ → Result Validated CaFault → Type 0
IsNextCa lists now issuer octets (Ok next) = IsIssued is_rsa_signature now issuer octets (Ok next)
    × IsUnrevoked lists issuer.cert.certificate next.cert.certificate
    × AreCanonical next.sets
IsNextCa lists now issuer octets (Err (Error fault)) =
    IsIssued is_rsa_signature now issuer octets (Err fault)
IsNextCa lists now issuer octets (Err (Revoked place)) = (next : Validated)
    × IsIssued is_rsa_signature now issuer octets (Ok next)
    × IsRevokedAt lists issuer.cert.certificate next.cert.certificate place

-- what is answered after the certificate at this place of a chain: what comes of it, or its fault
abbrev pub Then : ℕ → (Validated → Type 0) → Result Validated CaFault
    → Result Validated IssuerFault → Type 0
Then place Next (Ok valid) result = Next valid
Then place Next (Err fault) result = result ≡ Err (Chain place fault)

-- What is answered of a chain under a certificate, which is the answer where the chain is empty:
-- each is that of a CA under the one before, and no list revokes it, and the last one is the answer;
-- or else why the first that is none is not, unless memory ran out. The first has this place.
abbrev pub Leads : List KeptCrl → Moment → ℕ → Validated → List (List ℕ)
    → Result Validated IssuerFault → Type 0
Leads lists now place first [] result = result ≡ Ok first
Leads lists now place first (octets ∷ others) result =
    (next : Result Validated CaFault) × IsNextCa lists now first octets next
    × Then place (λ valid. Leads lists now (place + 1) valid others result) next result

-- what is answered of a chain after the certificate of a trust anchor: what comes of it, or its
-- fault
abbrev pub After : (Validated → Type 0) → Result Validated IssuerFault
    → Result Validated IssuerFault → Type 0
After Next (Ok valid) result = Next valid
After Next (Err fault) result = result ≡ Err fault

-- What is answered of a trust anchor's certificate, which has the key of the locator, and of a chain
-- under it, where none of these lists may revoke a certificate of the chain (RFC 6487, section 7.2).
abbrev pub IsIssuerOf : List KeptCrl → Moment → List ℕ → Option Locator → List (List ℕ)
    → Result Validated IssuerFault → Type 0
IsIssuerOf lists now anchor locator chain result =
    (first : Result Validated IssuerFault) × IsAnchorMade now locator anchor first
    × After (λ valid. Leads lists now 0 valid chain result) first result
