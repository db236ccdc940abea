-- Certification paths among carried certificates (RFC 6487, section 7.2; RFC 8360, section 4.2).
use Rattle.std.specs.Prelude.{◌≡◌, ◌≢◌, List, [], ◌∷◌, Some, map, IsTrue, IsFalse}
use Rattle.rpki_faults.specs.declared.family.Family.{Family}
use Rattle.rpki_paths.specs.Cert.{Cert, Numbers, IsSelfSigned, IsIn, NoTwice}
use Rattle.rpki_paths.specs.Sets.{with_claim, IsCovered}

-- The carried CA `d` issued `c` and has not revoked it: `c` is not self-signed and names `d` by its
-- key identifier, the key of `d` verifies `c`, and the CRL of `d` does not list its serial. That names
-- are not compared, as RFC 6487, section 7.2, asks, is this project's own rule.
pub record IsIssuedBy (cas : List Cert) (c d : Cert) : Type 0 where
  pub not_self_signed : ¬ (IsSelfSigned c)
  pub carried : IsIn d cas
  pub names_issuer : c.aki ≡ Some d.ski
  pub signed : IsTrue (c.verifies d.key)
  pub not_revoked : IsFalse (d.revokes c.serial)

-- The place of `d` is that of no certificate of the path.
abbrev pub IsOff : Cert → List Cert → Type 0
IsOff d [] = Unit {0}
IsOff d (c ∷ p) = (d.place ≢ c.place) × IsOff d p

-- A chain of issuers without a return, from its head down to the end-entity certificate `ee`.
abbrev pub IsChain : List Cert → Cert → List Cert → Type 0
IsChain cas ee [] = ⊥
IsChain cas ee (c ∷ []) = c ≡ ee
IsChain cas ee (d ∷ c ∷ p) = IsIssuedBy cas c d × IsOff d (c ∷ p) × IsChain cas ee (c ∷ p)

-- The certificate is self-signed, or it names no carried CA as its issuer.
abbrev pub HasNoIssuer : List Cert → Cert → Type 0
HasNoIssuer cas c = (d : Cert) → IsIn d cas → c.aki ≡ Some d.ski → IsSelfSigned c

-- The head of the path is self-signed, or it names no carried CA as its issuer.
abbrev pub EndsAtTop : List Cert → List Cert → Type 0
EndsAtTop cas [] = ⊥
EndsAtTop cas (c ∷ p) = HasNoIssuer cas c

-- A path of the end-entity certificate `ee`: a chain that goes up to the top.
pub record IsPath (cas : List Cert) (ee : Cert) (p : List Cert) : Type 0 where
  pub chain : IsChain cas ee p
  pub top : EndsAtTop cas p

-- The explicit sets of a family along a path, the head's first.
abbrev pub explicit_sets : List Cert → Family → List Numbers
explicit_sets [] f = []
explicit_sets (c ∷ p) f = with_claim (c.claim f) (explicit_sets p f)

-- At each link and in each family, the claim of the issuer covers what is below, where it has to.
abbrev pub IsLinkCovered : List Cert → Type 0
IsLinkCovered [] = Unit {0}
IsLinkCovered (c ∷ []) = Unit {0}
IsLinkCovered (d ∷ c ∷ p) =
    ((f : Family) → IsCovered (λ n. n) c.overclaim (explicit_sets (c ∷ p) f) (d.claim f))
    × IsLinkCovered (c ∷ p)

-- No two carried CAs have one subject key identifier.
abbrev pub IsDistinct : List Cert → Type 0
IsDistinct cas = NoTwice (map (λ c. c.ski) cas)
