-- When an attestation is accepted, and when it is granted (draft-michaelson-rpki-rta).
use Rattle.std.specs.Prelude.{◌≡◌, ℕ, suc, Bool, false, List, [], ◌∷◌, IsTrue, ◌||◌}
use Rattle.rpki_resources.specs.Blocks.{holds}
use Rattle.rpki_faults.specs.declared.family.Family.{Family}
use Rattle.rpki_paths.specs.Cert.{Cert, Numbers, IsIn, at_place}
use Rattle.rpki_paths.specs.Path.{IsPath, IsLinkCovered, IsOff}
use Rattle.rpki_paths.specs.Anchor.{Supply, IsAnchored, path_set}
use Rattle.rpki_paths.specs.Pairing.{Carried, Crl, IsMatching}

-- Each CA with the CRL that is paired with it, at places that count from a number on.
abbrev pub with_crls : ℕ → List Cert → List Crl → List Cert
with_crls n [] crls = []
with_crls n (d ∷ cas) [] = []
with_crls n (d ∷ cas) (l ∷ crls) =
    at_place n (record d { revokes = l.serials }) ∷ with_crls (suc n) cas crls

-- The handles of CAs with their CRLs: each is that of the CA, with what the CRL lists.
abbrev pub HaveCrls : {C R : Type 0} → (C → Cert) → (R → Crl) → List C → List R → List C → Type 0
HaveCrls cert crl [] [] [] = Unit {0}
HaveCrls cert crl [] [] (h ∷ with) = ⊥
HaveCrls cert crl [] (l ∷ crls) with = ⊥
HaveCrls cert crl (d ∷ cas) [] with = ⊥
HaveCrls cert crl (d ∷ cas) (l ∷ crls) [] = ⊥
HaveCrls cert crl (d ∷ cas) (l ∷ crls) (h ∷ with) =
    (cert h ≡ record (cert d) { revokes = (crl l).serials }) × HaveCrls cert crl cas crls with

-- The CAs of an attestation, with their CRLs. Place 0 is that of the end-entity certificate of a
-- path, so that no two certificates of a path share one.
abbrev pub authorities : Carried → List Crl → List Cert
authorities a crls = with_crls 1 a.cas crls

-- The paths of some end-entity certificates, one of each, in order, their links covered.
abbrev pub ArePaths : List Cert → List Cert → List (List Cert) → Type 0
ArePaths cas [] [] = Unit {0}
ArePaths cas [] (p ∷ paths) = ⊥
ArePaths cas (e ∷ ees) [] = ⊥
ArePaths cas (e ∷ ees) (p ∷ paths) =
    IsPath cas (at_place 0 e) p × IsLinkCovered p × ArePaths cas ees paths

-- The CA stands on one of the paths.
abbrev pub IsUsed : Cert → List (List Cert) → Type 0
IsUsed d paths = (p : List Cert) × IsIn p paths × ¬ (IsOff d p)

-- Every carried certificate passes its inspection, and is valid at the moment.
pub record AreValid (a : Carried) : Type 0 where
  pub ees : (c : Cert) → IsIn c a.ees → IsTrue c.is_valid
  pub cas : (c : Cert) → IsIn c a.cas → IsTrue c.is_valid

-- All is paired, every signer has the digest of the content (`IsMatching`), and its certificate a
-- path whose links are covered.
pub record HasPaths (a : Carried) (paths : List (List Cert)) : Type 0 where
  pub ees : List Cert
  pub crls : List Crl
  pub matching : IsMatching a ees crls
  pub stand : ArePaths (authorities a crls) ees paths

-- Every one of these CAs stands on one of the paths.
abbrev pub AreUsed : List Cert → List (List Cert) → Type 0
AreUsed cas paths = (d : Cert) → IsIn d cas → IsUsed d paths

-- Every certificate is valid, all is paired, every signer has the digest of the content, and its
-- certificate a path whose links are covered; and every carried CA stands on one of these paths.
pub record IsAccepted (a : Carried) (paths : List (List Cert)) : Type 0 where
  pub valid : AreValid a
  pub found : HasPaths a paths
  pub used : AreUsed (authorities a found.crls) paths

-- Each path with the supply that anchors it.
abbrev pub AreAnchored : List (List Cert) → List Supply → List Supply → Type 0
AreAnchored [] supplies [] = Unit {0}
AreAnchored [] supplies (s ∷ anchors) = ⊥
AreAnchored (p ∷ paths) supplies [] = ⊥
AreAnchored (p ∷ paths) supplies (s ∷ anchors) =
    IsAnchored p supplies s × AreAnchored paths supplies anchors

-- Whether one of the paths stands for the number.
abbrev pub union_of : List (List Cert) → List Supply → Family → ℕ → Bool
union_of [] anchors f n = false
union_of (p ∷ paths) [] f n = false
union_of (p ∷ paths) (s ∷ anchors) f n = path_set p s f n || union_of paths anchors f n

-- Each path is anchored, and each attested set has just the numbers that some path stands for.
pub record IsEarned (paths : List (List Cert)) (supplies : List Supply)
    (attested : Family → Numbers) : Type 0 where
  pub anchors : List Supply
  pub anchored : AreAnchored paths supplies anchors
  pub equal : (f : Family) (n : ℕ) → holds (λ k. k) (attested f) n ≡ union_of paths anchors f n

-- An attestation of these sets is granted under these supplies: it is accepted, each path is
-- anchored, and each set has just the numbers that some path stands for.
pub record IsGranted (a : Carried) (supplies : List Supply) (attested : Family → Numbers) :
    Type 0 where
  pub paths : List (List Cert)
  pub accepted : IsAccepted a paths
  pub earned : IsEarned paths supplies attested
