-- Certificates in carried order, and the CRLs that CAs take (draft-michaelson-rpki-rta).
use Rattle.std.specs.Prelude.{◌≡◌, List, [], ◌∷◌, Bool, not, All, map, filter, ◌++◌, IsTrue}
use Rattle.rpki_paths.specs.declared.sorting.SortFault.{SortFault}
use Rattle.rpki_paths.specs.declared.sorting.SortFault.TheVariants.{NotGood, NoCrl, Memory}
use Rattle.rpki_paths.specs.Cert.{Cert}
use Rattle.rpki_paths.specs.Pairing.{Crl, HasCrl}
use Rattle.rpki_paths.specs.Taking.{PairsOff, FitsNone}

-- The certificates of end entities among these.
abbrev pub ees_of : {X : Type 0} → (X → Bool) → List X → List X
ees_of of_ca xs = filter (λ x. not (of_ca x)) xs

-- The certificates of CAs among these.
abbrev pub cas_of : {X : Type 0} → (X → Bool) → List X → List X
cas_of of_ca xs = filter of_ca xs

-- Each CA with what its CRL lists.
abbrev pub with_lists : List Cert → List Crl → List Cert
with_lists [] crls = []
with_lists (d ∷ cas) [] = []
with_lists (d ∷ cas) (l ∷ crls) = record d { revokes = l.serials } ∷ with_lists cas crls

-- These certificates passed: all of them are good, and each CA among them, in carried order, took
-- the first CRL that fits it of those that were left. In order, `taken` are these CRLs; `left` are
-- left over.
pub record HavePassed {X : Type 0} (good : X → Type 0) (seen : X → Cert) (of_ca : X → Bool)
    (xs : List X) (crls taken left : List Crl) : Type 0 where
  pub all_good : All good xs
  pub pairs : PairsOff HasCrl (map seen (cas_of of_ca xs)) taken crls left

-- Why one certificate does not pass: it is not good, for this cause; or it is good and a CA's, and
-- none of the CRLs that are left fits it. Where memory is wanting, neither need be so.
abbrev pub WhyNotOne : {X F : Type 0} → (X → Type 0) → (X → F → Type 0) → (X → Cert) → (X → Bool) →
    X → List Crl → SortFault F → Type 0
WhyNotOne good because seen of_ca x left (NotGood fault) = ¬ (good x) × because x fault
WhyNotOne good because seen of_ca x left NoCrl =
    good x × IsTrue (of_ca x) × FitsNone (HasCrl (seen x)) left
WhyNotOne good because seen of_ca x left Memory = Unit {0}

-- The first certificate that does not pass, and why: those before it passed.
pub record StopsAtCert {X F : Type 0} (good : X → Type 0) (because : X → F → Type 0)
    (seen : X → Cert) (of_ca : X → Bool) (xs : List X) (crls : List Crl) (fault : SortFault F) :
    Type 0 where
  pub done : List X
  pub cert : X
  pub more : List X
  pub taken : List Crl
  pub left : List Crl
  pub parts : xs ≡ done ++ cert ∷ more
  pub before : HavePassed good seen of_ca done crls taken left
  pub why : WhyNotOne good because seen of_ca cert left fault

-- Why certificates are not sorted: the first that does not pass, and why; or memory is wanting.
abbrev pub WhyNotSorted : {X F : Type 0} → (X → Type 0) → (X → F → Type 0) → (X → Cert) →
    (X → Bool) → List X → List Crl → SortFault F → Type 0
WhyNotSorted good because seen of_ca xs crls (NotGood fault) =
    StopsAtCert good because seen of_ca xs crls (NotGood fault)
WhyNotSorted good because seen of_ca xs crls NoCrl =
    StopsAtCert good because seen of_ca xs crls NoCrl
WhyNotSorted good because seen of_ca xs crls Memory = Unit {0}

-- These certificates passed. They are sorted by kind, in carried order, and each CA has what the
-- CRL lists that it took.
pub record AreSorted {X C : Type 0} (good : X → Type 0) (seen : X → Cert) (of_ca : X → Bool)
    (cert : C → Cert) (xs : List X) (crls : List Crl) (ees cas : List C) (left : List Crl) :
    Type 0 where
  pub taken : List Crl
  pub passed : HavePassed good seen of_ca xs crls taken left
  pub of_ees : map cert ees ≡ map seen (ees_of of_ca xs)
  pub of_cas : map cert cas ≡ with_lists (map seen (cas_of of_ca xs)) taken
