-- The laws of paths that public functions carry.
use Rattle.std.specs.Prelude.{◌≡◌, ℕ, ◌+◌, ◌*◌, ◌≤◌, List, ◌∷◌, Option, None, Some, IsTrue}
use Rattle.std.specs.Prelude.{length, ◌↔◌, ◌⊎◌, [], ◌++◌, Result, Ok, Err, Bool, map, All}
use Rattle.rpki_resources.specs.declared.block.Block.{Block}
use Rattle.rpki_resources.specs.declared.resources.Claim.{Claim}
use Rattle.rpki_resources.specs.declared.resources.Claim.TheVariants.{Inherit, Explicit}
use Rattle.rpki_resources.specs.Blocks.{holds}
use Rattle.rpki_faults.specs.declared.family.Family.{Family}
use Rattle.rpki_faults.specs.declared.overclaim.Overclaim.{Overclaim}
use Rattle.rpki_paths.specs.declared.family_resources.FamilyResources.{FamilyResources}
use Rattle.rpki_paths.specs.declared.path_resources.PathResources.{PathResources}
use Rattle.rpki_paths.specs.declared.walker.PathFault.{PathFault}
use Rattle.rpki_paths.specs.declared.walker.PathFault.TheVariants.{Memory}
use Rattle.rpki_paths.specs.declared.walks.WalksFault.{WalksFault}
use Rattle.rpki_paths.specs.declared.walks.WalksFault.TheVariants.{Memory as OutOfMemory}
use Rattle.rpki_paths.specs.declared.walker.Path.{Path}
use Rattle.rpki_paths.specs.declared.supply.SupplyFault.{SupplyFault}
use Rattle.rpki_paths.specs.declared.supply.SupplyFault.TheVariants.{Memory as NoMemory}
use Rattle.rpki_paths.specs.declared.decision.FinalFault.{FinalFault}
use Rattle.rpki_paths.specs.declared.decision.FinalFault.TheVariants.{Memory as UnionMemory}
use Rattle.rpki_paths.specs.declared.pairs.PairFault.{PairFault}
use Rattle.rpki_paths.specs.declared.pairs.PairFault.TheVariants.{Memory as PairMemory}
use Rattle.rpki_paths.specs.Kept.{AreRefused, AreKept, AreWalked}
use Rattle.rpki_paths.specs.After.{AreKeptBySome, AreAfter, IsGrantedBySome, KeepsNumbers}
use Rattle.rpki_paths.specs.Supplied.{AnswersEach, AreSuppliedAll}
use Rattle.rpki_paths.specs.Final.{all_anchored, IsWhole, Decides}
use Rattle.rpki_paths.specs.Walk.{IsRefused, resources_in, InEach, placed}
use Rattle.rpki_paths.specs.Cert.{Cert, Numbers, IsIn}
use Rattle.rpki_paths.specs.Sets.{with_claim, IsCovered, CoversNearest, StandsFor, IsWithClaim}
use Rattle.rpki_paths.specs.Path.{IsChain, IsPath, IsDistinct, IsLinkCovered, explicit_sets}
use Rattle.rpki_paths.specs.Anchor.{Supply, Ca, Takes, IsAnchored, HasUnanchored}
use Rattle.rpki_paths.specs.Anchor.{supplied_claim, path_set}
use Rattle.rpki_paths.specs.Pairing.{Carried, Crl, HasDistinctIds, IsMatching, HasKey}
use Rattle.rpki_paths.specs.Pairing.{IsPicked, IsPairable, AreAlike, IsVerifiedBy, HasCrl}
use Rattle.rpki_paths.specs.Pairing.{IsPairing}
use Rattle.rpki_paths.specs.Taking.{PairsOff, FitsNone, AllVerifyEach, ArePaired, AreUnpaired}
use Rattle.rpki_paths.specs.Grant.{HasPaths, AreValid, AreUsed, authorities, IsAccepted, IsEarned}
use Rattle.rpki_paths.specs.Grant.{ArePaths, with_crls, HaveCrls}
use Rattle.rpki_paths.specs.Grant.{IsGranted}
use Rattle.rpki_paths.specs.declared.acceptance.AcceptFault.{AcceptFault}
use Rattle.rpki_paths.specs.Accepting.{WhyNot, WantsMemory}
use Rattle.rpki_paths.specs.Sorting.{cas_of}

-- If the resources of a path stand for its sets, they do so after one more issuer, whose claim
-- covers what it has to.
abbrev pub IssuerKeepsMeet : {T : Type 0} → (T → ℕ) → Type 0
IssuerKeepsMeet {T} f =
    (mode : Overclaim) (old new : Option (FamilyResources (List (Block T))))
    (claim : Claim (List (Block T))) (sets : List (List (Block T))) →
    StandsFor f old sets → IsCovered f mode sets claim →
    IsWithClaim f mode old claim new → StandsFor f new (with_claim claim sets)

-- The resources of a covered path, with the sets of the supply that takes it, stand for its set.
abbrev pub AnchoredIsPathSet : Type 0
AnchoredIsPathSet =
    (head : Cert) (p : List Cert) (s : Supply) (f : Family) (old : Option (FamilyResources Numbers))
    (new : FamilyResources Numbers) → StandsFor (λ n. n) old (explicit_sets (head ∷ p) f) →
    Takes (head ∷ p) s →
    IsWithClaim (λ n. n) head.overclaim old (supplied_claim s f) (Some new) →
    (n : ℕ) → holds (λ k. k) new.met n ≡ path_set (head ∷ p) s f n

-- A path that a supply takes has an explicit set in each family, where a head that is a trust
-- anchor inherits nothing (RFC 6487, sections 4.8.10 and 4.8.11; RFC 8630, section 2.3).
abbrev pub AnchoredIsKnown : Type 0
AnchoredIsKnown =
    (head : Cert) (p : List Cert) (s : Supply) (f : Family) →
    (IsTrue head.is_anchor → ¬ (head.claim f ≡ Inherit)) → Takes (head ∷ p) s →
    ¬ (StandsFor (λ n. n) None (with_claim (supplied_claim s f) (explicit_sets (head ∷ p) f)))

-- The set of a path lies in each explicit set on it, those of a supplied CA among them.
abbrev pub PathSetIsWithinEach : Type 0
PathSetIsWithinEach =
    (p : List Cert) (s : Supply) (f : Family) (set : Numbers) →
    IsIn set (with_claim (supplied_claim s f) (explicit_sets p f)) →
    (n : ℕ) → IsTrue (path_set p s f n) → IsTrue (holds (λ k. k) set n)

-- Where no two carried CAs have one identifier, an end-entity certificate has one path at most.
abbrev pub PathsAreUnique : Type 0
PathsAreUnique =
    (cas : List Cert) (ee : Cert) (p q : List Cert) → IsDistinct cas →
    IsPath cas ee p → IsPath cas ee q → p ≡ q

-- A chain puts on at most as many CAs as are carried.
abbrev pub PathsAreShort : Type 0
PathsAreShort =
    (cas : List Cert) (ee : Cert) (p : List Cert) → IsChain cas ee p → length p ≤ 1 + length cas

-- Where items that share one partner that fits have all such partners in common, and there is a
-- pairing, any choice that fits leaves a pairing of the others.
abbrev pub AnyChoicePairs : {A B : Type 0} → (A → B → Type 0) → Type 0
AnyChoicePairs {A} {B} R =
    (x : A) (y : B) (xs : List A) (ys rest : List B) → AreAlike R (x ∷ xs) ys →
    IsPairable R (x ∷ xs) ys → IsPicked y rest ys → R x y → IsPairable R xs rest

-- With distinct identifiers two signers, or two CAs, that share one partner that fits have all such
-- partners in common: subject keys, end-entity certificates and CRLs.
abbrev pub WhatFitsIsAlike : Type 0
WhatFitsIsAlike =
    (a : Carried) → HasDistinctIds a →
    AreAlike HasKey a.signers a.subject_keys
    × AreAlike IsVerifiedBy a.signers a.ees × AreAlike HasCrl a.cas a.crls

-- With distinct identifiers each CA has the same CRL in every matching.
abbrev pub CrlsAreUnique : Type 0
CrlsAreUnique =
    (a : Carried) (ees ees' : List Cert) (crls crls' : List Crl) → HasDistinctIds a →
    IsMatching a ees crls → IsMatching a ees' crls' → crls ≡ crls'

-- With distinct identifiers every choice of pairs has the same paths.
abbrev pub PathsAreThose : Type 0
PathsAreThose =
    (a : Carried) (paths paths' : List (List Cert)) → HasDistinctIds a →
    HasPaths a paths → HasPaths a paths' → (p : List Cert) → IsIn p paths → IsIn p paths'

-- With distinct identifiers any paths that are found decide whether the attestation is accepted: it
-- is where the certificates are valid and every carried CA stands on one of them.
abbrev pub AcceptanceIsDecided : Type 0
AcceptanceIsDecided =
    (a : Carried) (paths : List (List Cert)) (found : HasPaths a paths) → HasDistinctIds a →
    ((paths' : List (List Cert)) × IsAccepted a paths')
    ↔ (AreValid a × AreUsed (authorities a found.crls) paths)

-- With distinct identifiers any paths that are accepted decide whether the attestation is granted:
-- it is where each of them is anchored and the attested sets have just their numbers.
abbrev pub GrantIsDecided : Type 0
GrantIsDecided =
    (a : Carried) (paths : List (List Cert)) (supplies : List Supply)
    (attested : Family → Numbers) → HasDistinctIds a → IsAccepted a paths →
    IsGranted a supplies attested ↔ IsEarned paths supplies attested

-- With distinct identifiers nothing is granted where a path that is found is not anchored.
abbrev pub UnanchoredIsRefused : Type 0
UnanchoredIsRefused =
    (a : Carried) (paths : List (List Cert)) (p : List Cert) (supplies : List Supply)
    (attested : Family → Numbers) → HasDistinctIds a → HasPaths a paths → IsIn p paths →
    ((s : Supply) → ¬ (IsAnchored p supplies s)) → ¬ (IsGranted a supplies attested)

-- With distinct identifiers a walk is refused, but for memory, only where there is no covered path.
abbrev pub RefusedHasNoPath : Type 0
RefusedHasNoPath =
    (fault : PathFault) (cas : List Cert) (ee : Cert) (p : List Cert) → ¬ (fault ≡ Memory) →
    IsDistinct cas → IsRefused fault cas ee → IsPath cas ee p → ¬ (IsLinkCovered p)

-- With distinct identifiers walks from several certificates are refused, but for memory, only where
-- these have no covered paths on which all CAs stand.
abbrev pub RefusedHasNoPaths : Type 0
RefusedHasNoPaths =
    (fault : WalksFault) (cas ees : List Cert) (paths : List (List Cert)) →
    ¬ (fault ≡ OutOfMemory) → IsDistinct cas → AreRefused fault cas ees →
    ArePaths cas ees paths → ¬ (AreUsed cas paths)

-- What is kept of paths under supplies decides what they earn.
abbrev pub FinalIsDecided : {C : Type 0} → (C → Cert) → Type 0
FinalIsDecided {C} cert =
    (supplies : List Supply) (kept : List (Path C)) (paths : List (List Cert))
    (attested : Family → Numbers) → AreKept cert supplies kept paths →
    IsEarned paths supplies attested
    ↔ (IsTrue (all_anchored kept) × InEach (IsWhole kept attested))

-- Where every carried certificate is valid, walks from the certificates of a matching up its CAs,
-- on whose paths every CA stands, find paths that are accepted.
abbrev pub WalksAreAccepted : {C : Type 0} → (C → Cert) → Type 0
WalksAreAccepted {C} cert =
    (a : Carried) (ees : List Cert) (crls : List Crl) (kept : List (Path C)) → AreValid a →
    IsMatching a ees crls → (w : AreWalked cert (authorities a crls) ees kept) →
    IsAccepted a w.paths

-- With distinct identifiers walks from the certificates of a matching up its CAs are refused, but
-- for memory, only where no paths are accepted.
abbrev pub RefusedIsNotAccepted : Type 0
RefusedIsNotAccepted =
    (a : Carried) (ees : List Cert) (crls : List Crl) (fault : WalksFault) → HasDistinctIds a →
    IsMatching a ees crls → ¬ (fault ≡ OutOfMemory) →
    AreRefused fault (authorities a crls) ees → (paths : List (List Cert)) →
    ¬ (IsAccepted a paths)

-- What is kept of paths after one supply more is handed in, which declines none of them, is kept
-- under it too.
abbrev pub EachIsKept : {X C F : Type 0} → (C → Cert) → (X → Supply) → (X → C → F → Type 0) → Type 0
EachIsKept {X} {C} cert of refuses =
    (x : X) (supplies : List Supply) (old new : List (Path C)) (paths : List (List Cert))
    (all : Bool) → AnswersEach cert (refuses x) (of x) old new (Ok all) →
    AreKept cert supplies old paths → AreKept cert (supplies ++ of x ∷ []) new paths

-- Where a supply declines a path, but for memory, there is a path that no supply anchors, whatever
-- supplies come after.
abbrev pub DeclinedIsUnanchored : {X C F : Type 0} → (C → Cert) → (X → Supply) →
    (X → C → F → Type 0) → Type 0
DeclinedIsUnanchored {X} {C} {F} cert of refuses =
    (x : X) (supplies more : List Supply) (old new : List (Path C)) (paths : List (List Cert))
    (fault : SupplyFault F) → ¬ (fault ≡ NoMemory) →
    AnswersEach cert (refuses x) (of x) old new (Err fault) → AreKept cert supplies old paths →
    HasUnanchored paths (supplies ++ of x ∷ more)

-- What is kept of paths after some supplies are handed in, none of which declines one, is kept
-- under these too.
abbrev pub AllAreKept : {X C F : Type 0} → (C → Cert) → (X → Supply) → (X → C → F → Type 0) → Type 0
AllAreKept {X} {C} cert of refuses =
    (xs : List X) (supplies : List Supply) (old new : List (Path C)) (paths : List (List Cert)) →
    AreSuppliedAll cert of refuses xs old new (Ok tt) → AreKept cert supplies old paths →
    AreKept cert (supplies ++ map of xs) new paths

-- Where one of some supplies declines a path, but for memory, one path is anchored by none of them.
abbrev pub RefusedIsUnanchored : {X C F : Type 0} → (C → Cert) → (X → Supply) →
    (X → C → F → Type 0) → Type 0
RefusedIsUnanchored {X} {C} {F} cert of refuses =
    (xs : List X) (supplies : List Supply) (old new : List (Path C)) (paths : List (List Cert))
    (fault : SupplyFault F) → ¬ (fault ≡ NoMemory) →
    AreSuppliedAll cert of refuses xs old new (Err fault) → AreKept cert supplies old paths →
    HasUnanchored paths (supplies ++ map of xs)

-- Where every certificate is valid, walks from the certificates of a matching find paths, all
-- supplies are handed in to these and none declines one, and the end says yes, the attestation is
-- granted.
abbrev pub YesIsGranted : {X C F : Type 0} → (C → Cert) → (X → Supply) → (X → C → F → Type 0) →
    Type 0
YesIsGranted {X} {C} cert of refuses =
    (a : Carried) (ees : List Cert) (crls : List Crl) (walked kept : List (Path C))
    (xs : List X) (attested : Family → Numbers) → AreValid a →
    IsMatching a ees crls → AreWalked cert (authorities a crls) ees walked →
    AreSuppliedAll cert of refuses xs walked kept (Ok tt) → Decides kept attested (Ok tt) →
    IsGranted a (map of xs) attested

-- With distinct identifiers a supply ends the call, but for memory, only where nothing is granted.
abbrev pub UnsuppliedIsRefused : {X C F : Type 0} → (C → Cert) → (X → Supply) →
    (X → C → F → Type 0) → Type 0
UnsuppliedIsRefused {X} {C} {F} cert of refuses =
    (a : Carried) (ees : List Cert) (crls : List Crl) (walked kept : List (Path C))
    (xs : List X) (attested : Family → Numbers) (fault : SupplyFault F) →
    HasDistinctIds a → IsMatching a ees crls → AreWalked cert (authorities a crls) ees walked →
    ¬ (fault ≡ NoMemory) → AreSuppliedAll cert of refuses xs walked kept (Err fault) →
    ¬ (IsGranted a (map of xs) attested)

-- With distinct identifiers the end says no, but for memory, only where nothing is granted.
abbrev pub UndecidedIsRefused : {X C F : Type 0} → (C → Cert) → (X → Supply) →
    (X → C → F → Type 0) → Type 0
UndecidedIsRefused {X} {C} cert of refuses =
    (a : Carried) (ees : List Cert) (crls : List Crl) (walked kept : List (Path C))
    (xs : List X) (attested : Family → Numbers) (fault : FinalFault) →
    HasDistinctIds a → IsMatching a ees crls → AreWalked cert (authorities a crls) ees walked →
    ¬ (fault ≡ UnionMemory) → AreSuppliedAll cert of refuses xs walked kept (Ok tt) →
    Decides kept attested (Err fault) → ¬ (IsGranted a (map of xs) attested)

-- The resources of a path tell whether a CA takes it.
abbrev pub ResourcesTellTakes : Type 0
ResourcesTellTakes =
    (head : Cert) (p : List Cert) (resources : PathResources) (ski key : List ℕ)
    (sets : Family → Numbers) →
    ((f : Family) → StandsFor (λ n. n) (resources_in resources f) (explicit_sets (head ∷ p) f)) →
    InEach (λ f.
    CoversNearest (λ n. n) head.overclaim (resources_in resources f) (Explicit (sets f)))
    ↔ Takes (head ∷ p) (Ca ski key sets)

-- What pairs off to the end, each taking the first that fits, is a pairing.
abbrev pub FirstFitsArePairing : {A B : Type 0} → (A → B → Type 0) → Type 0
FirstFitsArePairing {A} {B} R =
    (xs : List A) (partners ys : List B) → PairsOff R xs partners ys [] →
    IsPairing R xs partners ys

-- Where items that one fits are alike and there is a pairing, each in turn finds one that fits.
abbrev pub FirstFitsFindPairing : {A B : Type 0} → (A → B → Type 0) → Type 0
FirstFitsFindPairing {A} {B} R =
    (done : List A) (x : A) (more : List A) (partners ys left : List B) →
    PairsOff R done partners ys left → AreAlike R (done ++ x ∷ more) ys →
    IsPairable R (done ++ x ∷ more) ys → ¬ (FitsNone (R x) left)

-- Where some are left over there is no pairing.
abbrev pub LeftOverIsUnpairable : {A B : Type 0} → (A → B → Type 0) → Type 0
LeftOverIsUnpairable {A} {B} R =
    (xs : List A) (partners ys left : List B) → PairsOff R xs partners ys left →
    ¬ (left ≡ []) → ¬ (IsPairable R xs ys)

-- Where items that one fits are alike and cannot be paired off, but for memory, there is no
-- pairing.
abbrev pub UnpairedIsUnpairable : {A B : Type 0} → (A → B → Type 0) → Type 0
UnpairedIsUnpairable {A} {B} R =
    (xs : List A) (ys : List B) (fault : PairFault) → ¬ (fault ≡ PairMemory) →
    AreUnpaired R xs ys fault → AreAlike R xs ys → ¬ (IsPairable R xs ys)

-- Where handles are paired off by `R`, what they stand for is paired off by `S`, at the same
-- places; and where they are not, it is not, for the same reason.
abbrev pub PairsAlongMap : {X Y A B : Type 0} → (X → A) → (Y → B) → (X → Y → Type 0) →
    (A → B → Type 0) → Type 0
PairsAlongMap {X} {Y} f g R S =
    (xs : List X) (ys : List Y) →
    ((places : List ℕ) → ArePaired R xs ys places → ArePaired S (map f xs) (map g ys) places)
    × ((fault : PairFault) → AreUnpaired R xs ys fault →
    AreUnpaired S (map f xs) (map g ys) fault)

-- CAs with their CRLs, as walks see them, are the authorities of the definitions.
abbrev pub PlacedAreAuthorities : {C R : Type 0} → (C → Cert) → (R → Crl) → Type 0
PlacedAreAuthorities {C} {R} cert crl =
    (n : ℕ) (cas : List C) (crls : List R) (with : List C) → HaveCrls cert crl cas crls with →
    placed cert n with ≡ with_crls n (map cert cas) (map crl crls)

-- With distinct identifiers, where keys, signers or CAs cannot be paired off, but for memory, no
-- paths are accepted.
abbrev pub UnmatchedIsNotAccepted : Type 0
UnmatchedIsNotAccepted =
    (a : Carried) (fault : PairFault) (paths : List (List Cert)) → HasDistinctIds a →
    ¬ (fault ≡ PairMemory) →
    (AreUnpaired HasKey a.signers a.subject_keys fault
    ⊎ AreUnpaired IsVerifiedBy a.signers a.ees fault ⊎ AreUnpaired HasCrl a.cas a.crls fault) →
    ¬ (IsAccepted a paths)

-- With distinct identifiers an attestation is refused, but for memory, only where a certificate is
-- not good or no paths are accepted.
abbrev pub RefusalIsRight : {X F : Type 0} → (X → Type 0) → (X → F → Type 0) → (X → Cert) →
    (X → Bool) → Type 0
RefusalIsRight {X} {F} good because seen of_ca =
    (certs : List X) (a : Carried) (fault : AcceptFault F) (paths : List (List Cert)) →
    a.cas ≡ map seen (cas_of of_ca certs) → HasDistinctIds a → ¬ (WantsMemory fault) →
    WhyNot good because seen of_ca certs a fault → All good certs → ¬ (IsAccepted a paths)

-- With distinct identifiers and a matching, whatever has the identifier that is sought also has the
-- verdict, so that each signer and each CA asks for one.
abbrev pub MatchingIsCheap : Type 0
MatchingIsCheap =
    (a : Carried) (ees : List Cert) (crls : List Crl) → HasDistinctIds a → IsMatching a ees crls →
    AllVerifyEach (λ s. s.sid) (λ e. e.ski) (λ s e. s.verifies e.key) a.signers a.ees
    × AllVerifyEach (λ d. d.ski) (λ l. l.aki) (λ d l. l.verifies d.key) a.cas a.crls

-- With distinct identifiers and a matching, where the pairing of the CRLs, that of the signers and
-- the walks each ask for what they cost, they ask in all for at most s + l + s * a verdicts, of s
-- signers, l CRLs and a CAs.
abbrev pub VerdictsAreFew : Type 0
VerdictsAreFew =
    (a : Carried) (ees : List Cert) (crls : List Crl) (none listed signed walked : ℕ) →
    HasDistinctIds a → IsMatching a ees crls →
    (AllVerifyEach (λ d. d.ski) (λ l. l.aki) (λ d l. l.verifies d.key) a.cas a.crls →
    listed ≤ none + 1 * length a.cas) →
    (AllVerifyEach (λ s. s.sid) (λ e. e.ski) (λ s e. s.verifies e.key) a.signers a.ees →
    signed ≤ listed + 1 * length a.signers) →
    (IsDistinct (authorities a crls) →
    walked ≤ signed + length ees * length (authorities a crls)) →
    walked ≤ none + (length a.signers + length a.crls + length a.signers * length a.cas)

-- What is kept of paths after one supply more is handed in, whatever it answers, is kept after it
-- too.
abbrev pub EachKeepsSome : {X C F : Type 0} → (C → Cert) → (X → Supply) → (X → C → F → Type 0) →
    Type 0
EachKeepsSome {X} {C} {F} cert of refuses =
    (x : X) (supplies : List Supply) (old new : List (Path C)) (paths : List (List Cert))
    (answer : Result Bool (SupplyFault F)) → AnswersEach cert (refuses x) (of x) old new answer →
    AreKeptBySome cert supplies old paths →
    AreKeptBySome cert (supplies ++ of x ∷ []) new paths

-- What is kept of paths after some supplies are handed in, whatever they answer, is kept after
-- these too.
abbrev pub AllKeepSome : {X C F : Type 0} → (C → Cert) → (X → Supply) → (X → C → F → Type 0) →
    Type 0
AllKeepSome {X} {C} cert of refuses =
    (xs : List X) (supplies : List Supply) (old new : List (Path C)) (paths : List (List Cert)) →
    AreAfter cert of refuses xs old new → AreKeptBySome cert supplies old paths →
    AreKeptBySome cert (supplies ++ map of xs) new paths

-- What is kept of paths under supplies, as where none of these declined one, is kept after them.
abbrev pub KeptIsKeptBySome : {C : Type 0} → (C → Cert) → Type 0
KeptIsKeptBySome {C} cert =
    (supplies : List Supply) (kept : List (Path C)) (paths : List (List Cert)) →
    AreKept cert supplies kept paths → AreKeptBySome cert supplies kept paths

-- Where every certificate is valid, walks from the certificates of a matching find paths, and after
-- any supplies, refused ones among them, the end says yes, the attestation is accepted, and earns
-- its sets under supplies that are meant for its paths and take them.
abbrev pub YesAfterRefusals : {X C F : Type 0} → (C → Cert) → (X → Supply) →
    (X → C → F → Type 0) → Type 0
YesAfterRefusals {X} {C} cert of refuses =
    (a : Carried) (ees : List Cert) (crls : List Crl) (walked kept : List (Path C))
    (xs : List X) (attested : Family → Numbers) → AreValid a →
    IsMatching a ees crls → AreWalked cert (authorities a crls) ees walked →
    AreAfter cert of refuses xs walked kept → Decides kept attested (Ok tt) →
    IsGrantedBySome a (map of xs) attested

-- Where every certificate is valid, walks from the certificates of a matching find paths, and after
-- any supplies, refused ones among them, all paths are anchored, what is kept of them tells their
-- numbers: so the end says no to attested sets only where these are not the numbers of the paths.
abbrev pub EndAfterRefusals : {X C F : Type 0} → (C → Cert) → (X → Supply) →
    (X → C → F → Type 0) → Type 0
EndAfterRefusals {X} {C} cert of refuses =
    (a : Carried) (ees : List Cert) (crls : List Crl) (walked kept : List (Path C))
    (xs : List X) → AreValid a → IsMatching a ees crls →
    AreWalked cert (authorities a crls) ees walked → AreAfter cert of refuses xs walked kept →
    IsTrue (all_anchored kept) →
    (paths : List (List Cert)) × IsAccepted a paths × KeepsNumbers kept paths (map of xs)
