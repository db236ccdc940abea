-- The laws of validations that public functions carry.
use Rattle.std.specs.Prelude.{◌≡◌, ◌≤◌, ◌+◌, ℕ, List, [], ◌∷◌, ◌++◌, length, Bool, Result, Ok}
use Rattle.std.specs.Prelude.{Err, IsTrue}
use Rattle.sha1.specs.Sha1.{sha1}
use Rattle.rpki_basics.specs.Moment.{Moment}
use Rattle.rpki_faults.specs.declared.validation.ValidationError.{ValidationError}
use Rattle.rpki_attributes.specs.Attrs.Made.{message_of}
use Rattle.rpki_certs.specs.Cert.{Certificate}
use Rattle.rpki_certs.specs.Verify.{Verdict}
use Rattle.rpki_sigobj.specs.SignerInfo.{KeptSigner}
use Rattle.rpki_sigobj.specs.Verify.{Digester}
use Rattle.rpki_multi.specs.Attestation.{KeptWhole, Whole, whole_of}
use Rattle.rpki_multi.specs.Built.{IsSignedBy}
use Rattle.rpki_paths.specs.After.{AreKeptBySome, KeepsNumbers}
use Rattle.rpki_paths.specs.Anchor.{Supply}
use Rattle.rpki_paths.specs.Cert.{Cert, IsIn}
use Rattle.rpki_paths.specs.Final.{all_anchored}
use Rattle.rpki_paths.specs.Pairing.{HasKey, IsVerifiedBy}
use Rattle.rpki_rta.specs.Begun.{Begun, IsBegun, IsEnded, EndsWith, AnswersSupply, cert_of}
use Rattle.rpki_rta.specs.Carried.{seen_alone, seen_signer}
use Rattle.rpki_rta.specs.Granted.{DeniesRightly, IsAcceptedRta, IsGrantedRta}
use Rattle.rpki_rta.specs.Granted.{IsGrantedRtaBySome, carried_by}

-- Supplies that are handed in one after the other, each to the paths as the one before it left
-- them, whatever was answered.
abbrev pub AreAfterSupplies : {C : Type 0} → (C → Verdict) → List Supply → Begun C → Begun C →
    Type 0
AreAfterSupplies says [] old new = new ≡ old
AreAfterSupplies {C} says (s ∷ supplies) old new =
    (mid : Begun C) × (answer : Result Bool ValidationError)
    × AnswersSupply says s old mid answer × AreAfterSupplies says supplies mid new

-- Where the validation of an attestation has begun, and after any supplies, refused ones among
-- them, the end says yes, the attestation is granted: each path is anchored by some supply of these
-- that is meant for it and takes it.
abbrev pub YesAfterSupplies : {C : Type 0} → (C → Digester) → (C → Verdict) → Type 0
YesAfterSupplies {C} digests says =
    (crypto : C) (now : Moment) (r : KeptWhole) (supplies : List Supply) (begun end : Begun C) →
    IsBegun digests says crypto now r begun → AreAfterSupplies says supplies begun end →
    IsEnded end →
    IsGrantedRtaBySome (digests crypto) (says crypto) now (whole_of r) supplies

-- Where the validation of an attestation has begun, after any supplies, refused ones among them,
-- the attestation is still this one, it is accepted with some paths, and what is kept of each of
-- them stands for its explicit sets (`AreKeptBySome`): for the numbers that all of them have, and
-- the nearest of them; and where it is anchored, for these with those of a supply that is meant for
-- it and took it. Where all are anchored, what is kept tells their numbers (`KeepsNumbers`): so the
-- end, which compares the attested sets with what is kept (`EndsWith`), says no but for memory
-- exactly where a set is not the union of the sets of these paths.
abbrev pub EndAfterSupplies : {C : Type 0} → (C → Digester) → (C → Verdict) → Type 0
EndAfterSupplies {C} digests says =
    (crypto : C) (now : Moment) (r : KeptWhole) (supplies : List Supply) (begun end : Begun C) →
    IsBegun digests says crypto now r begun → AreAfterSupplies says supplies begun end →
    (end.rta ≡ r) × (a : IsAcceptedRta (digests crypto) (says crypto) now (whole_of r))
    × AreKeptBySome (cert_of says) supplies end.paths a.paths
    × (IsTrue (all_anchored end.paths) → KeepsNumbers end.paths a.paths supplies)

-- Each path of an attestation that is accepted has its end entity, and at most as many CAs above it
-- as are carried.
abbrev pub AcceptedPathsAreShort : Type 0
AcceptedPathsAreShort =
    (digest : Digester) (verdict : Verdict) (now : Moment) (r : Whole)
    (a : IsAcceptedRta digest verdict now r) (p : List Cert) → IsIn p a.paths →
    length p ≤ 1 + length (carried_by digest verdict r).cas

-- Supplies that are handed in one after the other, each to the paths as the one before it left
-- them, none of which is refused.
abbrev pub AreTaken : {C : Type 0} → (C → Verdict) → List Supply → Begun C → Begun C → Type 0
AreTaken says [] old new = new ≡ old
AreTaken {C} says (s ∷ supplies) old new =
    (mid : Begun C) × (all : Bool) × AnswersSupply says s old mid (Ok all)
    × AreTaken says supplies mid new

-- Where the validation of an attestation has begun, none of the supplies is refused, and the end
-- says yes, the attestation is granted.
abbrev pub YesIsGranted : {C : Type 0} → (C → Digester) → (C → Verdict) → Type 0
YesIsGranted {C} digests says =
    (crypto : C) (now : Moment) (r : KeptWhole) (supplies : List Supply) (begun end : Begun C) →
    IsBegun digests says crypto now r begun → AreTaken says supplies begun end → IsEnded end →
    IsGrantedRta (digests crypto) (says crypto) now (whole_of r) supplies

-- With distinct identifiers, where none of some supplies is refused and the next one is, but for
-- memory, the attestation is not granted, whatever supplies come after.
abbrev pub RefusedSupplyIsRight : {C : Type 0} → (C → Digester) → (C → Verdict) → Type 0
RefusedSupplyIsRight {C} digests says =
    (crypto : C) (now : Moment) (r : KeptWhole) (supplies : List Supply) (s : Supply)
    (more : List Supply) (begun old new : Begun C) (fault : ValidationError) →
    IsBegun digests says crypto now r begun → AreTaken says supplies begun old →
    AnswersSupply says s old new (Err fault) →
    DeniesRightly (digests crypto) (says crypto) now (supplies ++ s ∷ more) (whole_of r) fault

-- With distinct identifiers, where none of the supplies is refused and the end says no, but for
-- memory, the attestation is not granted.
abbrev pub NoIsRight : {C : Type 0} → (C → Digester) → (C → Verdict) → Type 0
NoIsRight {C} digests says =
    (crypto : C) (now : Moment) (r : KeptWhole) (supplies : List Supply) (begun end : Begun C)
    (fault : ValidationError) →
    IsBegun digests says crypto now r begun → AreTaken says supplies begun end →
    EndsWith end fault →
    DeniesRightly (digests crypto) (says crypto) now supplies (whole_of r) fault

-- What a signer says by a key of a content with this digest (`IsSignedBy`) matches, where the
-- verdict on its signature is yes: the identifier of the key is the subject key that it has, it
-- states the digest, and each certificate with the key and its identifier verifies it (RFC 5652,
-- section 5.4).
abbrev pub MadeSignersMatch : {S : Type 0} → (S → List ℕ → List ℕ → List ℕ → Type 0) → Type 0
MadeSignersMatch {S} may =
    (signer : S) (key digest : List ℕ) (time : Moment) (s : KeptSigner) (verdict : Verdict) →
    IsSignedBy (may signer key) key digest time s →
    IsTrue (verdict key (message_of s.signer.attributes) s.signer.signature) →
    HasKey (seen_signer verdict digest s.signer) (sha1 key)
    × IsTrue (seen_signer verdict digest s.signer).digest_holds
    × ((c : Certificate) → c.tbs.key ≡ key → c.tbs.extensions.key.subject_key ≡ sha1 key →
    IsVerifiedBy (seen_signer verdict digest s.signer) (seen_alone verdict c))
