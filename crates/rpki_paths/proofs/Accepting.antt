-- What is taken in carried order is a matching, and each refusal has its cause.
use Rattle.std.proofs.Common.{◌≡◌, ℕ, suc, ◌+◌, ◌*◌, ◌<◌, ◌≤◌, List, [], ◌∷◌, ◌++◌}
use Rattle.std.proofs.Common.{length, map, All, refl, sym, ap, ◌∙◌, subst, inl, inr, arith}
use Rattle.std.proofs.Common.{IsTrue, Bool}
use Rattle.std.specs.Prelude.{not}
use Rattle.std.proofs.lemmas.List.{length-map, map-append}
use Rattle.rpki_paths.specs.declared.acceptance.AcceptFault.TheVariants as why
use Rattle.rpki_paths.specs.declared.pairs.PairFault.TheVariants.{Unpaired, LeftOver}
use Rattle.rpki_paths.specs.declared.signing.SignFault.{SignFault}
use Rattle.rpki_paths.specs.declared.signing.SignFault.TheVariants.{NoKey, Digest, NoCert, Memory}
use Rattle.rpki_paths.specs.declared.sorting.SortFault.{SortFault}
use Rattle.rpki_paths.specs.declared.sorting.SortFault.TheVariants as sorts
use Rattle.rpki_paths.specs.Accepting.{IsFirstMatching, HaveTaken, LeavesOver, WhyNot}
use Rattle.rpki_paths.specs.Accepting.{fault_of_certs, fault_of_signers, most_verdicts}
use Rattle.rpki_paths.specs.Cert.{Cert, IsIn, at_place}
use Rattle.rpki_paths.specs.Grant.{authorities, with_crls, IsAccepted, AreValid}
use Rattle.rpki_paths.specs.Laws.{RefusalIsRight}
use Rattle.rpki_paths.specs.Pairing.{Carried, Crl, Signer, HasKey, HasCrl, IsVerifiedBy}
use Rattle.rpki_paths.specs.Pairing.{HasDistinctIds}
use Rattle.rpki_paths.specs.Path.{IsDistinct}
use Rattle.rpki_paths.specs.Signing.{AreSigned, StopsAtSigner, WhyNotSigned}
use Rattle.rpki_paths.specs.Sorting.{with_lists, cas_of, ees_of, HavePassed, StopsAtCert}
use Rattle.rpki_paths.specs.Sorting.{AreSorted, WhyNotSorted}
use Rattle.rpki_paths.specs.Taking.{PairsOff, LeavesSome, FindsNone, AllVerifyEach}
use Rattle.rpki_paths.specs.Walk.{placed}
use Rattle.rpki_paths.proofs.Granting.{refused_is_not_accepted}
use Rattle.rpki_paths.proofs.Mapping.{unmatched_is_not_accepted}
use Rattle.rpki_paths.proofs.PairingOff.{pairs-length, pairs_are_pairing}
use Rattle.rpki_paths.proofs.Sorts.{holds-of, seen-valid, filter-split}
use Rattle.rpki_paths.proofs.Verdicts.{verdicts_are_few}
use Rattle.rpki_paths.proofs.Walking.{length-placed}
use Rattle.rpki_paths.proofs.WalkingEach.{in-last}

-- What holds of handles as they are seen holds of what they stand for.
pub where-seen : {C : Type 0} (cert : C → Cert) (P : List Cert → List Cert → Type 0)
    {cas seen_cas ees seen_ees : List C} {listed : List Cert} → placed cert 1 cas ≡ listed
    → seen_cas ≡ cas → seen_ees ≡ ees → P (placed cert 1 seen_cas) (map cert seen_ees)
    → P listed (map cert ees)
where-seen cert P {seen_cas = seen} {ees = ees} listed same_cas same_ees h =
    subst (λ l. P l (map cert ees)) listed
    (subst (λ l. P (placed cert 1 l) (map cert ees)) same_cas
    (subst (λ l. P (placed cert 1 seen) (map cert l)) same_ees h))

-- ---- CAs with their lists, as walks see them

pub placed-listed : {C : Type 0} (cert : C → Cert) (n : ℕ) (cas : List C) (ds : List Cert)
    (ls : List Crl) → map cert cas ≡ with_lists ds ls → placed cert n cas ≡ with_crls n ds ls
placed-listed cert n [] [] ls e = refl
placed-listed cert n [] (d ∷ ds) [] e = refl
placed-listed cert n [] (d ∷ ds) (l ∷ ls) e = absurd cc
placed-listed cert n (c ∷ cas) [] ls e = absurd cc
placed-listed cert n (c ∷ cas) (d ∷ ds) [] e = absurd cc
placed-listed cert n (c ∷ cas) (d ∷ ds) (l ∷ ls) e =
    let head : cert c ≡ record d { revokes = l.serials } = cc in
    let tail : map cert cas ≡ with_lists ds ls = cc in
    ap (λ z. at_place n z ∷ placed cert (suc n) cas) head
    ∙ ap (λ m. at_place n (record d { revokes = l.serials }) ∷ m)
    (placed-listed cert (suc n) cas ds ls tail)

-- ---- what is left over

none-left : {B : Type 0} (left : List B) → length left ≡ 0 → left ≡ []
none-left [] e = refl
none-left (y ∷ left) e = absurd (omega (arith, e))

pub some-left : {A B : Type 0} (R : A → B → Type 0) (xs : List A) (ps ys left : List B)
    → PairsOff R xs ps ys left → length xs < length ys → ¬ (left ≡ [])
some-left R xs ps ys left h lt empty =
    let n : length left ≡ 0 = ap length empty in
    omega (arith, lt, n, pairs-length R xs ps ys left h)

pub all-taken : {A B : Type 0} (R : A → B → Type 0) (xs : List A) (ps ys left : List B)
    → PairsOff R xs ps ys left → length ys ≤ length xs → left ≡ []
all-taken R xs ps ys left h le =
    none-left left (omega (arith, le, pairs-length R xs ps ys left h))

-- ---- all of it is a matching

-- what is sorted, and then signed, is taken
pub have-taken : {X C : Type 0} (good : X → Type 0) (seen : X → Cert) (of_ca : X → Bool)
    (cert : C → Cert) (certs : List X) (a : Carried) (ees cas seen_ees : List C)
    (left_crls : List Crl) (taken : List Cert) (left_keys : List (List ℕ)) (left_ees : List Cert)
    → a.ees ≡ map seen (ees_of of_ca certs)
    → (s : AreSorted good seen of_ca cert certs a.crls ees cas left_crls) → seen_ees ≡ ees
    → AreSigned a.signers a.subject_keys (map cert seen_ees) taken left_keys left_ees
    → HaveTaken good seen of_ca certs a taken s.taken left_keys left_crls left_ees
have-taken good seen of_ca cert certs a ees cas seen_ees left_crls taken left_keys left_ees same s
    as_seen w = record {
      passed = s.passed;
      signed = subst (λ l. AreSigned a.signers a.subject_keys l taken left_keys left_ees)
          (ap (map cert) as_seen ∙ s.of_ees ∙ sym same) w;
    }

-- the signers are as they are for the certificates by their kind
pub signed-stops : {X C : Type 0} (seen : X → Cert) (of_ca : X → Bool) (cert : C → Cert)
    (certs : List X) (a : Carried) (seen_ees ees : List C) (fault : SignFault)
    → a.ees ≡ map seen (ees_of of_ca certs) → map cert ees ≡ map seen (ees_of of_ca certs)
    → seen_ees ≡ ees → WhyNotSigned a.signers a.subject_keys (map cert seen_ees) fault
    → WhyNotSigned a.signers a.subject_keys a.ees fault
signed-stops seen of_ca cert certs a seen_ees ees fault same of_ees as_seen h =
    subst (λ l. WhyNotSigned a.signers a.subject_keys l fault)
    (ap (map cert) as_seen ∙ of_ees ∙ sym same) h

-- where nothing is left over, this is what is left
pub taken-whole : {X : Type 0} (good : X → Type 0) (seen : X → Cert) (of_ca : X → Bool)
    (certs : List X) (a : Carried) (ees : List Cert) (crls : List Crl) (left_keys : List (List ℕ))
    (left_crls : List Crl) (left_ees : List Cert)
    → HaveTaken good seen of_ca certs a ees crls left_keys left_crls left_ees → left_keys ≡ []
    → left_crls ≡ [] → left_ees ≡ [] → HaveTaken good seen of_ca certs a ees crls [] [] []
taken-whole good seen of_ca certs a ees crls left_keys left_crls left_ees h e f k =
    subst (λ l. HaveTaken good seen of_ca certs a ees crls [] [] l) k
    (subst (λ l. HaveTaken good seen of_ca certs a ees crls [] l left_ees) f
    (subst (λ l. HaveTaken good seen of_ca certs a ees crls l left_crls left_ees) e h))

-- where nothing is left over, all is paired
pub taken-matches : {X : Type 0} (good : X → Type 0) (seen : X → Cert) (of_ca : X → Bool)
    (certs : List X) (a : Carried) (ees : List Cert) (crls : List Crl)
    → a.cas ≡ map seen (cas_of of_ca certs) → HaveTaken good seen of_ca certs a ees crls [] [] []
    → IsFirstMatching a ees crls
taken-matches good seen of_ca certs a ees crls same t =
    let of_cas = subst (λ l. PairsOff HasCrl l crls a.crls []) (sym same) t.passed.pairs in
    record {
      matching = record {
        keys = (
          t.signed.taken_keys,
          pairs_are_pairing HasKey a.signers t.signed.taken_keys
              a.subject_keys t.signed.keyed,
        );
        digests = t.signed.digests;
        signed = pairs_are_pairing IsVerifiedBy a.signers ees a.ees t.signed.signed;
        crl_of = pairs_are_pairing HasCrl a.cas crls a.crls of_cas;
      };
      of_cas = of_cas;
      of_signers = t.signed.signed;
    }

-- ---- the count of verdicts

pub few-asked : {C : Type 0} (cert : C → Cert) (a : Carried) (taken cas : List C)
    (crls : List Crl) (none listed signed walked : ℕ) → HasDistinctIds a
    → IsFirstMatching a (map cert taken) crls → map cert cas ≡ with_lists a.cas crls
    → (AllVerifyEach (λ (d : Cert). d.ski) (λ (l : Crl). l.aki) (λ d l. l.verifies d.key) a.cas
    a.crls → listed ≤ none + 1 * length a.cas)
    → (AllVerifyEach (λ (s : Signer). s.sid) (λ (e : Cert). e.ski) (λ s e. s.verifies e.key)
    a.signers a.ees → signed ≤ listed + 1 * length a.signers)
    → (IsDistinct (placed cert 1 cas) → walked ≤ signed + length taken * length cas)
    → walked ≤ none + most_verdicts a
few-asked cert a taken cas crls none listed signed walked dist m same of_crls of_signers of_walks =
    let placed_is = placed-listed cert 1 cas a.cas crls same in
    verdicts_are_few a (map cert taken) crls none listed signed walked dist m.matching of_crls
    of_signers
    (λ d. (let one = of_walks (subst (λ l. IsDistinct l) (sym placed_is) d) in
    let t : length (map cert taken) * length (authorities a crls) ≡ length taken * length cas =
    ap (λ n. n * length (authorities a crls)) (length-map taken cert)
    ∙ ap (λ n. length taken * n)
    (ap (λ (l : List Cert). length l) (sym placed_is) ∙ length-placed cert 1 cas) in
    omega (arith, one, t)))

-- ---- refusals

module _ {X F : Type 0} (good : X → Type 0) (because : X → F → Type 0) (seen : X → Cert)
    (of_ca : X → Bool) (certs : List X) (a : Carried) (paths : List (List Cert))
    (same : a.cas ≡ map seen (cas_of of_ca certs)) (dist : HasDistinctIds a) where
  no-crl : StopsAtCert good because seen of_ca certs a.crls sorts.NoCrl → ¬ (IsAccepted a paths)
  no-crl h acc =
      let before = map seen (cas_of of_ca h.done) in
      let found : FindsNone HasCrl a.cas a.crls (length before) = record {
        done = before;
        x = seen h.cert;
        more = map seen (cas_of of_ca h.more);
        partners = h.taken;
        left = h.left;
        parts = same ∙ ap (λ l. map seen (cas_of of_ca l)) h.parts
            ∙ ap (map seen) (filter-split of_ca h.done h.cert h.more h.why.1)
            ∙ map-append seen (cas_of of_ca h.done) (h.cert ∷ cas_of of_ca h.more);
        at_place = refl;
        pairs = h.before.pairs;
        none = h.why.2;
      } in
      unmatched_is_not_accepted a (Unpaired (length before)) paths dist (λ e. absurd cc)
      (inr (inr found)) acc

  no-key : StopsAtSigner a.signers a.subject_keys a.ees NoKey → ¬ (IsAccepted a paths)
  no-key h acc =
      let found : FindsNone HasKey a.signers a.subject_keys (length h.done) = record {
        done = h.done;
        x = h.signer;
        more = h.more;
        partners = h.before.taken_keys;
        left = h.left_keys;
        parts = h.parts;
        at_place = refl;
        pairs = h.before.keyed;
        none = h.why;
      } in
      unmatched_is_not_accepted a (Unpaired (length h.done)) paths dist (λ e. absurd cc)
      (inl found) acc

  no-digest : StopsAtSigner a.signers a.subject_keys a.ees Digest → ¬ (IsAccepted a paths)
  no-digest h acc =
      h.why.1 (acc.found.matching.digests h.signer
      (subst (λ l. IsIn h.signer l) (sym h.parts) (in-last h.signer h.done h.more)))

  no-cert : StopsAtSigner a.signers a.subject_keys a.ees NoCert → ¬ (IsAccepted a paths)
  no-cert h acc =
      let found : FindsNone IsVerifiedBy a.signers a.ees (length h.done) = record {
        done = h.done;
        x = h.signer;
        more = h.more;
        partners = h.taken;
        left = h.left_ees;
        parts = h.parts;
        at_place = refl;
        pairs = h.before.signed;
        none = h.why.2;
      } in
      unmatched_is_not_accepted a (Unpaired (length h.done)) paths dist (λ e. absurd cc)
      (inr (inl found)) acc

  keys-left : LeavesOver good seen of_ca certs a (λ keys crls ees. ¬ (keys ≡ []))
      → ¬ (IsAccepted a paths)
  keys-left h acc =
      let left : LeavesSome HasKey a.signers a.subject_keys = record {
        partners = h.5.signed.taken_keys;
        left = h.2;
        pairs = h.5.signed.keyed;
        some = h.6;
      } in
      unmatched_is_not_accepted a LeftOver paths dist (λ e. absurd cc) (inl left) acc

  crls-left : LeavesOver good seen of_ca certs a (λ keys crls ees. (keys ≡ []) × ¬ (crls ≡ []))
      → ¬ (IsAccepted a paths)
  crls-left h acc =
      let left : LeavesSome HasCrl a.cas a.crls = record {
        partners = h.1;
        left = h.3;
        pairs = subst (λ l. PairsOff HasCrl l h.1 a.crls h.3) (sym same) h.5.passed.pairs;
        some = h.6.1;
      } in
      unmatched_is_not_accepted a LeftOver paths dist (λ e. absurd cc) (inr (inr left)) acc

  certs-left : LeavesOver good seen of_ca certs a
      (λ keys crls ees. (keys ≡ []) × (crls ≡ []) × ¬ (ees ≡ [])) → ¬ (IsAccepted a paths)
  certs-left h acc =
      let left : LeavesSome IsVerifiedBy a.signers a.ees = record {
        partners = h.0;
        left = h.4;
        pairs = h.5.signed.signed;
        some = h.6.2;
      } in
      unmatched_is_not_accepted a LeftOver paths dist (λ e. absurd cc) (inr (inl left)) acc

-- the one that stops is among all
bad-among : {X : Type 0} (good : X → Type 0) (certs done more : List X) (x : X)
    → certs ≡ done ++ x ∷ more → ¬ (good x) → ¬ (All good certs)
bad-among good certs done more x parts bad all =
    bad (holds-of good certs x (subst (λ l. IsIn x l) (sym parts) (in-last x done more)) all)

module _ {X F : Type 0} (good : X → Type 0) (because : X → F → Type 0) (seen : X → Cert)
    (of_ca : X → Bool) where
  pub refusal_is_right : RefusalIsRight good because seen of_ca
  refusal_is_right certs a (why.NotGood f) paths same dist other h all acc =
      bad-among good certs h.done h.more h.cert h.parts h.why.0 all
  refusal_is_right certs a why.NoCrl paths same dist other h all acc =
      no-crl good because seen of_ca certs a paths same dist h acc
  refusal_is_right certs a why.NoKey paths same dist other h all acc =
      no-key good because seen of_ca certs a paths same dist h.1 acc
  refusal_is_right certs a why.Digest paths same dist other h all acc =
      no-digest good because seen of_ca certs a paths same dist h.1 acc
  refusal_is_right certs a why.NoCert paths same dist other h all acc =
      no-cert good because seen of_ca certs a paths same dist h.1 acc
  refusal_is_right certs a why.KeysLeft paths same dist other h all acc =
      keys-left good because seen of_ca certs a paths same dist h acc
  refusal_is_right certs a why.CrlsLeft paths same dist other h all acc =
      crls-left good because seen of_ca certs a paths same dist h acc
  refusal_is_right certs a why.CertsLeft paths same dist other h all acc =
      certs-left good because seen of_ca certs a paths same dist h acc
  refusal_is_right certs a (why.Walks f) paths same dist other h all acc =
      refused_is_not_accepted a h.0 h.1 f dist
      (taken-matches good seen of_ca certs a h.0 h.1 same h.2).matching other h.3 paths acc
  refusal_is_right certs a why.Memory paths same dist other h all acc = other tt

-- ---- the faults of the parts, told of the whole

module _ {X F : Type 0} (good : X → Type 0) (because : X → F → Type 0) (seen : X → Cert)
    (of_ca : X → Bool) (certs : List X) (a : Carried) where
  pub sorted-cause : (fault : SortFault F) → WhyNotSorted good because seen of_ca certs a.crls fault
      → WhyNot good because seen of_ca certs a (fault_of_certs fault)
  sorted-cause (sorts.NotGood f) h = h
  sorted-cause sorts.NoCrl h = h
  sorted-cause sorts.Memory h = tt

  pub signed-cause : (taken left : List Crl) → HavePassed good seen of_ca certs a.crls taken left
      → (fault : SignFault) → WhyNotSigned a.signers a.subject_keys a.ees fault
      → WhyNot good because seen of_ca certs a (fault_of_signers fault)
  signed-cause taken left passed NoKey h = ((taken, left, passed), h)
  signed-cause taken left passed Digest h = ((taken, left, passed), h)
  signed-cause taken left passed NoCert h = ((taken, left, passed), h)
  signed-cause taken left passed Memory h = tt

-- ---- what is good is valid

pub all-valid : {X : Type 0} (good : X → Type 0) (seen : X → Cert) (of_ca : X → Bool)
    (certs : List X) (a : Carried) → a.ees ≡ map seen (ees_of of_ca certs)
    → a.cas ≡ map seen (cas_of of_ca certs)
    → ((x : X) → good x → IsTrue (seen x).is_valid) → All good certs → AreValid a
all-valid good seen of_ca certs a same_ees same_cas valid all = record {
  ees = λ c i. seen-valid good seen (λ x. not (of_ca x)) certs valid all c
      (subst (λ l. IsIn c l) same_ees i);
  cas = λ c i. seen-valid good seen of_ca certs valid all c (subst (λ l. IsIn c l) same_cas i);
}
