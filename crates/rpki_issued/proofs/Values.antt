-- What is written of the values of extensions is in their forms.
use Rattle.std.proofs.Common.{◌≡◌, ◌≢◌, ℕ, ◌<◌, ◌^◌, Bool, true, false, List, [], ◌∷◌, ◌++◌, length}
use Rattle.std.proofs.Common.{Option, None, Some, inl, inr, refl, sym, ap, subst, arith}
use Rattle.std.specs.Prelude.{AllPairs, IfSome, unwrap_or}
use Rattle.std.specs.List.{flat_map}
use Rattle.std.proofs.lemmas.List.{append-nil}
use Rattle.std.proofs.lemmas.List.Elements.{All-nil, All-cons}
use Rattle.std.proofs.lemmas.List.Kept.{AllPairs-cons}
use Rattle.rpki_der.specs.declared.mode.Mode.TheVariants.{Der}
use Rattle.rpki_der.specs.Form.Keyed.{First, SaysNothing}
use Rattle.rpki_der.specs.Form.Made.{Default}
use Rattle.rpki_der.specs.Grammar.{Boolean, Items}
use Rattle.rpki_der.specs.Oid.{IsOid}
use Rattle.rpki_der.specs.Tags.{BOOLEAN, OCTET_STRING, OBJECT_IDENTIFIER, SEQUENCE, context}
use Rattle.rpki_der.specs.Tags.{context_primitive}
use Rattle.rpki_der.specs.Write.Parts.{contents_small, length_parts, optional_octets}
use Rattle.rpki_der.specs.Write.Written.{value_octets, length_value_octets_le}
use Rattle.rpki_der.proofs.Form.Keyed.{differ, any-here, any-there}
use Rattle.rpki_der.proofs.Reading.Lengths.{some_is}
use Rattle.rpki_der.proofs.Reading.Scan.{tag-sound}
use Rattle.rpki_der.proofs.Writing.Lengths.{value-written}
use Rattle.rpki_der.proofs.Writing.Strings.{bits-written}
use Rattle.rpki_basics.specs.Uri.{IsRsync, IsHttps}
use Rattle.rpki_faults.specs.declared.overclaim.Overclaim.{Overclaim}
use Rattle.rpki_faults.specs.declared.overclaim.Overclaim.TheVariants.{Refuse, Trim}
use Rattle.rpki_faults.specs.declared.usage.KeyUsage.{KeyUsage}
use Rattle.rpki_faults.specs.declared.usage.KeyUsage.TheVariants.{Ca, Ee}
use Rattle.rpki_resources.specs.declared.block.Block.{Block}
use Rattle.rpki_resources.specs.declared.by_family.FamilyEntry.{FamilyEntry}
use Rattle.rpki_resources.specs.declared.family.AddressFamily.{AddressFamily}
use Rattle.rpki_resources.specs.declared.family.AddressFamily.TheVariants.{Ipv4, Ipv6}
use Rattle.rpki_resources.specs.declared.resources.Claim.{Claim}
use Rattle.rpki_resources.specs.declared.resources.Claim.TheVariants.{Missing, Inherit}
use Rattle.rpki_resources.specs.declared.resources.Claim.TheVariants.{Explicit as Numbers}
use Rattle.rpki_resources.specs.As.Form.{AsForm}
use Rattle.rpki_resources.specs.As.Written.{as_octets}
use Rattle.rpki_resources.specs.Claim.Form.{ClaimForm, AsIdentifiersForm, IpClaimForm}
use Rattle.rpki_resources.specs.Families.Form.{AreEntries, FamilyEntryForm, afi_of}
use Rattle.rpki_resources.specs.Family.Form.{afi}
use Rattle.rpki_resources.specs.Ip.Form.{IpForm}
use Rattle.rpki_resources.specs.Ip.Written.{ip_octets}
use Rattle.rpki_extensions.specs.declared.access.Access.{Access}
use Rattle.rpki_extensions.specs.declared.access.SubjectAccess.{SubjectAccess}
use Rattle.rpki_extensions.specs.declared.addresses.IpClaims.{IpClaims}
use Rattle.rpki_extensions.specs.declared.name.GeneralName.TheVariants.{Uri}
use Rattle.rpki_extensions.specs.Access.{ca_issuers, ca_repository, rpki_manifest, signed_object}
use Rattle.rpki_extensions.specs.Access.{rpki_notify, AccessForm, IsLocated, AuthorityAccessForm}
use Rattle.rpki_extensions.specs.Access.{SubjectAccessForm, AreSubjectAccess}
use Rattle.rpki_extensions.specs.Addresses.{IpClaimsForm, claims_of}
use Rattle.rpki_extensions.specs.BasicConstraints.{BasicConstraintsForm}
use Rattle.rpki_extensions.specs.KeyIdentifiers.{SubjectKeyForm, AuthorityKeyForm}
use Rattle.rpki_extensions.specs.Names.{URI, GeneralNameForm, IsNamed}
use Rattle.rpki_extensions.specs.Points.{PointsForm, PointForm, FullNameForm}
use Rattle.rpki_extensions.specs.Policies.{policy_oid, PoliciesForm}
use Rattle.rpki_extensions.specs.Usage.{KeyUsageForm}
use Rattle.rpki_issued.specs.Extensions.{said_claim}
use Rattle.rpki_issued.specs.Values.{subject_key_octets, authority_key_octets, flag_octets}
use Rattle.rpki_issued.specs.Values.{basic_octets, usage_octets, uri_octets, points_octets}
use Rattle.rpki_issued.specs.Values.{access_octets, authority_access_octets}
use Rattle.rpki_issued.specs.Values.{subject_access_contents, subject_access_octets}
use Rattle.rpki_issued.specs.Values.{policies_octets, claim_octets, as_claim_octets, family_octets}
use Rattle.rpki_issued.specs.Values.{ip_claims_octets}
use Rattle.rpki_issued.specs.Written.{OfNumbers, IsAsWritten, IsIpWritten, IsAccessToWrite}
use Rattle.rpki_issued.proofs.Parts.{Short, short-value, octets-written}
use Rattle.rpki_issued.proofs.Parts.{oid-written, null-written}

-- ---- keys

pub subject-key-written : (id : List ℕ) → length id ≡ 20
    → SubjectKeyForm Der (subject_key_octets id) id
subject-key-written id e = (
  octets-written id (omega (arith, e, length_value_octets_le OCTET_STRING id)),
  e,
)

pub authority-key-written : (id : List ℕ) → length id ≡ 20 → Short (authority_key_octets id)
    → AuthorityKeyForm Der (authority_key_octets id) id
authority-key-written id e short =
    let c : List ℕ = value_octets (context_primitive 0) id in
    let inner : Short c = contents_small SEQUENCE c short in (
      c,
      short-value SEQUENCE c refl short,
      (c, [], sym (append-nil c), (short-value (context_primitive 0) id refl inner, e), refl),
    )

true-written : Boolean Der (flag_octets true) true
true-written = (
  0xFF ∷ [],
  value-written BOOLEAN (0xFF ∷ []) (tag-sound BOOLEAN refl) (omega arith),
  inr (refl, refl),
)

pub flag-written : (b : Bool) → Default false (Boolean Der) (flag_octets b) b
flag-written true = (Some true, true-written, refl)
flag-written false = (None, refl, refl)

pub basic-written : (ca : Bool) → Short (basic_octets ca)
    → BasicConstraintsForm Der (basic_octets ca) ca
basic-written ca short = (
  flag_octets ca,
  short-value SEQUENCE (flag_octets ca) refl short,
  (flag_octets ca, [], sym (append-nil (flag_octets ca)), flag-written ca, refl),
)

pub usage-written : (usage : KeyUsage) → KeyUsageForm Der (usage_octets usage) usage
usage-written Ca = (
  (0x06 ∷ [], 1),
  bits-written (0x06 ∷ []) 1 (omega arith),
  ((omega arith, refl), (omega arith, refl)),
)
usage-written Ee = (
  (0x80 ∷ [], 7),
  bits-written (0x80 ∷ []) 7 (omega arith),
  ((λ h. absurd (omega (arith, h.0.0))), (omega arith, refl)),
)

-- ---- URIs

uri-written : (uri : List ℕ) → Short (uri_octets uri)
    → GeneralNameForm Der (uri_octets uri) (Uri uri)
uri-written uri short = short-value URI uri refl short

full-name-written : (uri : List ℕ) → IsRsync uri → Short (value_octets (context 0) (uri_octets uri))
    → FullNameForm Der (value_octets (context 0) (uri_octets uri)) uri
full-name-written uri rsync short =
    let inner : Short (uri_octets uri) = contents_small (context 0) (uri_octets uri) short in (
      Uri uri ∷ [],
      (
        uri_octets uri,
        short-value (context 0) (uri_octets uri) refl short,
        (uri_octets uri, [], sym (append-nil (uri_octets uri)), uri-written uri inner, refl),
      ),
      ([], Uri uri, [], refl, All-nil (SaysNothing (IsNamed IsRsync)), (refl, rsync)),
    )

point-written : (uri : List ℕ) → IsRsync uri
    → Short (value_octets SEQUENCE (value_octets (context 0) (value_octets (context 0)
    (uri_octets uri))))
    → PointForm Der (value_octets SEQUENCE (value_octets (context 0) (value_octets (context 0)
    (uri_octets uri)))) uri
point-written uri rsync short =
    let c : List ℕ = value_octets (context 0) (uri_octets uri) in
    let d : List ℕ = value_octets (context 0) c in
    let outer : Short d = contents_small SEQUENCE d short in
    let inner : Short c = contents_small (context 0) c outer in (
      d,
      short-value SEQUENCE d refl short,
      (
        d,
        [],
        sym (append-nil d),
        (c, short-value (context 0) c refl outer, full-name-written uri rsync inner),
        refl,
      ),
    )

pub points-written : (uri : List ℕ) → IsRsync uri → Short (points_octets uri)
    → PointsForm Der (points_octets uri) uri
points-written uri rsync short =
    let p : List ℕ = value_octets SEQUENCE (value_octets (context 0) (value_octets (context 0)
    (uri_octets uri))) in (
      p,
      short-value SEQUENCE p refl short,
      (
        p,
        [],
        sym (append-nil p),
        point-written uri rsync (contents_small SEQUENCE p short),
        refl,
      ),
    )

-- ---- access

-- the description with this method and this URI
abbrev access_to : List ℕ → List ℕ → Access
access_to method uri = record { method = method; location = Uri uri }

access-written : (method uri : List ℕ) → IsOid method → Short (access_octets method uri)
    → AccessForm Der (access_octets method uri) (access_to method uri)
access-written method uri valid short =
    let a : List ℕ = value_octets OBJECT_IDENTIFIER method in
    let b : List ℕ = uri_octets uri in
    let each = length_parts a b (contents_small SEQUENCE (a ++ b) short) in (
      a ++ b,
      short-value SEQUENCE (a ++ b) refl short,
      (
        a,
        b,
        refl,
        oid-written method valid each.0,
        (b, [], sym (append-nil b), uri-written uri each.1, refl),
      ),
    )

pub authority-access-written : (uri : List ℕ) → IsRsync uri → Short (authority_access_octets uri)
    → AuthorityAccessForm Der (authority_access_octets uri) (Some uri)
authority-access-written uri rsync short =
    let a : List ℕ = access_octets ca_issuers uri in
    let inner : Short a = contents_small SEQUENCE a short in (
      access_to ca_issuers uri ∷ [],
      (
        a,
        short-value SEQUENCE a refl short,
        (
          a,
          [],
          sym (append-nil a),
          access-written ca_issuers uri (omega arith, omega arith) inner,
          refl,
        ),
      ),
      (
        [],
        access_to ca_issuers uri,
        [],
        refl,
        All-nil (SaysNothing (IsLocated IsRsync ca_issuers)),
        (refl, (refl, rsync)),
      ),
    )

-- the description with this method, if there is a URI, and others
abbrev before : List ℕ → Option (List ℕ) → List Access → List Access
before method None others = others
before method (Some uri) others = access_to method uri ∷ others

-- what says nothing is gone past
past : {I X : Type 0} (Say : I → X → Type 0) (i : I) (items : List I) (found : Option X)
    → SaysNothing Say i → First Say items found → First Say (i ∷ items) found
past Say i items None nothing h = All-cons (SaysNothing Say) i items nothing h
past Say i items (Some x) nothing h = (
  i ∷ h.0,
  h.1,
  h.2,
  ap (λ l. i ∷ l) h.3,
  All-cons (SaysNothing Say) i h.0 nothing h.4,
  h.5,
)

-- a description with another method
past-other : (P : List ℕ → Type 0) (method other : List ℕ) → other ≢ method
    → (uri : Option (List ℕ)) (others : List Access) (found : Option (List ℕ))
    → First (IsLocated P method) others found
    → First (IsLocated P method) (before other uri others) found
past-other P method other differs None others found h = h
past-other P method other differs (Some uri) others found h =
    past (IsLocated P method) (access_to other uri) others found (λ x is. differs is.0) h

-- the description with this method, where no later one has it
here : (P : List ℕ → Type 0) (method : List ℕ) (uri : Option (List ℕ)) (others : List Access)
    → IfSome uri P → First (IsLocated P method) others None
    → First (IsLocated P method) (before method uri others) uri
here P method None others valid h = h
here P method (Some uri) others valid h = (
  [],
  access_to method uri,
  others,
  refl,
  All-nil (SaysNothing (IsLocated P method)),
  (refl, (refl, valid)),
)

-- a description is written, if there is a URI
one-written : (method : List ℕ) → IsOid method → (uri : Option (List ℕ)) (o : List ℕ)
    (others : List Access) → Short (optional_octets (access_octets method) uri)
    → Items (AccessForm Der) o others
    → Items (AccessForm Der) (optional_octets (access_octets method) uri ++ o)
    (before method uri others)
one-written method valid None o others short h = h
one-written method valid (Some uri) o others short h =
    (access_octets method uri, o, refl, access-written method uri valid short, h)

module _ (x : SubjectAccess) where
  abbrev notify_only : List Access
  notify_only = before rpki_notify x.rpki_notify []

  abbrev from_object : List Access
  from_object = before signed_object x.signed_object notify_only

  abbrev from_manifest : List Access
  from_manifest = before rpki_manifest x.rpki_manifest from_object

  abbrev all_accesses : List Access
  all_accesses = before ca_repository x.ca_repository from_manifest

  nothing : (P : List ℕ → Type 0) (method : List ℕ) → First (IsLocated P method) [] None
  nothing P method = All-nil (SaysNothing (IsLocated P method))

  accesses-say : IsAccessToWrite x → AreSubjectAccess all_accesses x
  accesses-say h = record {
    ca_repository =
        here IsRsync ca_repository x.ca_repository from_manifest h.ca_repository
        (past-other IsRsync ca_repository rpki_manifest (differ _ _ refl) x.rpki_manifest
        from_object None
        (past-other IsRsync ca_repository signed_object (differ _ _ refl) x.signed_object
        notify_only None
        (past-other IsRsync ca_repository rpki_notify (differ _ _ refl) x.rpki_notify [] None
        (nothing IsRsync ca_repository))));
    rpki_manifest =
        past-other IsRsync rpki_manifest ca_repository (differ _ _ refl) x.ca_repository
        from_manifest x.rpki_manifest
        (here IsRsync rpki_manifest x.rpki_manifest from_object h.rpki_manifest
        (past-other IsRsync rpki_manifest signed_object (differ _ _ refl) x.signed_object
        notify_only None
        (past-other IsRsync rpki_manifest rpki_notify (differ _ _ refl) x.rpki_notify [] None
        (nothing IsRsync rpki_manifest))));
    signed_object =
        past-other IsRsync signed_object ca_repository (differ _ _ refl) x.ca_repository
        from_manifest x.signed_object
        (past-other IsRsync signed_object rpki_manifest (differ _ _ refl) x.rpki_manifest
        from_object x.signed_object
        (here IsRsync signed_object x.signed_object notify_only h.signed_object
        (past-other IsRsync signed_object rpki_notify (differ _ _ refl) x.rpki_notify [] None
        (nothing IsRsync signed_object))));
    rpki_notify =
        past-other IsHttps rpki_notify ca_repository (differ _ _ refl) x.ca_repository
        from_manifest x.rpki_notify
        (past-other IsHttps rpki_notify rpki_manifest (differ _ _ refl) x.rpki_manifest
        from_object x.rpki_notify
        (past-other IsHttps rpki_notify signed_object (differ _ _ refl) x.signed_object
        notify_only x.rpki_notify
        (here IsHttps rpki_notify x.rpki_notify [] h.rpki_notify (nothing IsHttps rpki_notify))));
  }

  accesses-written : Short (subject_access_contents x)
      → Items (AccessForm Der) (subject_access_contents x) all_accesses
  accesses-written short =
      let a : List ℕ = optional_octets (access_octets ca_repository) x.ca_repository in
      let b : List ℕ = optional_octets (access_octets rpki_manifest) x.rpki_manifest in
      let c : List ℕ = optional_octets (access_octets signed_object) x.signed_object in
      let d : List ℕ = optional_octets (access_octets rpki_notify) x.rpki_notify in
      let s = length_parts a (b ++ (c ++ d)) short in
      let t = length_parts b (c ++ d) s.1 in
      let u = length_parts c d t.1 in
      let last : Items (AccessForm Der) (d ++ []) notify_only =
      one-written rpki_notify (omega arith, omega arith) x.rpki_notify [] [] u.1 refl in
      one-written ca_repository (omega arith, omega arith) x.ca_repository (b ++ (c ++ d))
      from_manifest s.0
      (one-written rpki_manifest (omega arith, omega arith) x.rpki_manifest (c ++ d) from_object
      t.0
      (one-written signed_object (omega arith, omega arith) x.signed_object d notify_only u.0
      (subst (λ (o : List ℕ). Items (AccessForm Der) o notify_only) (append-nil d) last)))

pub subject-access-written : (x : SubjectAccess) → IsAccessToWrite x
    → Short (subject_access_octets x) → SubjectAccessForm Der (subject_access_octets x) x
subject-access-written x h short =
    let c : List ℕ = subject_access_contents x in
    let inner : Short c = contents_small SEQUENCE c short in (
      all_accesses x,
      (c, short-value SEQUENCE c refl short, accesses-written x inner),
      accesses-say x h,
    )

-- ---- policies

policy-valid : (policy : Overclaim) → IsOid (policy_oid policy)
policy-valid Refuse = (omega arith, omega arith)
policy-valid Trim = (omega arith, omega arith)

pub policies-written : (policy : Overclaim) → Short (policies_octets policy)
    → PoliciesForm Der (policies_octets policy) policy
policies-written policy short =
    let o : List ℕ = value_octets OBJECT_IDENTIFIER (policy_oid policy) in
    let p : List ℕ = value_octets SEQUENCE o in
    let inner : Short p = contents_small SEQUENCE p short in
    let few : Short o = contents_small SEQUENCE o inner in (
      p,
      short-value SEQUENCE p refl short,
      (
        p,
        [],
        sym (append-nil p),
        (
          o,
          short-value SEQUENCE o refl inner,
          (
            o,
            [],
            sym (append-nil o),
            oid-written (policy_oid policy) (policy-valid policy) few,
            ([], [], refl, ([], refl), refl),
          ),
        ),
        refl,
      ),
    )

-- ---- claims

claim-written : (G : List ℕ → List (Block ℕ) → Type 0) (f : List (Block ℕ) → List ℕ)
    (claim claimed : Claim (List (Block ℕ))) → said_claim claim ≡ Some claimed
    → OfNumbers (λ set. length (f set) < 2 ^ 32 → G (value_octets SEQUENCE (f set)) set) claim
    → Short (claim_octets f claim) → ClaimForm G Der (claim_octets f claim) claimed
claim-written G f Missing claimed e h short = absurd cc
claim-written G f Inherit claimed e h short = inl (null-written, sym (some_is _ _ e))
claim-written G f (Numbers set) claimed e h short =
    inr (set, h (contents_small SEQUENCE (f set) short), sym (some_is _ _ e))

pub as-claim-written : (claim claimed : Claim (List (Block ℕ))) → said_claim claim ≡ Some claimed
    → OfNumbers IsAsWritten claim → Short (as_claim_octets claim)
    → AsIdentifiersForm Der (as_claim_octets claim) claimed
as-claim-written claim claimed e h short =
    let c : List ℕ = claim_octets (flat_map as_octets) claim in
    let d : List ℕ = value_octets (context 0) c in
    let outer : Short d = contents_small SEQUENCE d short in
    let inner : Short c = contents_small (context 0) c outer in (
      d,
      short-value SEQUENCE d refl short,
      (
        d,
        [],
        sym (append-nil d),
        (
          c,
          short-value (context 0) c refl outer,
          claim-written (AsForm Der) (flat_map as_octets) claim claimed e h inner,
        ),
        refl,
      ),
    )

abbrev Claimed : Type 0
Claimed = Claim (List (Block ℕ))

-- a family and what is claimed of it
abbrev entry_for : AddressFamily → Claimed → FamilyEntry Claimed
entry_for family claim = record { family = family; value = claim }

-- a family before others, if something is claimed of it
abbrev family_before : AddressFamily → Option Claimed → List (FamilyEntry Claimed)
    → List (FamilyEntry Claimed)
family_before family None others = others
family_before family (Some claim) others = entry_for family claim ∷ others

module _ (family : AddressFamily) where
  entry-written : (claim : Claimed) → said_claim claim ≡ Some claim
      → OfNumbers (IsIpWritten family) claim
      → Short (value_octets SEQUENCE (value_octets OCTET_STRING (afi family)
      ++ claim_octets (flat_map ip_octets) claim))
      → FamilyEntryForm IpClaimForm Der (value_octets SEQUENCE
      (value_octets OCTET_STRING (afi family)
      ++ claim_octets (flat_map ip_octets) claim)) (entry_for family claim)
  entry-written claim e h short =
      let a : List ℕ = value_octets OCTET_STRING (afi family) in
      let b : List ℕ = claim_octets (flat_map ip_octets) claim in
      let each = length_parts a b (contents_small SEQUENCE (a ++ b) short) in (
        a ++ b,
        short-value SEQUENCE (a ++ b) refl short,
        (
          a,
          b,
          refl,
          octets-written (afi family) each.0,
          (
            b,
            [],
            sym (append-nil b),
            claim-written (IpForm family Der) (flat_map ip_octets) claim claim e h each.1,
            refl,
          ),
        ),
      )

  family-written : (claim : Claimed) (o : List ℕ) (others : List (FamilyEntry Claimed))
      → OfNumbers (IsIpWritten family) claim → Short (family_octets family claim)
      → Items (FamilyEntryForm IpClaimForm Der) o others
      → Items (FamilyEntryForm IpClaimForm Der) (family_octets family claim ++ o)
      (family_before family (said_claim claim) others)
  family-written Missing o others h short rest = rest
  family-written Inherit o others h short rest =
      (family_octets family Inherit, o, refl, entry-written Inherit refl h short, rest)
  family-written (Numbers set) o others h short rest = (
    family_octets family (Numbers set),
    o,
    refl,
    entry-written (Numbers set) refl h short,
    rest,
  )

v4-apart : afi Ipv4 ≢ afi Ipv6
v4-apart = differ (afi Ipv4) (afi Ipv6) refl

v6-apart : afi Ipv6 ≢ afi Ipv4
v6-apart = differ (afi Ipv6) (afi Ipv4) refl

no-pairs : {I : Type 0} (R : I → I → Type 0) → AllPairs R []
no-pairs R = λ i j d lt le. absurd (omega (arith, le))

abbrev OtherThan : AddressFamily → FamilyEntry Claimed → Type 0
OtherThan family entry = afi_of entry ≢ afi family

families-say : (v4 v6 : Option Claimed)
    → AreEntries (family_before Ipv4 v4 (family_before Ipv6 v6 []))
    (record { v4 = v4; v6 = v6 })
families-say None None = record {
  distinct = no-pairs (λ (a b : FamilyEntry Claimed). afi_of a ≢ afi_of b);
  v4 = All-nil (OtherThan Ipv4);
  v6 = All-nil (OtherThan Ipv6);
}
families-say (Some c) None = record {
  distinct = λ i j d lt le. absurd (omega (arith, lt, le));
  v4 = any-here _ (entry_for Ipv4 c) [] (refl, refl);
  v6 = All-cons (OtherThan Ipv6) (entry_for Ipv4 c) [] v4-apart (All-nil (OtherThan Ipv6));
}
families-say None (Some d) = record {
  distinct = λ i j x lt le. absurd (omega (arith, lt, le));
  v4 = All-cons (OtherThan Ipv4) (entry_for Ipv6 d) [] v6-apart (All-nil (OtherThan Ipv4));
  v6 = any-here _ (entry_for Ipv6 d) [] (refl, refl);
}
families-say (Some c) (Some d) = record {
  distinct = AllPairs-cons (λ (a b : FamilyEntry Claimed). afi_of a ≢ afi_of b) (entry_for Ipv4 c)
      (entry_for Ipv6 d ∷ [])
      (All-cons (λ (b : FamilyEntry Claimed). afi Ipv4 ≢ afi_of b) (entry_for Ipv6 d) [] v4-apart
      (All-nil (λ (b : FamilyEntry Claimed). afi Ipv4 ≢ afi_of b)))
      (λ i j x lt le. absurd (omega (arith, lt, le)));
  v4 = any-here _ (entry_for Ipv4 c) (entry_for Ipv6 d ∷ []) (refl, refl);
  v6 = any-there _ (entry_for Ipv4 c) (entry_for Ipv6 d ∷ [])
      (any-here _ (entry_for Ipv6 d) [] (refl, refl));
}

said-again : (claim : Claimed) → claim ≡ unwrap_or (said_claim claim) Missing
said-again Missing = refl
said-again Inherit = refl
said-again (Numbers set) = refl

pub ip-claims-written : (x : IpClaims) → OfNumbers (IsIpWritten Ipv4) x.v4
    → OfNumbers (IsIpWritten Ipv6) x.v6 → Short (ip_claims_octets x)
    → IpClaimsForm Der (ip_claims_octets x) x
ip-claims-written x h4 h6 short =
    let a : List ℕ = family_octets Ipv4 x.v4 in
    let b : List ℕ = family_octets Ipv6 x.v6 in
    let inner : Short (a ++ b) = contents_small SEQUENCE (a ++ b) short in
    let each = length_parts a b inner in
    let last : Items (FamilyEntryForm IpClaimForm Der) (b ++ [])
    (family_before Ipv6 (said_claim x.v6) []) =
    family-written Ipv6 x.v6 [] [] h6 each.1 refl in
    let both : Items (FamilyEntryForm IpClaimForm Der) (a ++ b)
    (family_before Ipv4 (said_claim x.v4) (family_before Ipv6 (said_claim x.v6) [])) =
    family-written Ipv4 x.v4 b _ h4 each.0
    (subst (λ (o : List ℕ). Items (FamilyEntryForm IpClaimForm Der) o
    (family_before Ipv6 (said_claim x.v6) [])) (append-nil b) last) in
    let same : x ≡ claims_of (record { v4 = said_claim x.v4; v6 = said_claim x.v6 }) =
    λ i. record { v4 = said-again x.v4 i; v6 = said-again x.v6 i } in (
      record { v4 = said_claim x.v4; v6 = said_claim x.v6 },
      (
        family_before Ipv4 (said_claim x.v4) (family_before Ipv6 (said_claim x.v6) []),
        (a ++ b, short-value SEQUENCE (a ++ b) refl short, both),
        families-say (said_claim x.v4) (said_claim x.v6),
      ),
      same,
    )
