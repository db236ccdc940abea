-- The extensions that stand say what they are made of.
use Rattle.std.proofs.Common.{◌≡◌, ◌≢◌, ℕ, Bool, true, false, List, [], ◌∷◌, ◌++◌, length}
use Rattle.std.proofs.Common.{Option, None, Some, inl, inr, refl, sym, ap, subst, ◌∙◌, arith}
use Rattle.std.specs.Prelude.{All, IfSome, unwrap_or, option_map, bytes_eq}
use Rattle.std.specs.List.{flat_map, cons_option}
use Rattle.std.proofs.lemmas.Bool.{cases_Bool}
use Rattle.std.proofs.lemmas.List.{append-nil}
use Rattle.std.proofs.lemmas.List.Concat.{flat_map-append}
use Rattle.std.proofs.lemmas.List.Elements.{All-nil, All-cons, All-head, All-tail}
use Rattle.std.proofs.lemmas.List.Kept.{AllPairs-cons}
use Rattle.std.proofs.lemmas.Slice.Eq.{bytes_eq-Decides}
use Rattle.rpki_der.specs.declared.mode.Mode.{Mode}
use Rattle.rpki_der.specs.declared.mode.Mode.TheVariants.{Der}
use Rattle.rpki_der.specs.Form.Keyed.{Keyed, AreDistinct, with_key, are_distinct}
use Rattle.rpki_der.specs.Form.Made.{Begins}
use Rattle.rpki_der.specs.Grammar.{Items}
use Rattle.rpki_der.specs.Oid.{IsOid}
use Rattle.rpki_der.specs.Tags.{OCTET_STRING, OBJECT_IDENTIFIER, SEQUENCE}
use Rattle.rpki_der.specs.Write.Parts.{contents_small, length_parts}
use Rattle.rpki_der.specs.Write.Written.{value_octets}
use Rattle.rpki_der.proofs.Form.Keyed.{differ, any-here, any-there, pairs-head, pairs-tail}
use Rattle.rpki_der.proofs.Form.Keyed.{distinct-decides}
use Rattle.rpki_der.proofs.Reading.Lengths.{some_is}
use Rattle.rpki_faults.specs.declared.overclaim.Overclaim.{Overclaim}
use Rattle.rpki_faults.specs.declared.overclaim.Overclaim.TheVariants.{Refuse, Trim}
use Rattle.rpki_resources.specs.declared.block.Block.{Block}
use Rattle.rpki_resources.specs.declared.family.AddressFamily.TheVariants.{Ipv4, Ipv6}
use Rattle.rpki_resources.specs.declared.resources.Claim.{Claim}
use Rattle.rpki_resources.specs.declared.resources.Claim.TheVariants.{Missing, Inherit}
use Rattle.rpki_resources.specs.declared.resources.Claim.TheVariants.{Explicit as Numbers}
use Rattle.rpki_resources.specs.Claim.Form.{AsIdentifiersForm}
use Rattle.rpki_extensions.specs.declared.access.SubjectAccess.{SubjectAccess}
use Rattle.rpki_extensions.specs.declared.addresses.IpClaims.{IpClaims}
use Rattle.rpki_extensions.specs.declared.extension.Extension.{Extension}
use Rattle.rpki_extensions.specs.declared.extensions.Extensions.{Extensions}
use Rattle.rpki_extensions.specs.Access.{AuthorityAccessForm, SubjectAccessForm}
use Rattle.rpki_extensions.specs.Addresses.{IpClaimsForm}
use Rattle.rpki_extensions.specs.BasicConstraints.{BasicConstraintsForm}
use Rattle.rpki_extensions.specs.Extension.{ExtensionForm, oid_of, Stated, IsAmong}
use Rattle.rpki_extensions.specs.Extension.{is_among}
use Rattle.rpki_extensions.specs.Extensions.{subject_key_identifier, key_usage, basic_constraints}
use Rattle.rpki_extensions.specs.Extensions.{crl_distribution_points, certificate_policies}
use Rattle.rpki_extensions.specs.Extensions.{authority_key_identifier, extended_key_usage}
use Rattle.rpki_extensions.specs.Extensions.{authority_info_access, subject_info_access}
use Rattle.rpki_extensions.specs.Extensions.{ip_resources, as_resources, other}
use Rattle.rpki_extensions.specs.Extensions.{certificate_extensions, no_access, no_addresses}
use Rattle.rpki_extensions.specs.Extensions.{AreKeyFacts, AreLocations, AreClaims}
use Rattle.rpki_extensions.specs.Extensions.{AreExtensions, ExtensionsForm}
use Rattle.rpki_extensions.specs.KeyIdentifiers.{SubjectKeyForm, AuthorityKeyForm}
use Rattle.rpki_extensions.specs.Points.{PointsForm}
use Rattle.rpki_extensions.specs.Policies.{PoliciesForm}
use Rattle.rpki_extensions.specs.Usage.{KeyUsageForm}
use Rattle.rpki_basics.specs.Uri.{IsRsync}
use Rattle.rpki_issued.specs.Extensions.{extension_octets, OptionalExtension, optional_oid}
use Rattle.rpki_issued.specs.Extensions.{standing_with, octets_with, octets_of, always, maybe}
use Rattle.rpki_issued.specs.Extensions.{some_access, said_access, said_claim, some_addresses}
use Rattle.rpki_issued.specs.Extensions.{said_addresses, extensions_under, all_extensions}
use Rattle.rpki_issued.specs.Extensions.{standing_list, row, first_extensions, last_extensions}
use Rattle.rpki_issued.specs.Extensions.{extensions_contents, extensions_octets}
use Rattle.rpki_issued.specs.Values.{authority_key_octets, flag_octets}
use Rattle.rpki_issued.specs.Values.{basic_octets, points_octets}
use Rattle.rpki_issued.specs.Values.{authority_access_octets, subject_access_octets}
use Rattle.rpki_issued.specs.Values.{as_claim_octets, ip_claims_octets}
use Rattle.rpki_issued.specs.Written.{IsAccessToWrite, AreToWrite, OfNumbers, IsAsWritten}
use Rattle.rpki_issued.specs.Written.{IsIpWritten}
use Rattle.rpki_issued.proofs.Parts.{Short, short-value, octets-written}
use Rattle.rpki_issued.proofs.Parts.{oid-written}
use Rattle.rpki_issued.proofs.Values.{subject-key-written, authority-key-written, flag-written}
use Rattle.rpki_issued.proofs.Values.{basic-written, usage-written, points-written}
use Rattle.rpki_issued.proofs.Values.{authority-access-written, subject-access-written}
use Rattle.rpki_issued.proofs.Values.{policies-written, as-claim-written, ip-claims-written}

-- ---- one extension

extension-written : (oid : List ℕ) (critical : Bool) (value : List ℕ) → IsOid oid
    → Short (extension_octets oid critical value)
    → ExtensionForm Der (extension_octets oid critical value)
    (record { oid = oid; critical = critical; value = value })
extension-written oid critical value valid short =
    let a : List ℕ = value_octets OBJECT_IDENTIFIER oid in
    let b : List ℕ = flag_octets critical in
    let c : List ℕ = value_octets OCTET_STRING value in
    let s = length_parts a (b ++ c) (contents_small SEQUENCE (a ++ (b ++ c)) short) in
    let t = length_parts b c s.1 in (
      a ++ (b ++ c),
      short-value SEQUENCE (a ++ (b ++ c)) refl short,
      (
        a,
        b ++ c,
        refl,
        oid-written oid valid s.0,
        (
          b,
          c,
          refl,
          flag-written critical,
          (c, [], sym (append-nil c), octets-written value t.1, refl),
        ),
      ),
    )

value-few : (oid : List ℕ) (critical : Bool) (value : List ℕ)
    → Short (extension_octets oid critical value) → Short value
value-few oid critical value short =
    let a : List ℕ = value_octets OBJECT_IDENTIFIER oid in
    let b : List ℕ = flag_octets critical in
    let c : List ℕ = value_octets OCTET_STRING value in
    let s = length_parts a (b ++ c) (contents_small SEQUENCE (a ++ (b ++ c)) short) in
    let t = length_parts b c s.1 in
    contents_small OCTET_STRING value t.1

-- ---- the extensions that stand

abbrev HasOid : OptionalExtension → Type 0
HasOid s = IsOid s.oid

pub optionals-written : (list : List OptionalExtension) → All HasOid list
    → Short (flat_map octets_of list)
    → Items (ExtensionForm Der) (flat_map octets_of list) (standing_list list)
optionals-written [] valid short = refl
optionals-written (s ∷ list) valid short =
    of s.value short (optionals-written list (All-tail HasOid s list valid))
  where
    of : (v : Option (List ℕ)) → Short (octets_with s v ++ flat_map octets_of list)
        → (Short (flat_map octets_of list)
        → Items (ExtensionForm Der) (flat_map octets_of list) (standing_list list))
        → Items (ExtensionForm Der) (octets_with s v ++ flat_map octets_of list)
        (cons_option (option_map (standing_with s) v) (standing_list list))
    of None few rest = rest few
    of (Some v) few rest =
        let o : List ℕ = extension_octets s.oid s.critical v in
        let each = length_parts o (flat_map octets_of list) few in (
          o,
          flat_map octets_of list,
          refl,
          extension-written s.oid s.critical v (All-head HasOid s list valid) each.0,
          rest each.1,
        )

abbrev FewIn : OptionalExtension → Type 0
FewIn s = IfSome s.value Short

-- each value is short
pub values-few : (list : List OptionalExtension) → Short (flat_map octets_of list)
    → All FewIn list
values-few [] short = All-nil FewIn
values-few (s ∷ list) short =
    let each = length_parts (octets_of s) (flat_map octets_of list) short in
    All-cons FewIn s list (of s.value each.0) (values-few list each.1)
  where
    of : (v : Option (List ℕ)) → Short (octets_with s v) → IfSome v Short
    of None few = tt
    of (Some v) few = value-few s.oid s.critical v few

-- what holds of each identifier holds of that of each that stands
pub each-stands : (P : List ℕ → Type 0) (list : List OptionalExtension) → All (λ s. P s.oid) list
    → All (λ e. P (oid_of e)) (standing_list list)
each-stands P [] h = All-nil (λ (e : Extension). P e.oid)
each-stands P (s ∷ list) h =
    of s.value (each-stands P list (All-tail (λ (t : OptionalExtension). P t.oid) s list h))
  where
    of : (v : Option (List ℕ)) → All (λ (e : Extension). P e.oid) (standing_list list)
        → All (λ (e : Extension). P e.oid)
        (cons_option (option_map (standing_with s) v) (standing_list list))
    of None rest = rest
    of (Some v) rest =
        All-cons (λ (e : Extension). P e.oid) (standing_with s v) (standing_list list)
        (All-head (λ (t : OptionalExtension). P t.oid) s list h) rest

abbrev Apart : Extension → Extension → Type 0
Apart a b = oid_of a ≢ oid_of b

abbrev OptionalsApart : OptionalExtension → OptionalExtension → Type 0
OptionalsApart s t = s.oid ≢ t.oid

pub standing-distinct : (list : List OptionalExtension) → AreDistinct optional_oid list
    → AreDistinct oid_of (standing_list list)
standing-distinct [] h = λ i j d lt le. absurd (omega (arith, le))
standing-distinct (s ∷ list) h =
    of s.value (standing-distinct list (pairs-tail OptionalsApart s list h))
  where
    of : (v : Option (List ℕ)) → AreDistinct oid_of (standing_list list)
        → AreDistinct oid_of (cons_option (option_map (standing_with s) v) (standing_list list))
    of None rest = rest
    of (Some v) rest =
        AllPairs-cons Apart (standing_with s v) (standing_list list)
        (each-stands (λ oid. s.oid ≢ oid) list (pairs-head OptionalsApart s list h)) rest

-- ---- what an extension says

-- The value says by G what was found, and nothing is found where there is none.
abbrev pub IsSaidBy : {X : Type 0} → (List ℕ → X → Type 0) → Option (List ℕ) → Option X → Type 0
IsSaidBy G None None = Unit {0}
IsSaidBy G None (Some x) = ⊥
IsSaidBy G (Some v) None = ⊥
IsSaidBy G (Some v) (Some x) = G v x

module _ {X : Type 0} (G : List ℕ → X → Type 0) (oid : List ℕ) where
  abbrev Say : Extension → X → Type 0
  Say e x = G e.value x

  abbrev Other : List ℕ → Type 0
  Other id = id ≢ oid

  abbrev OtherExtension : Extension → Type 0
  OtherExtension e = oid_of e ≢ oid

  first-says : (s : OptionalExtension) (v : Option (List ℕ)) (list : List Extension)
      (found : Option X)
      → s.oid ≡ oid → IsSaidBy G v found → All OtherExtension list
      → Keyed oid_of Say (cons_option (option_map (standing_with s) v) list) oid found
  first-says s None list None is h others = others
  first-says s None list (Some x) is h others = absurd h
  first-says s (Some v) list None is h others = absurd h
  first-says s (Some v) list (Some x) is h others =
      any-here (λ (e : Extension). (oid_of e ≡ oid) × Say e x) (standing_with s v) list (is, h)

  past-optional : (s : OptionalExtension) (v : Option (List ℕ)) (list : List Extension)
      (found : Option X)
      → s.oid ≢ oid → Keyed oid_of Say list oid found
      → Keyed oid_of Say (cons_option (option_map (standing_with s) v) list) oid found
  past-optional s None list found not_it h = h
  past-optional s (Some v) list None not_it h =
      All-cons OtherExtension (standing_with s v) list not_it h
  past-optional s (Some v) list (Some x) not_it h =
      any-there (λ (e : Extension). (oid_of e ≡ oid) × Say e x) (standing_with s v) list h

  pub optional-says : (s : OptionalExtension) (found : Option X) (list : List OptionalExtension)
      → AreDistinct optional_oid list
      → with_key optional_oid oid list ≡ Some s → IsSaidBy G s.value found
      → Keyed oid_of Say (standing_list list) oid found
  optional-says s found [] d e h = absurd cc
  optional-says s found (t ∷ list) d e h = elim (cases_Bool (bytes_eq t.oid oid)) [
    | inl y ↦
        let here : with_key optional_oid oid (t ∷ list) ≡ Some t = rw y refl in
        let same : t ≡ s = some_is t s (sym here ∙ e) in
        let is : t.oid ≡ oid = (bytes_eq-Decides t.oid oid).0 y in
        first-says t t.value (standing_list list) found is
        (subst (λ (u : OptionalExtension). IsSaidBy G u.value found) (sym same) h)
        (each-stands Other list (λ k z lt. λ f.
        pairs-head OptionalsApart t list d k z lt (is ∙ sym f)))
    | inr n ↦
        let later : with_key optional_oid oid (t ∷ list) ≡ with_key optional_oid oid list =
        rw n refl in
        past-optional t t.value (standing_list list) found (differ t.oid oid n)
        (optional-says s found list (pairs-tail OptionalsApart t list d) (sym later ∙ e) h)
  ]

-- none has this identifier
pub none-there : (oid : List ℕ) (list : List OptionalExtension)
    → with_key optional_oid oid list ≡ None
    → All (λ s. s.oid ≢ oid) list
none-there oid [] e = All-nil (λ (s : OptionalExtension). s.oid ≢ oid)
none-there oid (s ∷ list) e = elim (cases_Bool (bytes_eq s.oid oid)) [
  | inl y ↦
      let here : with_key optional_oid oid (s ∷ list) ≡ Some s = rw y refl in
      absurd (let both : (let n : Option OptionalExtension = None in n) ≡ Some s =
      sym e ∙ here in cc)
  | inr n ↦
      let later : with_key optional_oid oid (s ∷ list) ≡ with_key optional_oid oid list =
      rw n refl in
      All-cons (λ (t : OptionalExtension). t.oid ≢ oid) s list (differ s.oid oid n)
      (none-there oid list (sym later ∙ e))
]

pub none-stands : (oid : List ℕ) (list : List OptionalExtension)
    → with_key optional_oid oid list ≡ None
    → All (λ e. oid_of e ≢ oid) (standing_list list)
none-stands oid list e = each-stands (λ id. id ≢ oid) list (none-there oid list e)

-- what is written of what may be said is said
maybe-says : {X Y : Type 0} (G : List ℕ → Y → Type 0) (f : X → List ℕ) (g : X → Y)
    (P : X → Type 0) → ((x : X) → P x → Short (f x) → G (f x) (g x)) → (o : Option X) → IfSome o P
    → IfSome (option_map f o) Short → IsSaidBy G (option_map f o) (option_map g o)
maybe-says G f g P k None h few = tt
maybe-says G f g P k (Some x) h few = k x h few

same-found : {X : Type 0} (o : Option X) → option_map (λ (x : X). x) o ≡ o
same-found None = refl
same-found (Some x) = refl

-- the whole of the octets is their beginning
begins : {X : Type 0} (G : List ℕ → X → Type 0) (v : List ℕ) (x : X) → G v x → Begins G v x
begins G v x h = ([], (v, sym (append-nil v), h))

-- ---- the extensions of a certificate

among : (ks : List (List ℕ)) (oid : List ℕ) → is_among ks oid ≡ true → IsAmong ks oid
among [] oid e = absurd cc
among (k ∷ []) oid e = inl ((bytes_eq-Decides oid k).0 e)
among (k ∷ l ∷ ks) oid e = elim (cases_Bool (bytes_eq oid k)) [
  | inl y ↦ inl ((bytes_eq-Decides oid k).0 y)
  | inr n ↦
      let later : is_among (k ∷ l ∷ ks) oid ≡ is_among (l ∷ ks) oid = rw n refl in
      inr (among (l ∷ ks) oid (sym later ∙ e))
]

abbrev Known : List ℕ → Type 0
Known oid = IsOid oid × IsAmong certificate_extensions oid

ip-known : (policy : Overclaim) → Known (ip_resources policy)
ip-known Refuse = ((omega arith, omega arith), among certificate_extensions _ refl)
ip-known Trim = ((omega arith, omega arith), among certificate_extensions _ refl)

as-known : (policy : Overclaim) → Known (as_resources policy)
as-known Refuse = ((omega arith, omega arith), among certificate_extensions _ refl)
as-known Trim = ((omega arith, omega arith), among certificate_extensions _ refl)

known : (oid : List ℕ) → IsOid oid → is_among certificate_extensions oid ≡ true → Known oid
known oid valid e = (valid, among certificate_extensions oid e)

-- each has an identifier that is known
abbrev EachKnown : List OptionalExtension → Type 0
EachKnown [] = Unit {0}
EachKnown (s ∷ list) = Known s.oid × EachKnown list

each-known : (list : List OptionalExtension) → EachKnown list → All (λ s. Known s.oid) list
each-known [] h = All-nil (λ (s : OptionalExtension). Known s.oid)
each-known (s ∷ list) h =
    All-cons (λ (t : OptionalExtension). Known t.oid) s list h.0 (each-known list h.1)

all-known : (policy : Overclaim) (x : Extensions) → EachKnown (extensions_under policy x)
all-known policy x = (
  known basic_constraints (omega arith, omega arith) refl,
  (
    known subject_key_identifier (omega arith, omega arith) refl,
    (
      known authority_key_identifier (omega arith, omega arith) refl,
      (
        known key_usage (omega arith, omega arith) refl,
        (
          known crl_distribution_points (omega arith, omega arith) refl,
          (
            known authority_info_access (omega arith, omega arith) refl,
            (
              known subject_info_access (omega arith, omega arith) refl,
              (
                known certificate_policies (omega arith, omega arith) refl,
                (ip-known policy, (as-known policy, tt)),
              ),
            ),
          ),
        ),
      ),
    ),
  ),
)

all-distinct : (policy : Overclaim) (x : Extensions)
    → are_distinct optional_oid (extensions_under policy x) ≡ true
unfolding are_distinct
all-distinct Refuse x = refl
all-distinct Trim x = refl

are-apart : (policy : Overclaim) (x : Extensions)
    → AreDistinct optional_oid (extensions_under policy x)
are-apart policy x =
    (distinct-decides optional_oid (extensions_under policy x)).0 (all-distinct policy x)

-- that of the addresses
ip-found : (policy : Overclaim) (x : Extensions)
    → with_key optional_oid (ip_resources policy) (extensions_under policy x)
    ≡ Some (maybe (ip_resources policy) true ip_claims_octets (said_addresses x.claims.addresses))
ip-found Refuse x = refl
ip-found Trim x = refl

-- that of the AS numbers
as-found : (policy : Overclaim) (x : Extensions)
    → with_key optional_oid (as_resources policy) (extensions_under policy x)
    ≡ Some (maybe (as_resources policy) true as_claim_octets (said_claim x.claims.as_numbers))
as-found Refuse x = refl
as-found Trim x = refl

no-purposes : (policy : Overclaim) (x : Extensions)
    → with_key optional_oid extended_key_usage (extensions_under policy x) ≡ None
no-purposes Refuse x = refl
no-purposes Trim x = refl

no-other-ip : (policy : Overclaim) (x : Extensions)
    → with_key optional_oid (ip_resources (other policy)) (extensions_under policy x) ≡ None
no-other-ip Refuse x = refl
no-other-ip Trim x = refl

no-other-as : (policy : Overclaim) (x : Extensions)
    → with_key optional_oid (as_resources (other policy)) (extensions_under policy x) ≡ None
no-other-as Refuse x = refl
no-other-as Trim x = refl

-- ---- what may be left out

access-whole : (x : SubjectAccess) (a b c d : Option (List ℕ))
    → x ≡ record { ca_repository = a; rpki_manifest = b; signed_object = c; rpki_notify = d }
    → x ≡ unwrap_or (some_access x a b c d) no_access
access-whole x None None None None e = e
access-whole x None None None (Some u) e = refl
access-whole x None None (Some u) d e = refl
access-whole x None (Some u) c d e = refl
access-whole x (Some u) b c d e = refl

access-holds : (P : SubjectAccess → Type 0) (x : SubjectAccess) (a b c d : Option (List ℕ)) → P x
    → IfSome (some_access x a b c d) P
access-holds P x None None None None h = tt
access-holds P x None None None (Some u) h = h
access-holds P x None None (Some u) d h = h
access-holds P x None (Some u) c d h = h
access-holds P x (Some u) b c d h = h

abbrev Claimed : Type 0
Claimed = Claim (List (Block ℕ))

addresses-whole : (x : IpClaims) (a b : Claimed) → x ≡ record { v4 = a; v6 = b }
    → x ≡ unwrap_or (some_addresses x a b) no_addresses
addresses-whole x Missing Missing e = e
addresses-whole x Missing Inherit e = refl
addresses-whole x Missing (Numbers set) e = refl
addresses-whole x Inherit b e = refl
addresses-whole x (Numbers set) b e = refl

addresses-hold : (P : IpClaims → Type 0) (x : IpClaims) (a b : Claimed) → P x
    → IfSome (some_addresses x a b) P
addresses-hold P x Missing Missing h = tt
addresses-hold P x Missing Inherit h = h
addresses-hold P x Missing (Numbers set) h = h
addresses-hold P x Inherit b h = h
addresses-hold P x (Numbers set) b h = h

claim-whole : (claim : Claimed) → claim ≡ unwrap_or (said_claim claim) Missing
claim-whole Missing = refl
claim-whole Inherit = refl
claim-whole (Numbers set) = refl

-- a claim that is said, and can be written
abbrev SaidAs : Claimed → Type 0
SaidAs claim = (said_claim claim ≡ Some claim) × OfNumbers IsAsWritten claim

claim-holds : (claim : Claimed) → OfNumbers IsAsWritten claim → IfSome (said_claim claim) SaidAs
claim-holds Missing h = tt
claim-holds Inherit h = (refl, h)
claim-holds (Numbers set) h = (refl, h)

issuer-whole : (o : Option (List ℕ)) → o ≡ unwrap_or (option_map (λ (u : List ℕ). Some u) o) None
issuer-whole None = refl
issuer-whole (Some u) = refl

-- ---- what the extensions say

module _ (x : Extensions) (short : Short (flat_map octets_of (all_extensions x)))
    (h : AreToWrite x) where
  abbrev Given : List OptionalExtension
  Given = all_extensions x

  abbrev Standing : List Extension
  Standing = standing_list Given

  apart : AreDistinct optional_oid Given
  apart = are-apart x.claims.policy x

  few : All FewIn Given
  few = values-few Given short

  -- what one of them says
  says : {X : Type 0} (G : Mode → List ℕ → X → Type 0) (oid : List ℕ) (s : OptionalExtension)
      (found : Option X)
      → with_key optional_oid oid Given ≡ Some s
      → IsSaidBy (λ v y. Begins (G Der) v y) s.value found → Stated Standing oid G found
  says G oid s found e k = optional-says (λ v y. Begins (G Der) v y) oid s found Given apart e k

  -- what one of them says that may be missing
  may-say : {X Y : Type 0} (G : Mode → List ℕ → Y → Type 0) (f : X → List ℕ) (g : X → Y)
      (P : X → Type 0) → ((y : X) → P y → Short (f y) → G Der (f y) (g y)) → (o : Option X)
      → IfSome o P → IfSome (option_map f o) Short
      → IsSaidBy (λ v y. Begins (G Der) v y) (option_map f o) (option_map g o)
  may-say G f g P k o p s =
      maybe-says (λ v y. Begins (G Der) v y) f g P
      (λ y q t. begins (G Der) (f y) (g y) (k y q t)) o p s

  keys-said : AreKeyFacts Standing x.key
  keys-said = record {
    subject_key =
        says SubjectKeyForm subject_key_identifier _ (Some x.key.subject_key) refl
        (begins (SubjectKeyForm Der) _ _ (subject-key-written x.key.subject_key h.key.subject_key));
    authority_key =
        subst (λ (o : Option (List ℕ)). Stated Standing authority_key_identifier AuthorityKeyForm o)
        (same-found x.key.authority_key)
        (says AuthorityKeyForm authority_key_identifier _ _ refl
        (may-say AuthorityKeyForm authority_key_octets (λ (id : List ℕ). id)
        (λ (id : List ℕ). length id ≡ 20) authority-key-written x.key.authority_key
        h.key.authority_key (few 2 (always [] false []) (omega arith))));
    basic_ca =
        subst (λ (o : Option Bool). Stated Standing basic_constraints BasicConstraintsForm o)
        (same-found x.key.basic_ca)
        (says BasicConstraintsForm basic_constraints _ _ refl
        (may-say BasicConstraintsForm basic_octets (λ (ca : Bool). ca) (λ _. Unit {0})
        (λ ca _ s. basic-written ca s) x.key.basic_ca (any x.key.basic_ca)
        (few 0 (always [] false []) (omega arith))));
    usage =
        says KeyUsageForm key_usage _ (Some x.key.usage) refl
        (begins (KeyUsageForm Der) _ _ (usage-written x.key.usage));
    has_purposes = (
      None,
      none-stands extended_key_usage Given (no-purposes x.claims.policy x),
      h.key.no_purposes,
    );
  }
    where
      any : (o : Option Bool) → IfSome o (λ _. Unit {0})
      any None = tt
      any (Some b) = tt

  locations-said : AreLocations Standing x.locations
  locations-said = record {
    crl =
        subst (λ (o : Option (List ℕ)). Stated Standing crl_distribution_points PointsForm o)
        (same-found x.locations.crl)
        (says PointsForm crl_distribution_points _ _ refl
        (may-say PointsForm points_octets (λ (u : List ℕ). u) IsRsync points-written
        x.locations.crl h.locations.crl (few 4 (always [] false []) (omega arith))));
    ca_issuer = (
      option_map (λ (u : List ℕ). Some u) x.locations.ca_issuer,
      says AuthorityAccessForm authority_info_access _ _ refl
          (may-say AuthorityAccessForm authority_access_octets (λ (u : List ℕ). Some u) IsRsync
          authority-access-written x.locations.ca_issuer h.locations.ca_issuer
          (few 5 (always [] false []) (omega arith))),
      issuer-whole x.locations.ca_issuer,
    );
    subject = (
      said_access x.locations.subject,
      subst
          (λ (o : Option SubjectAccess). Stated Standing subject_info_access SubjectAccessForm o)
          (same-found (said_access x.locations.subject))
          (says SubjectAccessForm subject_info_access _ _ refl
          (may-say SubjectAccessForm subject_access_octets (λ (y : SubjectAccess). y)
          IsAccessToWrite subject-access-written (said_access x.locations.subject)
          (access-holds IsAccessToWrite x.locations.subject _ _ _ _ h.locations.subject)
          (few 6 (always [] false []) (omega arith)))),
      access-whole x.locations.subject _ _ _ _ refl,
    );
  }

  -- both claims of addresses can be written
  abbrev BothWritten : IpClaims → Type 0
  BothWritten y = OfNumbers (IsIpWritten Ipv4) y.v4 × OfNumbers (IsIpWritten Ipv6) y.v6

  claims-said : AreClaims Standing x.claims
  claims-said = record {
    policy =
        says PoliciesForm certificate_policies _ (Some x.claims.policy) refl
        (begins (PoliciesForm Der) _ _
        (policies-written x.claims.policy (few 7 (always [] false []) (omega arith))));
    addresses = (
      said_addresses x.claims.addresses,
      subst
          (λ (o : Option IpClaims). Stated Standing (ip_resources x.claims.policy) IpClaimsForm o)
          (same-found (said_addresses x.claims.addresses))
          (says IpClaimsForm (ip_resources x.claims.policy) _ _ (ip-found x.claims.policy x)
          (may-say IpClaimsForm ip_claims_octets (λ (y : IpClaims). y) BothWritten
          (λ y p s. ip-claims-written y p.0 p.1 s) (said_addresses x.claims.addresses)
          (addresses-hold BothWritten x.claims.addresses _ _ (h.claims.v4, h.claims.v6))
          (few 8 (always [] false []) (omega arith)))),
      addresses-whole x.claims.addresses _ _ refl,
    );
    as_numbers = (
      said_claim x.claims.as_numbers,
      subst
          (λ (o : Option Claimed). Stated Standing (as_resources x.claims.policy)
          AsIdentifiersForm o)
          (same-found (said_claim x.claims.as_numbers))
          (says AsIdentifiersForm (as_resources x.claims.policy) _ _ (as-found x.claims.policy x)
          (may-say AsIdentifiersForm as_claim_octets (λ (c : Claimed). c) SaidAs
          (λ c p s. as-claim-written c c p.0 p.1 s) (said_claim x.claims.as_numbers)
          (claim-holds x.claims.as_numbers h.claims.as_numbers)
          (few 9 (always [] false []) (omega arith)))),
      claim-whole x.claims.as_numbers,
    );
    no_other_addresses =
        none-stands (ip_resources (other x.claims.policy)) Given (no-other-ip x.claims.policy x);
    no_other_as_numbers =
        none-stands (as_resources (other x.claims.policy)) Given (no-other-as x.claims.policy x);
  }

  pub extensions-say : AreExtensions Standing x
  extensions-say =
      let all = each-stands Known Given (each-known Given (all-known x.claims.policy x)) in record {
        stand = record {
          distinct = standing-distinct Given apart;
          critical = λ k d lt. λ _. (all k d lt).1;
        };
        key = keys-said;
        locations = locations-said;
        claims = claims-said;
      }

  pub list-written : Items (ExtensionForm Der) (flat_map octets_of Given) Standing
  list-written =
      let all = each-known Given (all-known x.claims.policy x) in
      optionals-written Given (λ k d lt. (all k d lt).0) short

-- one after another, with nothing after the last
in-row : (list : List OptionalExtension) → flat_map octets_of list ≡ row list
in-row [] = refl
in-row (s ∷ []) = append-nil (octets_of s)
in-row (s ∷ t ∷ list) = ap (λ (o : List ℕ). octets_of s ++ o) (in-row (t ∷ list))

both-rows : (xs ys : List OptionalExtension) → flat_map octets_of (xs ++ ys) ≡ row xs ++ row ys
both-rows xs ys =
    flat_map-append octets_of xs ys
    ∙ ap (λ (o : List ℕ). o ++ flat_map octets_of ys) (in-row xs)
    ∙ ap (λ (o : List ℕ). row xs ++ o) (in-row ys)

pub extensions-written : (x : Extensions) → AreToWrite x → Short (extensions_octets x)
    → ExtensionsForm Der (extensions_octets x) x
extensions-written x h short =
    let c : List ℕ = extensions_contents x in
    let same : flat_map octets_of (all_extensions x) ≡ c =
    both-rows (first_extensions x) (last_extensions x.claims.policy x) in
    let inner : Short (flat_map octets_of (all_extensions x)) =
    subst Short (sym same) (contents_small SEQUENCE c short) in (
      standing_list (all_extensions x),
      (
        c,
        short-value SEQUENCE c refl short,
        subst (λ (o : List ℕ). Items (ExtensionForm Der) o (standing_list (all_extensions x))) same
            (list-written x inner h),
      ),
      extensions-say x inner h,
    )
