-- The extensions of a certificate are read exactly, in any order.
use Rattle.std.proofs.Common.{◌≡◌, ℕ, Bool, true, false, cond, List, [], ◌∷◌, ◌++◌, Option, Some}
use Rattle.std.proofs.Common.{None, inl, inr, refl, sym, ap, subst}
use Rattle.std.specs.Prelude.{All, Decides, not, ◌||◌, bytes_eq}
use Rattle.std.specs.List.{list_all}
use Rattle.std.proofs.lemmas.Bool.Decides.{Decides-and, Decides-or, Decides-by_and}
use Rattle.std.proofs.lemmas.List.Elements.{All-nil, All-cons, All-head, All-tail}
use Rattle.std.proofs.lemmas.Slice.Eq.{bytes_eq-Decides}
use Rattle.std.proofs.lemmas.Bool.{or_parts}
use Rattle.rpki_der.specs.declared.mode.Mode.{Mode}
use Rattle.rpki_der.specs.declared.mode.Mode.TheVariants.{Der}
use Rattle.rpki_der.specs.Form.Keyed.{IsSaid, AreDistinct, has_key, must}
use Rattle.rpki_der.specs.Form.Law.{TagSet, nothing, is, IsPart}
use Rattle.rpki_der.specs.Form.Made.{front_of}
use Rattle.rpki_der.specs.Grammar.{IsBytes, Items}
use Rattle.rpki_der.specs.Read.Parse.{Parser}
use Rattle.rpki_der.specs.Tags.{SEQUENCE}
use Rattle.rpki_der.proofs.Form.Fields.{field, done, within}
use Rattle.rpki_der.proofs.Form.Keyed.{said-sound, said-complete, distinct-decides}
use Rattle.rpki_der.proofs.Form.Kinds.{oid-part, flag-part, octets-part}
use Rattle.rpki_der.proofs.Form.Nested.{contents-bytes, string-bytes, front-understood}
use Rattle.rpki_der.proofs.Form.Words.{IsUnderstood, understand, items, in-tag, part-as, make}
use Rattle.rpki_der.proofs.Form.Words.{pass}
use Rattle.rpki_der.proofs.Reading.Exact.{IsBytes-left, IsBytes-right}
use Rattle.rpki_der.proofs.Reading.Lengths.{bind_some, some_is}
use Rattle.rpki_resources.specs.declared.resources.Claim.TheVariants.{Missing}
use Rattle.rpki_resources.specs.Claim.Read.{as_identifiers_at}
use Rattle.rpki_resources.proofs.Claims.{as-identifiers-part}
use Rattle.rpki_extensions.specs.declared.claims.Claims.{Claims}
use Rattle.rpki_extensions.specs.declared.extension.Extension.{Extension}
use Rattle.rpki_extensions.specs.declared.extensions.Extensions.{Extensions}
use Rattle.rpki_extensions.specs.declared.keys.KeyFacts.{KeyFacts}
use Rattle.rpki_extensions.specs.declared.locations.Locations.{Locations}
use Rattle.rpki_extensions.specs.Access.{authority_access_at, subject_access_at}
use Rattle.rpki_extensions.specs.Addresses.{ip_claims_at}
use Rattle.rpki_extensions.specs.BasicConstraints.{basic_constraints_at}
use Rattle.rpki_extensions.specs.Extension.{ExtensionForm, oid_of, SaysBy, Stated, IsAmong}
use Rattle.rpki_extensions.specs.Extension.{MayStand, extension_fields_at, extension_at, stated}
use Rattle.rpki_extensions.specs.Extension.{is_among, may_stand, all_may_stand, standing_at}
use Rattle.rpki_extensions.specs.Extensions.{subject_key_identifier, key_usage, basic_constraints}
use Rattle.rpki_extensions.specs.Extensions.{crl_distribution_points, certificate_policies}
use Rattle.rpki_extensions.specs.Extensions.{authority_key_identifier, extended_key_usage}
use Rattle.rpki_extensions.specs.Extensions.{authority_info_access, subject_info_access}
use Rattle.rpki_extensions.specs.Extensions.{ip_resources, as_resources, other}
use Rattle.rpki_extensions.specs.Extensions.{certificate_extensions}
use Rattle.rpki_extensions.specs.Extensions.{no_access, no_addresses, StatedOr, HasPurposes}
use Rattle.rpki_extensions.specs.Extensions.{AreKeyFacts, AreLocations, AreClaims}
use Rattle.rpki_extensions.specs.Extensions.{AreExtensions, ExtensionsForm}
use Rattle.rpki_extensions.specs.Extensions.{stated_or, has_purposes_at, key_facts_of}
use Rattle.rpki_extensions.specs.Extensions.{locations_of, claims_under, has_other, claims_of_list}
use Rattle.rpki_extensions.specs.Extensions.{said_by_all, extensions_at}
use Rattle.rpki_extensions.specs.KeyIdentifiers.{subject_key_at, authority_key_at}
use Rattle.rpki_extensions.specs.Points.{points_at}
use Rattle.rpki_extensions.specs.Policies.{policies_at}
use Rattle.rpki_extensions.specs.Usage.{key_usage_at}
use Rattle.rpki_extensions.proofs.Resources.{policies-part, ip-claims-part}
use Rattle.rpki_extensions.proofs.Uris.Exact.{points-part, authority-access-part}
use Rattle.rpki_extensions.proofs.Uris.Exact.{subject-access-part}
use Rattle.rpki_extensions.proofs.Values.{subject-key-part, authority-key-part, key-usage-part}
use Rattle.rpki_extensions.proofs.Values.{basic-constraints-part, purposes-part}

-- ---- one extension

pub extension-part : IsPart (is SEQUENCE) nothing extension_at ExtensionForm
unfolding extension_fields_at
extension-part = within SEQUENCE (
    field (λ e. e.oid) oid-part (λ oid.
    field (λ e. e.critical) flag-part (λ critical.
    field (λ e. e.value) (octets-part 32) (λ value.
    done (record { oid = oid; critical = critical; value = value }) (((tt, refl), refl), refl)
    (λ e k i. record { oid = k.0.0.1 i; critical = k.0.1 i; value = k.1 i })) refl) refl) refl)

-- the octets of a value are octets
abbrev pub HasBytes : Extension → Type 0
HasBytes e = IsBytes e.value

value-bytes : (mode : Mode) (o : List ℕ) (e : Extension) → ExtensionForm mode o e → IsBytes o
    → HasBytes e
value-bytes mode o e h bytes =
    let fields : IsBytes h.0 = contents-bytes mode o SEQUENCE h.0 h.1 bytes in
    let a = h.2 in
    let after : IsBytes a.1 = IsBytes-right a.0 a.1 (subst IsBytes a.2 fields) in
    let b = a.4 in
    let last : IsBytes b.1 = IsBytes-right b.0 b.1 (subst IsBytes b.2 after) in
    let c = b.4 in
    string-bytes 32 mode c.0 e.value c.3 (IsBytes-left c.0 c.1 (subst IsBytes c.2 last))

pub values-bytes : (mode : Mode) (o : List ℕ) (list : List Extension) → IsBytes o
    → Items (ExtensionForm mode) o list → All HasBytes list
values-bytes mode o [] bytes h = All-nil HasBytes
values-bytes mode o (e ∷ list) bytes h =
    let all : IsBytes (h.0 ++ h.1) = subst IsBytes h.2 bytes in
    All-cons HasBytes e list
    (value-bytes mode h.0 e h.3 (IsBytes-left h.0 h.1 all))
    (values-bytes mode h.1 list (IsBytes-right h.0 h.1 all) h.4)

-- ---- which extensions may stand

among-decides : (ks : List (List ℕ)) (oid : List ℕ) → Decides (is_among ks oid) (IsAmong ks oid)
among-decides [] oid = ((λ e. absurd cc), λ h. absurd h)
among-decides (k ∷ []) oid = let d = bytes_eq-Decides oid k in (
  (λ e. inl (d.0 e)),
  λ h. elim h [ inl same ↦ d.1 same | inr never ↦ absurd never ],
)
among-decides (k ∷ l ∷ ks) oid =
    Decides-or _ _ (bytes_eq-Decides oid k) (among-decides (l ∷ ks) oid)

abbrev Stands : List (List ℕ) → Extension → Type 0
Stands known e = e.critical ≡ true → IsAmong known (oid_of e)

stands-decides : (known : List (List ℕ)) (e : Extension)
    → Decides (may_stand known e) (Stands known e)
stands-decides known e = of e.critical (among-decides known e.oid)
  where
    of : (t : Bool) → Decides (is_among known e.oid) (IsAmong known e.oid)
        → Decides (not t || is_among known e.oid) (t ≡ true → IsAmong known e.oid)
    of true d = ((λ h _. d.0 h), λ h. d.1 (h refl))
    of false d = ((λ _ never. absurd cc), λ _. refl)

all-stand : (known : List (List ℕ)) (list : List Extension)
    → Decides (list_all (may_stand known) list) (All (Stands known) list)
all-stand known list =
    Decides-by_and (may_stand known) (Stands known) (list_all (may_stand known))
    (stands-decides known) refl (λ _ _. refl) list

stand-decides : (known : List (List ℕ)) (list : List Extension)
    → Decides (all_may_stand known list) (MayStand known list)
stand-decides known list =
    let d = Decides-and _ _ (distinct-decides oid_of list) (all-stand known list) in (
      (λ e. let h = d.0 e in record { distinct = h.0; critical = h.1 }),
      λ h. d.1 (h.distinct, h.critical),
    )

-- extensions that may stand together
abbrev pub AreStanding : List (List ℕ) → Mode → List ℕ → List Extension → Type 0
AreStanding known mode o list = Items (ExtensionForm mode) o list × MayStand known list

pub standing-part : (known : List (List ℕ))
    → IsPart (is SEQUENCE) (is SEQUENCE) (standing_at known) (AreStanding known)
standing-part known =
    pass (all_may_stand known) (items SEQUENCE extension-part) (stand-decides known)

-- ---- what one extension says

must-some : {X : Type 0} (o : Option (Option X)) (x : X) → must o ≡ Some x → o ≡ Some (Some x)
must-some None x e = absurd cc
must-some (Some o) x e = ap (λ (t : _). Some t) e

module _ {X : Type 0} {first : TagSet} {p : Parser X} {G : Mode → List ℕ → X → Type 0}
    (part : IsPart first nothing p G) (oid : List ℕ) (list : List Extension) where
  value-said : IsSaid (λ (e : Extension). front_of p Der e.value) HasBytes (SaysBy G)
  value-said = let u = front-understood part in record {
    sound = λ e x bytes h. u.sound Der e.value x bytes h;
    complete = λ e x h. u.complete Der e.value x h;
  }

  pub reads : All HasBytes list → (o : Option X) → stated oid p list ≡ Some o → Stated list oid G o
  reads bytes o h = said-sound oid_of value-said oid list bytes o h

  pub says : AreDistinct oid_of list → (o : Option X) → Stated list oid G o
      → stated oid p list ≡ Some o
  says once o h = said-complete oid_of value-said oid list once o h

  pub must-read : All HasBytes list → (x : X) → must (stated oid p list) ≡ Some x
      → Stated list oid G (Some x)
  must-read bytes x h = reads bytes (Some x) (must-some _ x h)

  pub must-say : AreDistinct oid_of list → (x : X) → Stated list oid G (Some x)
      → must (stated oid p list) ≡ Some x
  must-say once x h = rw (says once (Some x) h) refl

  or-read : All HasBytes list → (default x : X) → stated_or default oid p list ≡ Some x
      → StatedOr default list oid G x
  or-read bytes default x h =
      let s = bind_some (stated oid p list) _ x h in
      (s.0, reads bytes s.0 s.1, sym (some_is _ _ s.2))

  or-say : AreDistinct oid_of list → (default x : X) → StatedOr default list oid G x
      → stated_or default oid p list ≡ Some x
  or-say once default x h =
      rw (says once h.0 h.1) (ap (λ (t : X). (let o : Option X = Some t in o)) (sym h.2))

-- ---- the key

has-purposes-part : IsPart (is SEQUENCE) nothing has_purposes_at HasPurposes
has-purposes-part = make (λ _. true) purposes-part

key-sound : (list : List Extension) → All HasBytes list → (x : KeyFacts)
    → key_facts_of list ≡ Some x → AreKeyFacts list x
unfolding key_facts_of
key-sound list bytes x h =
    let a = bind_some (must (stated subject_key_identifier subject_key_at list)) _ x h in
    let b = bind_some (stated authority_key_identifier authority_key_at list) _ x a.2 in
    let c = bind_some (stated basic_constraints basic_constraints_at list) _ x b.2 in
    let d = bind_some (must (stated key_usage key_usage_at list)) _ x c.2 in
    let e = bind_some (stated_or false extended_key_usage has_purposes_at list) _ x d.2 in
    let same : (let q : KeyFacts = record {
      subject_key = a.0;
      authority_key = b.0;
      basic_ca = c.0;
      usage = d.0;
      has_purposes = e.0;
    } in q) ≡ x = some_is _ _ e.2 in
    subst (AreKeyFacts list) same (record {
      subject_key = must-read subject-key-part subject_key_identifier list bytes a.0 a.1;
      authority_key = reads authority-key-part authority_key_identifier list bytes b.0 b.1;
      basic_ca = reads basic-constraints-part basic_constraints list bytes c.0 c.1;
      usage = must-read key-usage-part key_usage list bytes d.0 d.1;
      has_purposes = or-read has-purposes-part extended_key_usage list bytes false e.0 e.1;
    })

key-complete : (list : List Extension) → AreDistinct oid_of list → (x : KeyFacts)
    → AreKeyFacts list x → key_facts_of list ≡ Some x
unfolding key_facts_of
key-complete list once x h =
    let a : must (stated subject_key_identifier subject_key_at list) ≡ Some x.subject_key =
    must-say subject-key-part subject_key_identifier list once x.subject_key h.subject_key in
    let b : stated authority_key_identifier authority_key_at list ≡ Some x.authority_key =
    says authority-key-part authority_key_identifier list once x.authority_key h.authority_key in
    let c : stated basic_constraints basic_constraints_at list ≡ Some x.basic_ca =
    says basic-constraints-part basic_constraints list once x.basic_ca h.basic_ca in
    let d : must (stated key_usage key_usage_at list) ≡ Some x.usage =
    must-say key-usage-part key_usage list once x.usage h.usage in
    let e : stated_or false extended_key_usage has_purposes_at list ≡ Some x.has_purposes =
    or-say has-purposes-part extended_key_usage list once false x.has_purposes h.has_purposes in
    rw a (rw b (rw c (rw d (rw e refl))))

-- ---- locations

locations-sound : (list : List Extension) → All HasBytes list → (x : Locations)
    → locations_of list ≡ Some x → AreLocations list x
unfolding locations_of
locations-sound list bytes x h =
    let a = bind_some (stated crl_distribution_points points_at list) _ x h in
    let b = bind_some (stated_or None authority_info_access authority_access_at list) _ x a.2 in
    let c = bind_some (stated_or no_access subject_info_access subject_access_at list) _ x b.2 in
    let same : (let q : Locations = record { crl = a.0; ca_issuer = b.0; subject = c.0 } in
    q) ≡ x = some_is _ _ c.2 in
    subst (AreLocations list) same (record {
      crl = reads points-part crl_distribution_points list bytes a.0 a.1;
      ca_issuer = or-read authority-access-part authority_info_access list bytes None b.0 b.1;
      subject = or-read subject-access-part subject_info_access list bytes no_access c.0 c.1;
    })

locations-complete : (list : List Extension) → AreDistinct oid_of list → (x : Locations)
    → AreLocations list x → locations_of list ≡ Some x
unfolding locations_of
locations-complete list once x h =
    let a : stated crl_distribution_points points_at list ≡ Some x.crl =
    says points-part crl_distribution_points list once x.crl h.crl in
    let b : stated_or None authority_info_access authority_access_at list ≡ Some x.ca_issuer =
    or-say authority-access-part authority_info_access list once None x.ca_issuer h.ca_issuer in
    let c : stated_or no_access subject_info_access subject_access_at list ≡ Some x.subject =
    or-say subject-access-part subject_info_access list once no_access x.subject h.subject in
    rw a (rw b (rw c refl))

-- ---- claims

module _ (oid : List ℕ) where
  abbrev Others : Extension → Type 0
  Others e = ¬ (oid_of e ≡ oid)

  head-other : (t : Bool) (e : Extension) (list : List Extension) → Decides t (e.oid ≡ oid)
      → (t || has_key oid_of oid list) ≡ false
      → (Others e) × (has_key oid_of oid list ≡ false)
  head-other true e list d k = absurd cc
  head-other false e list d k = ((λ same. let both : false ≡ true = d.1 same in cc), k)

  none-sound : (list : List Extension) → has_key oid_of oid list ≡ false → All Others list
  none-sound [] h = All-nil Others
  none-sound (e ∷ list) h =
      let k = head-other (bytes_eq e.oid oid) e list (bytes_eq-Decides e.oid oid) h in
      All-cons Others e list k.0 (none-sound list k.1)

  other-head : (t : Bool) (e : Extension) (list : List Extension) → Decides t (e.oid ≡ oid)
      → Others e → has_key oid_of oid list ≡ false
      → (t || has_key oid_of oid list) ≡ false
  other-head true e list d not_it k = absurd (not_it (d.0 refl))
  other-head false e list d not_it k = k

  none-complete : (list : List Extension) → All Others list → has_key oid_of oid list ≡ false
  none-complete [] h = refl
  none-complete (e ∷ list) h =
      other-head (bytes_eq e.oid oid) e list (bytes_eq-Decides e.oid oid)
      (All-head Others e list h) (none-complete list (All-tail Others e list h))

unless : {A : Type 0} (t : Bool) (f : Option A) (x : A) → cond t None f ≡ Some x
    → (t ≡ false) × (f ≡ Some x)
unless true f x e = absurd cc
unless false f x e = (refl, e)

claims-sound : (list : List Extension) → All HasBytes list → (x : Claims)
    → claims_of_list list ≡ Some x → AreClaims list x
unfolding claims_of_list claims_under
claims-sound list bytes x h =
    let p = bind_some (must (stated certificate_policies policies_at list)) _ x h in
    let g = unless (has_other p.0 list) _ x p.2 in
    let n = or_parts _ _ g.0 in
    let a = bind_some (stated_or no_addresses (ip_resources p.0) ip_claims_at list) _ x g.1 in
    let b = bind_some (stated_or Missing (as_resources p.0) as_identifiers_at list) _ x a.2 in
    let same : (let q : Claims = record { policy = p.0; addresses = a.0; as_numbers = b.0 } in
    q) ≡ x = some_is _ _ b.2 in
    subst (AreClaims list) same (record {
      policy = must-read policies-part certificate_policies list bytes p.0 p.1;
      addresses = or-read ip-claims-part (ip_resources p.0) list bytes no_addresses a.0 a.1;
      as_numbers = or-read as-identifiers-part (as_resources p.0) list bytes Missing b.0 b.1;
      no_other_addresses = none-sound (ip_resources (other p.0)) list n.0;
      no_other_as_numbers = none-sound (as_resources (other p.0)) list n.1;
    })

claims-complete : (list : List Extension) → AreDistinct oid_of list → (x : Claims)
    → AreClaims list x → claims_of_list list ≡ Some x
unfolding claims_of_list claims_under
claims-complete list once x h =
    let p : must (stated certificate_policies policies_at list) ≡ Some x.policy =
    must-say policies-part certificate_policies list once x.policy h.policy in
    let n : has_key oid_of (ip_resources (other x.policy)) list ≡ false =
    none-complete (ip_resources (other x.policy)) list h.no_other_addresses in
    let m : has_key oid_of (as_resources (other x.policy)) list ≡ false =
    none-complete (as_resources (other x.policy)) list h.no_other_as_numbers in
    let a : stated_or no_addresses (ip_resources x.policy) ip_claims_at list ≡ Some x.addresses =
    or-say ip-claims-part (ip_resources x.policy) list once no_addresses x.addresses h.addresses in
    let b : stated_or Missing (as_resources x.policy) as_identifiers_at list ≡ Some x.as_numbers =
    or-say as-identifiers-part (as_resources x.policy) list once Missing x.as_numbers
    h.as_numbers in
    rw p (rw n (rw m (rw a (rw b refl))))

-- ---- all extensions

said-sound-all : (list : List Extension) → All HasBytes list
    → MayStand certificate_extensions list → (x : Extensions) → said_by_all list ≡ Some x
    → AreExtensions list x
unfolding said_by_all
said-sound-all list bytes stand x h =
    let a = bind_some (key_facts_of list) _ x h in
    let b = bind_some (locations_of list) _ x a.2 in
    let c = bind_some (claims_of_list list) _ x b.2 in
    let same : (let q : Extensions = record { key = a.0; locations = b.0; claims = c.0 } in
    q) ≡ x = some_is _ _ c.2 in
    subst (AreExtensions list) same (record {
      stand = stand;
      key = key-sound list bytes a.0 a.1;
      locations = locations-sound list bytes b.0 b.1;
      claims = claims-sound list bytes c.0 c.1;
    })

said-complete-all : (list : List Extension) (x : Extensions) → AreExtensions list x
    → said_by_all list ≡ Some x
unfolding said_by_all
said-complete-all list x h =
    let a : key_facts_of list ≡ Some x.key =
    key-complete list h.stand.distinct x.key h.key in
    let b : locations_of list ≡ Some x.locations =
    locations-complete list h.stand.distinct x.locations h.locations in
    let c : claims_of_list list ≡ Some x.claims =
    claims-complete list h.stand.distinct x.claims h.claims in
    rw a (rw b (rw c refl))

extensions-understood : IsUnderstood (λ _. said_by_all)
    (λ list. All HasBytes list × MayStand certificate_extensions list) (λ _. AreExtensions)
extensions-understood = record {
  sound = λ _ list x known h. said-sound-all list known.0 known.1 x h;
  complete = λ _ list x h. said-complete-all list x h;
  relaxed = λ list x h. h;
}

pub extensions-part : IsPart (is SEQUENCE) nothing extensions_at ExtensionsForm
extensions-part = part-as
    (in-tag SEQUENCE (understand (standing-part certificate_extensions)
    (λ mode o list bytes g. (values-bytes mode o list bytes g.0, g.1)) extensions-understood))
    (λ mode o x h. (h.2.0, (h.0, h.1, h.2.1.0), h.2.2))
    (λ mode o x h. (h.1.0, h.1.1, (h.0, (h.1.2, h.2.stand), h.2)))
