-- Policies and claims are read exactly: a line for each field.
use Rattle.std.proofs.Common.{◌≡◌, ℕ, Bool, true, false, cond, List, Some, None, refl}
use Rattle.std.proofs.Common.{subst}
use Rattle.std.specs.Prelude.{Decides}
use Rattle.std.proofs.lemmas.Slice.Eq.{bytes_eq-Decides}
use Rattle.rpki_der.specs.Grammar.{ObjectIdentifier}
use Rattle.rpki_der.specs.Tags.{SEQUENCE, OBJECT_IDENTIFIER}
use Rattle.rpki_der.specs.Form.Law.{nothing, is, IsPart}
use Rattle.rpki_der.specs.Form.Made.{partly}
use Rattle.rpki_der.specs.Form.Parts.{sequence_at}
use Rattle.rpki_der.specs.Read.Parse.{oid_at}
use Rattle.rpki_der.proofs.Form.Fields.{field, fixed, done, within}
use Rattle.rpki_der.proofs.Form.Kinds.{oid-part, rest-part}
use Rattle.rpki_der.proofs.Form.Words.{part-as, make, make-some}
use Rattle.rpki_der.proofs.Reading.Lengths.{some_is}
use Rattle.rpki_faults.specs.declared.overclaim.Overclaim.{Overclaim}
use Rattle.rpki_faults.specs.declared.overclaim.Overclaim.TheVariants.{Refuse, Trim}
use Rattle.rpki_resources.proofs.Claims.{ip-claim-part}
use Rattle.rpki_resources.proofs.Families.ByFamily.{families-part}
use Rattle.rpki_extensions.specs.Addresses.{claims_of, IpClaimsForm, ip_claims_at}
use Rattle.rpki_extensions.specs.Policies.{policy_oid, PolicyForm, PoliciesForm, overclaim_of}
use Rattle.rpki_extensions.specs.Policies.{policy_fields_at, one_policy_at, policies_at}

-- ---- policies

policy-sound : (oid : List ℕ) (t s : Bool) → Decides t (oid ≡ policy_oid Refuse)
    → Decides s (oid ≡ policy_oid Trim) → (x : Overclaim)
    → cond t (Some Refuse) (cond s (Some Trim) None) ≡ Some x → oid ≡ policy_oid x
policy-sound oid true s d e x h =
    subst (λ (y : Overclaim). oid ≡ policy_oid y) (some_is _ _ h) (d.0 refl)
policy-sound oid false true d e x h =
    subst (λ (y : Overclaim). oid ≡ policy_oid y) (some_is _ _ h) (e.0 refl)
policy-sound oid false false d e x h = absurd cc

policy-complete : (x : Overclaim) → overclaim_of (policy_oid x) ≡ Some x
policy-complete Refuse = refl
policy-complete Trim = refl

identifier-part : IsPart (is OBJECT_IDENTIFIER) nothing (partly overclaim_of oid_at)
    (λ mode o x. ObjectIdentifier mode o (policy_oid x))
identifier-part = part-as (make-some overclaim_of oid-part)
    (λ mode o x h.
    let same : h.0 ≡ policy_oid x = policy-sound h.0 _ _ (bytes_eq-Decides h.0 (policy_oid Refuse))
    (bytes_eq-Decides h.0 (policy_oid Trim)) x h.2 in
    subst (λ (t : List ℕ). ObjectIdentifier mode o t) same h.1)
    (λ mode o x h. (policy_oid x, h, policy-complete x))

policy-part : IsPart (is SEQUENCE) nothing (sequence_at policy_fields_at) PolicyForm
unfolding policy_fields_at
policy-part = within SEQUENCE (
    field (λ x. x) identifier-part (λ x.
    fixed rest-part (
    done x (tt, refl) (λ z k. k.1)) refl) refl)

pub policies-part : IsPart (is SEQUENCE) nothing policies_at PoliciesForm
unfolding one_policy_at
policies-part = within SEQUENCE (
    field (λ x. x) policy-part (λ x.
    done x (tt, refl) (λ z k. k.1)) refl)

-- ---- claims of addresses

pub ip-claims-part : IsPart (is SEQUENCE) nothing ip_claims_at IpClaimsForm
ip-claims-part = make claims_of (families-part ip-claim-part)
