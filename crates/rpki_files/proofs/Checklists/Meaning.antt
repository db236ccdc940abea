-- What the checks of a checklist mean.
use Rattle.std.proofs.Common.{◌≡◌, inl, inr, ℕ, List, Bool, true, false, refl, subst, sym, ◌∙◌}
use Rattle.std.specs.Prelude.{◌↔◌, ◌&&◌}
use Rattle.rpki_resources.specs.declared.block.Block.{Block}
use Rattle.rpki_resources.specs.declared.resources.Claim.{Claim}
use Rattle.rpki_resources.specs.declared.resources.Claim.TheVariants.{Missing, Inherit, Explicit}
use Rattle.rpki_resources.specs.Blocks.{Covers, Holds, holds, IsCanonical}
use Rattle.rpki_resources.specs.Claim.{IsCoveredBy}
use Rattle.rpki_faults.specs.Checks.{AllHold}
use Rattle.rpki_faults.specs.Validated.{IsValidated, IsLeft}
use Rattle.rpki_faults.specs.declared.overclaim.Overclaim.{Overclaim}
use Rattle.rpki_faults.specs.declared.overclaim.Overclaim.TheVariants.{Refuse, Trim}
use Rattle.rpki_faults.proofs.Order.{hold-shown, hold-hidden}
use Rattle.rpki_extensions.specs.declared.claims.Claims.{Claims}
use Rattle.rpki_certs.specs.Validate.{Sets, AreValidated, AreHeld}
use Rattle.rpki_files.specs.Checklist.{Checklist}
use Rattle.rpki_files.specs.Checklist.Checks.{checklist_claimed, checklist_held, checklist_sets}
use Rattle.rpki_files.specs.Checklist.Checks.{AreCanonical, checklist_kind}
use Rattle.rpki_faults.specs.declared.validation.ValidationError.TheVariants.{Inspection}
use Rattle.rpki_faults.specs.declared.validation.ValidationError.TheVariants.{Verification}
use Rattle.rpki_sigobj.specs.Signed.Good.{Means}
use Rattle.rpki_sigobj.proofs.Wholes.Numbers.{same-numbers, empty-of}

and-left : (x y : Bool) → (x && y) ≡ true → x ≡ true
and-left true y e = refl
and-left false y e = e

-- what is left of a claim lies in it
left-claimed : (policy : Overclaim) (named issuer set : List (Block ℕ))
    → IsLeft (λ (n : ℕ). n) policy named issuer set → Covers (λ (n : ℕ). n) named set
left-claimed Refuse named issuer set h n k =
    subst (λ (s : List (Block ℕ)). Holds (λ (n : ℕ). n) s n) h k
left-claimed Trim named issuer set h n k =
    and-left (holds (λ (n : ℕ). n) named n) (holds (λ (n : ℕ). n) issuer n) (sym (h n) ∙ k)

-- what is validated was claimed
claimed-held : (policy : Overclaim) (claim : Claim (List (Block ℕ)))
    (issuer set mine : List (Block ℕ)) → IsValidated (λ (n : ℕ). n) policy claim issuer set
    → IsCanonical (λ (n : ℕ). n) mine → Covers (λ (n : ℕ). n) set mine
    → IsCoveredBy (λ (n : ℕ). n) claim mine
claimed-held policy Missing issuer set mine (inl v) c h = absurd (let e = v.0 in cc)
claimed-held policy Missing issuer set mine (inr v) c h = empty-of mine c (λ n k.
    let never = left-claimed policy v.0 issuer set v.2 n (h n k) in
    absurd (let none : false ≡ true =
    subst (λ (s : List (Block ℕ)). Holds (λ (n : ℕ). n) s n) v.1 never in cc))
claimed-held policy Inherit issuer set mine v c h = tt
claimed-held policy (Explicit blocks) issuer set mine (inl v) c h = absurd (let e = v.0 in cc)
claimed-held policy (Explicit blocks) issuer set mine (inr v) c h = λ n k.
    subst (λ (s : List (Block ℕ)). Holds (λ (n : ℕ). n) s n) v.1
    (left-claimed policy v.0 issuer set v.2 n (h n k))

pub checklist-covered : (l : Checklist) (x : Claims) (issuer sets : Sets) → AreCanonical l
    → AreValidated x issuer sets
    → (AllHold (checklist_claimed l x) × AllHold (checklist_held l sets))
    ↔ AreHeld sets (checklist_sets l)
checklist-covered l x issuer sets c v = (
  λ h. h.1.0,
  λ h. (
    (
      claimed-held x.policy x.as_numbers issuer.as_numbers sets.as_numbers l.as_resources
          v.as_numbers c.as_numbers h.as_numbers,
      (
        claimed-held x.policy x.addresses.v4 issuer.v4 sets.v4 l.v4_resources v.v4 c.v4 h.v4,
        (
          claimed-held x.policy x.addresses.v6 issuer.v6 sets.v6 l.v6_resources v.v6 c.v6 h.v6,
          tt,
        ),
      ),
    ),
    (h, tt),
  ),
)

pub checklist-means : (l : Checklist) → AreCanonical l → Means checklist_kind l
checklist-means l is = record {
  checks = λ c issuer sets v. let covered = checklist-covered l c issuer sets is v in (
    λ h. covered.0 (
      hold-hidden Inspection (checklist_claimed l c) h.0,
      hold-hidden Verification (checklist_held l sets) h.1,
    ),
    λ h. let r = covered.1 h in (
      hold-shown Inspection (checklist_claimed l c) r.0,
      hold-shown Verification (checklist_held l sets) r.1,
    ),
  );
  same = λ c issuer a b v w h. record {
    as_numbers = λ n i. same-numbers c.policy c.as_numbers issuer.as_numbers a.as_numbers
        b.as_numbers v.as_numbers w.as_numbers n (h.as_numbers n i);
    v4 = λ n i. same-numbers c.policy c.addresses.v4 issuer.v4 a.v4 b.v4 v.v4 w.v4 n (h.v4 n i);
    v6 = λ n i. same-numbers c.policy c.addresses.v6 issuer.v6 a.v6 b.v6 v.v6 w.v6 n (h.v6 n i);
  };
}
