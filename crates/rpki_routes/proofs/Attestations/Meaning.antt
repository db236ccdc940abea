-- What the checks of an ASPA mean.
use Rattle.std.proofs.Common.{◌≡◌, inl, ℕ, List, [], ◌∷◌, refl, subst, sym, arith, Result, Ok, Err}
use Rattle.std.specs.Prelude.{◌↔◌}
use Rattle.std.proofs.lemmas.List.Elements.{All-nil, All-cons, All-head}
use Rattle.rpki_resources.specs.declared.block.Block.{Block}
use Rattle.rpki_resources.specs.declared.resources.Claim.{Claim}
use Rattle.rpki_resources.specs.declared.resources.Claim.TheVariants.{Missing, Inherit, Explicit}
use Rattle.rpki_resources.specs.As.Form.{only}
use Rattle.rpki_faults.specs.Checks.{AllHold, AnswersFirstFault}
use Rattle.rpki_faults.proofs.Order.{hold-split, hold-join, hold-shown, hold-hidden}
use Rattle.rpki_extensions.specs.declared.claims.Claims.{Claims}
use Rattle.rpki_certs.specs.Validate.{Sets}
use Rattle.rpki_routes.specs.Aspa.{Aspa}
use Rattle.rpki_routes.specs.Aspa.Checks.{block_checks, number_checks, address_checks, aspa_claimed}
use Rattle.rpki_routes.specs.Aspa.Checks.{aspa_held, AspaCovered, aspa_kind}
use Rattle.rpki_faults.specs.declared.validation.ValidationError.TheVariants.{Verification}
use Rattle.rpki_sigobj.specs.Signed.Good.{Means}
use Rattle.rpki_faults.specs.declared.verification.VerificationError.{VerificationError}
use Rattle.rpki_sigobj.proofs.Wholes.Numbers.{same-numbers}

-- numbers that are claimed are neither missing nor inherited
pub explicit-first : (customer : ℕ) (claim : Claim (List (Block ℕ))) (set : List (Block ℕ))
    → claim ≡ Explicit set → (r : Result (Unit {0}) VerificationError)
    → AnswersFirstFault (block_checks customer set) r
    → AnswersFirstFault (number_checks customer claim) r
explicit-first customer claim set e r h =
    subst (λ (c : Claim (List (Block ℕ))). AnswersFirstFault (number_checks customer c) r) (sym e)
    (of r h)
  where
    of : (r : Result (Unit {0}) VerificationError) → AnswersFirstFault (block_checks customer set) r
        → AnswersFirstFault (number_checks customer (Explicit set)) r
    of (Ok done) h = ((λ e. absurd cc), ((λ e. absurd cc), h))
    of (Err fault) h = inl ((λ e. absurd cc), inl ((λ e. absurd cc), h))

same-block : (b : Block ℕ) (n : ℕ) → b.min ≡ b.max → b.min ≡ n → b ≡ only n
same-block b n e f = rw (← f) (rw e refl)

-- one block that is the customer
one-block : (n : ℕ) (blocks : List (Block ℕ)) → AllHold (block_checks n blocks)
    → blocks ≡ only n ∷ []
one-block n [] h = absurd (h.0 refl)
one-block n (b ∷ []) h =
    let e = All-head (λ (b : Block ℕ). b.min ≡ b.max) b [] h.1.1.0 in
    let f = All-head (λ (b : Block ℕ). b.min ≡ n) b [] h.1.1.1.0 in
    rw (same-block b n e f) refl
one-block n (b ∷ (c ∷ bs)) h = absurd (let l = h.1.0 in omega (arith, l))

one-number : (n : ℕ) (claim : Claim (List (Block ℕ))) → AllHold (number_checks n claim)
    → claim ≡ Explicit (only n ∷ [])
one-number n Missing h = absurd (h.0 refl)
one-number n Inherit h = absurd (h.1.0 refl)
one-number n (Explicit blocks) h = rw (one-block n blocks h.1.1) refl

pub claimed-number : (n : ℕ) → AllHold (number_checks n (Explicit (only n ∷ [])))
claimed-number n = (
  λ e. absurd cc,
  (
    λ e. absurd cc,
    (
      λ e. absurd cc,
      (
        omega arith,
        (
          All-cons (λ (b : Block ℕ). b.min ≡ b.max) (only n) [] refl (All-nil _),
          (All-cons (λ (b : Block ℕ). b.min ≡ n) (only n) [] refl (All-nil _), tt),
        ),
      ),
    ),
  ),
)

pub aspa-covered : (a : Aspa) (x : Claims) (sets : Sets)
    → (AllHold (aspa_claimed a x) × AllHold (aspa_held a sets)) ↔ AspaCovered a x sets
aspa-covered a x sets = (
  λ h. let s = hold-split (number_checks a.customer x.as_numbers) (address_checks x) h.0 in
      record {
        customer = one-number a.customer x.as_numbers s.0;
        v4 = s.1.0.0;
        v6 = s.1.0.1;
        held = h.1.0;
      },
  λ h. (
    hold-join (number_checks a.customer x.as_numbers) (address_checks x) (
      subst (λ (c : Claim (List (Block ℕ))). AllHold (number_checks a.customer c))
          (sym h.customer) (claimed-number a.customer),
      ((h.v4, h.v6), tt),
    ),
    (h.held, tt),
  ),
)

pub aspa-means : (a : Aspa) → Means aspa_kind a
aspa-means x = record {
  checks = λ c issuer sets v. let covered = aspa-covered x c sets in (
    λ h. covered.0 (
      hold-hidden Verification (aspa_claimed x c) h.0,
      hold-hidden Verification (aspa_held x sets) h.1,
    ),
    λ h. let r = covered.1 h in (
      hold-shown Verification (aspa_claimed x c) r.0,
      hold-shown Verification (aspa_held x sets) r.1,
    ),
  );
  same = λ c issuer a b v w h. record {
    customer = h.customer;
    v4 = h.v4;
    v6 = h.v6;
    held = λ n i. same-numbers c.policy c.as_numbers issuer.as_numbers a.as_numbers b.as_numbers
        v.as_numbers w.as_numbers n (h.held n i);
  };
}
