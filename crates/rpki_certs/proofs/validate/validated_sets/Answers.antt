use Rattle.std.proofs.Common.{ℕ, List, [], ◌∷◌}
use Rattle.std.proofs.lemmas.Result.{err_from_is_err_and}
use Rattle.rpki_faults.specs.declared.validation.ValidationError.TheVariants.{Memory}
use Rattle.rpki_resources.specs.declared.block.Block.{Block}
use Rattle.rpki_certs.specs.Validate.{Sets, as_check, v4_check, v6_check}
use Rattle.rpki_certs.proofs.Checking.{front-refuses, later-refuses}
use Rattle.rpki_certs.proofs.validate.validated_sets.Goals as goal

-- the sets of an issuer
abbrev held : List (Block ℕ) → List (Block ℕ) → List (Block ℕ) → Sets
held as_numbers v4 v6 = record { as_numbers = as_numbers; v4 = v4; v6 = v6 }

pub returns-in_err-as_numbers : goal.returns-in_err-as_numbers
returns-in_err-as_numbers c =
    let p = err_from_is_err_and c.from_residual.result c.from_residual.ensures.1 in
    let x = c.args.claims.now in
    let s = held c.issuer.inside.as_numbers c.issuer.inside.v4 c.issuer.inside.v6 in
    rw (p.1, p.2) (rw (← c.issuer.view_is) (front-refuses Memory (as_check x s ∷ [])
    (v4_check x s ∷ v6_check x s ∷ []) _ c.in_err-as_numbers.ensures))

pub returns-in_err-v4 : goal.returns-in_err-v4
returns-in_err-v4 c =
    let r = c.from_residual-in_err-v4 in
    let p = err_from_is_err_and r.result r.ensures.1 in
    let x = c.args.claims.now in
    let s = held c.issuer.inside.as_numbers c.issuer.inside.v4 c.issuer.inside.v6 in
    rw (p.1, p.2) (rw (← c.issuer.view_is) (later-refuses Memory (as_check x s ∷ [])
    (v4_check x s ∷ v6_check x s ∷ []) _ c.in_ok-as_numbers.ensures.0
    (front-refuses Memory (v4_check x s ∷ []) (v6_check x s ∷ []) _ c.in_err-v4.ensures)))

pub returns-in_err-v6 : goal.returns-in_err-v6
returns-in_err-v6 c =
    let r = c.from_residual-in_err-v6 in
    let p = err_from_is_err_and r.result r.ensures.1 in
    let x = c.args.claims.now in
    let s = held c.issuer.inside.as_numbers c.issuer.inside.v4 c.issuer.inside.v6 in
    rw (p.1, p.2) (rw (← c.issuer.view_is) (later-refuses Memory (as_check x s ∷ [])
    (v4_check x s ∷ v6_check x s ∷ []) _ c.in_ok-as_numbers.ensures.0
    (later-refuses Memory (v4_check x s ∷ []) (v6_check x s ∷ []) _ c.in_ok-v4.ensures.0
    c.in_err-v6.ensures)))

pub returns : goal.returns
returns c =
    rw (← c.issuer.view_is) (
      (c.in_ok-as_numbers.ensures.0.0, (c.in_ok-v4.ensures.0.0, (c.in_ok-v6.ensures.0.0, tt))),
      record {
        as_numbers = c.in_ok-as_numbers.ensures.1;
        v4 = c.in_ok-v4.ensures.1;
        v6 = c.in_ok-v6.ensures.1;
      },
    )
