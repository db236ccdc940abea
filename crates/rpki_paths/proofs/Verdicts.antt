-- With distinct identifiers few verdicts are asked.
use Rattle.std.proofs.Common.{◌≡◌, ℕ, suc, ◌*◌, List, [], ◌∷◌, length, refl, sym, ap, ◌∙◌, arith}
use Rattle.std.proofs.lemmas.List.{length-map}
use Rattle.rpki_paths.specs.Cert.{Cert}
use Rattle.rpki_paths.specs.Pairing.{IsPairing, IsVerifiedBy, HasCrl}
use Rattle.rpki_paths.specs.Grant.{authorities}
use Rattle.rpki_paths.specs.Laws.{VerdictsAreFew}
use Rattle.rpki_paths.proofs.Costs.{matching_is_cheap}
use Rattle.rpki_paths.proofs.Grants.{same-skis}
use Rattle.rpki_paths.proofs.Granting.{distinct-authorities}
use Rattle.rpki_paths.proofs.PairingOff.{pairing-length}

pub partners-length : {A B : Type 0} (R : A → B → Type 0) (xs : List A) (ps ys : List B)
    → IsPairing R xs ps ys → length ps ≡ length xs
partners-length R [] [] ys h = refl
partners-length R [] (p ∷ ps) ys h = absurd h
partners-length R (x ∷ xs) [] ys h = absurd h
partners-length R (x ∷ xs) (p ∷ ps) ys h = ap suc (partners-length R xs ps h.1.0 h.1.2)

pub verdicts_are_few : VerdictsAreFew
verdicts_are_few a ees crls none listed signed walked dist m of_crls of_signers of_walks =
    let cheap = matching_is_cheap a ees crls dist m in
    let steps = of_walks (distinct-authorities a crls dist m.crl_of) in
    let many : length (authorities a crls) ≡ length a.cas =
    sym (length-map (authorities a crls) (λ (c : Cert). c.ski))
    ∙ ap (λ (l : List (List ℕ)). length l) (same-skis 1 a.cas crls a.crls m.crl_of)
    ∙ length-map a.cas (λ (c : Cert). c.ski) in
    let each : length ees * length (authorities a crls) ≡ length a.signers * length a.cas =
    ap (λ n. n * length (authorities a crls))
    (partners-length IsVerifiedBy a.signers ees a.ees m.signed)
    ∙ ap (λ n. length a.signers * n) many in
    omega (
      arith,
      of_signers cheap.0,
      of_crls cheap.1,
      steps,
      each,
      pairing-length HasCrl a.cas crls a.crls m.crl_of,
    )
