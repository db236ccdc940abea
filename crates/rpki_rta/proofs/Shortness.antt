-- How many CAs a path has.
use Rattle.std.proofs.Common.{◌≡◌, ◌≤◌, ◌+◌, ℕ, List, [], ◌∷◌, length, inl, inr, sym, ap, ◌∙◌}
use Rattle.std.proofs.Common.{subst, arith}
use Rattle.std.proofs.lemmas.List.{length-map}
use Rattle.rpki_paths.specs.Cert.{Cert, IsIn, at_place}
use Rattle.rpki_paths.specs.Grant.{ArePaths, authorities}
use Rattle.rpki_paths.specs.Pairing.{Carried, Crl, HasCrl, IsPairing}
use Rattle.rpki_paths.proofs.Chains.{short}
use Rattle.rpki_paths.proofs.Grants.{same-skis}
use Rattle.rpki_rta.specs.Granted.{carried_by}
use Rattle.rpki_rta.specs.Laws.{AcceptedPathsAreShort}

-- as many CAs with their lists as CAs
as-many : (a : Carried) (crls : List Crl) → IsPairing HasCrl a.cas crls a.crls
    → length (authorities a crls) ≡ length a.cas
as-many a crls h =
    sym (length-map (authorities a crls) (λ (c : Cert). c.ski))
    ∙ ap (λ (l : List (List ℕ)). length l) (same-skis 1 a.cas crls a.crls h)
    ∙ length-map a.cas (λ (c : Cert). c.ski)

-- each of these paths has its end entity and at most as many CAs as there are
each-short : (cas ees : List Cert) (paths : List (List Cert)) → ArePaths cas ees paths
    → (p : List Cert) → IsIn p paths → length p ≤ 1 + length cas
each-short cas [] [] h p i = absurd i
each-short cas [] (q ∷ paths) h p i = absurd h
each-short cas (e ∷ ees) [] h p i = absurd h
each-short cas (e ∷ ees) (q ∷ paths) h p (inl f) =
    subst (λ (l : List Cert). length l ≤ 1 + length cas) (sym f)
    (short cas (at_place 0 e) q h.0.chain)
each-short cas (e ∷ ees) (q ∷ paths) h p (inr i) = each-short cas ees paths h.2 p i

pub accepted_paths_are_short : AcceptedPathsAreShort
accepted_paths_are_short digest verdict now r a p i =
    let carried = carried_by digest verdict r in
    let found = a.accepted.found in
    omega (
      arith,
      each-short (authorities carried found.crls) found.ees a.paths found.stand p i,
      as-many carried found.crls found.matching.crl_of,
    )
