use Rattle.std.proofs.Common.{◌≡◌, ap, ◌∙◌, ℕ, List, [], ◌∷◌, subst}
use Rattle.rpki_resources.specs.declared.block.Block.{Block}
use Rattle.rpki_resources.specs.declared.resources.Claim.{Claim}
use Rattle.rpki_resources.specs.declared.resources.Claim.TheVariants.{Explicit}
use Rattle.rpki_routes.specs.Aspa.{Aspa}
use Rattle.rpki_routes.proofs.Attestations.Claims.{one-number}
use Rattle.rpki_routes.proofs.aspa.AsProviderAttestation.as_resources.Goals as goal

abbrev claim : List (Block ℕ) → Claim (List (Block ℕ))
claim set = Explicit set

pub returns : goal.returns
returns c =
    subst (λ (a : Aspa). c.explicit.result
    ≡ claim (record { min = a.customer; max = a.customer } ∷ [])) c.self.view_is
    (c.explicit.ensures ∙ ap claim
    (one-number c.self.inside.customer _ _ _ c.new-blocks.ensures c.in_ok-push.ensures.ok
    c.in_ok-finalize.ensures.numbers c.in_ok-finalize.ensures.canonical))
