-- Validated sets of one claim have the same numbers; and a set without numbers.
use Rattle.std.proofs.Common.{◌≡◌, inl, inr, ℕ, List, [], ◌∷◌, refl, subst, sym, ◌∙◌, arith}
use Rattle.std.proofs.lemmas.Bool.{or_left}
use Rattle.rpki_resources.specs.declared.block.Block.{Block}
use Rattle.rpki_resources.specs.declared.resources.Claim.{Claim}
use Rattle.rpki_resources.specs.declared.resources.Claim.TheVariants.{Missing, Inherit, Explicit}
use Rattle.rpki_resources.specs.Blocks.{Covers, Holds, holds, is_between, IsCanonical}
use Rattle.rpki_resources.specs.Claim.{HasBlocks}
use Rattle.rpki_resources.proofs.Sets.Between.{between-in}
use Rattle.rpki_faults.specs.Validated.{IsValidated, IsLeft}
use Rattle.rpki_faults.specs.declared.overclaim.Overclaim.{Overclaim}
use Rattle.rpki_faults.specs.declared.overclaim.Overclaim.TheVariants.{Refuse, Trim}

left-same : (policy : Overclaim) (named issuer a b : List (Block ℕ))
    → IsLeft (λ (n : ℕ). n) policy named issuer a → IsLeft (λ (n : ℕ). n) policy named issuer b
    → Covers (λ (n : ℕ). n) b a
left-same Refuse named issuer a b h k n i =
    subst (λ (s : List (Block ℕ)). Holds (λ (n : ℕ). n) s n) (h ∙ sym k) i
left-same Trim named issuer a b h k n i = k n ∙ (sym (h n) ∙ i)

one-named : (claim : Claim (List (Block ℕ))) (a b : List (Block ℕ)) → HasBlocks claim a
    → HasBlocks claim b → a ≡ b
one-named Missing a b h k = h ∙ sym k
one-named Inherit a b h k = absurd h
one-named (Explicit blocks) a b h k = h ∙ sym k

not-inherited : (claim : Claim (List (Block ℕ))) (a : List (Block ℕ)) → claim ≡ Inherit
    → HasBlocks claim a → ⊥
not-inherited Missing a e h = absurd cc
not-inherited Inherit a e h = h
not-inherited (Explicit blocks) a e h = absurd cc

pub same-numbers : (policy : Overclaim) (claim : Claim (List (Block ℕ)))
    (issuer a b : List (Block ℕ)) → IsValidated (λ (n : ℕ). n) policy claim issuer a
    → IsValidated (λ (n : ℕ). n) policy claim issuer b → Covers (λ (n : ℕ). n) b a
same-numbers policy claim issuer a b (inl h) (inl k) n i =
    subst (λ (s : List (Block ℕ)). Holds (λ (n : ℕ). n) s n) (h.1 ∙ sym k.1) i
same-numbers policy claim issuer a b (inl h) (inr k) n i =
    absurd (not-inherited claim k.0 h.0 k.1)
same-numbers policy claim issuer a b (inr h) (inl k) n i =
    absurd (not-inherited claim h.0 k.0 h.1)
same-numbers policy claim issuer a b (inr h) (inr k) n i =
    left-same policy k.0 issuer a b
    (subst (λ (s : List (Block ℕ)). IsLeft (λ (n : ℕ). n) policy s issuer a)
    (one-named claim h.0 k.0 h.1 k.1) h.2) k.2 n i

-- a canonical set without numbers is empty
pub empty-of : (set : List (Block ℕ)) → IsCanonical (λ (n : ℕ). n) set
    → ((n : ℕ) → Holds (λ (n : ℕ). n) set n → ⊥) → set ≡ []
empty-of [] c h = refl
empty-of (b ∷ bs) c h = absurd (h b.min (or_left (is_between b.min b.max b.min)
    (holds (λ (n : ℕ). n) bs b.min)
    (between-in b.min b.max b.min (omega arith) c.1)))
