use Rattle.std.proofs.Common.{◌≡◌, ◌≤◌, List, ◌++◌, All, Bool, true, false, subst, sym}
use Rattle.std.specs.Prelude.{if◌then◌else◌}
use Rattle.std.proofs.lemmas.List.Elements.{All-append}
use Rattle.rpki_resources.specs.Blocks.{IsCanonical}
use Rattle.rpki_resources.proofs.Sets.Rises.{rises-valid}
use Rattle.rpki_resources.proofs.blocks.BlocksBuilder.push_set.Goals as goal

-- each of those that are there after others may have been added
all-extended : {X : Type 0} (P : X → Type 0) (xs ys zs : List X) (added : Bool) →
    zs ≡ (if added then xs ++ ys else xs) → All P xs → All P ys → All P zs
all-extended P xs ys zs true e h k = subst (λ bs. All P bs) (sym e) (All-append P xs ys h k)
all-extended P xs ys zs false e h k = subst (λ bs. All P bs) (sym e) h

pub invariant_of-self : goal.invariant_of-self
invariant_of-self g c =
    let f = g.T.Number.number in
    all-extended (λ b. f b.min ≤ f b.max) c.self.inside.items.items c.as_slice.result.now
    c.extend_from_slice.new.self.items _ c.extend_from_slice.ensures.items c.self.invariant
    (rises-valid f 0 c.as_slice.result.now
    (subst (λ bs. IsCanonical f bs)
    (sym c.as_slice.ensures.blocks) c.as_slice.ensures.canonical))
