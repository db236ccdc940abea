use Rattle.std.proofs.Common.{◌≡◌, true, false, Bool, [], refl}
use Rattle.rpki_resources.proofs.Sets.Same.{same_blocks}
use Rattle.rpki_resources.specs.Blocks.{holds}
use Rattle.rpki_resources.proofs.laws.sets.covered_by_the_empty_set.Goals as goal

-- a number that is in no set where it is in this one
not-held : (b : Bool) → (b ≡ true → false ≡ true) → b ≡ false
not-held true h = (cc (h refl))
not-held false h = refl

pub returns : goal.returns
returns g c = λ a r h.
    same_blocks g.T.Number.number g.met.T.Number.exact 0 0 a [] r tt
    (λ n. not-held (holds g.T.Number.number a n) (h n))
