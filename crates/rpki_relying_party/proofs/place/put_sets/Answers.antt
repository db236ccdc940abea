-- The three sets were put.
use Rattle.std.proofs.Common.{ℕ, List, ◌++◌, ◌∙◌, ap}
use Rattle.rpki_resources.specs.declared.block.Block.{Block}
use Rattle.rpki_relying_party.specs.Place.{set_part}
use Rattle.rpki_relying_party.proofs.Keyed.{put-three}
use Rattle.rpki_relying_party.proofs.place.put_sets.Goals as goal

pub returns : goal.returns
returns c =
    let sets = c.args.ca.now.sets in
    let id : ℕ → ℕ = λ n. n in
    put-three c.put_set-3.result c.args.key.now.items c.put_set.new.key.items
    c.put_set-2.new.key.items c.put_set-3.new.key.items (set_part id sets.as_numbers)
    (set_part id sets.v4) (set_part id c.v6_resources.result.now) (set_part id sets.v6)
    (c.in_ok-put_set.ensures
    ∙ ap (λ (xs : List (Block ℕ)). c.args.key.now.items ++ set_part id xs) c.as_resources.ensures)
    (c.in_ok-put_set-2.ensures
    ∙ ap (λ (xs : List (Block ℕ)). c.put_set.new.key.items ++ set_part id xs)
    c.v4_resources.ensures)
    c.put_set-3.ensures
    (ap (λ (xs : List (Block ℕ)). set_part id xs) c.v6_resources.ensures)
