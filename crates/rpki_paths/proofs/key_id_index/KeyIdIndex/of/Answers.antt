-- Each identifier is put to the places that it had.
use Rattle.std.proofs.Common.{◌≡◌, [], ◌∷◌, ◌++◌, length, ap, ◌∙◌, subst, arith}
use Rattle.std.proofs.lemmas.Option.{slice_get-get_or}
use Rattle.rpki_paths.specs.Index.{listed}
use Rattle.rpki_paths.proofs.Indexing.{IsScan, indexed-more, named-from-scan}
use Rattle.rpki_paths.proofs.key_id_index.KeyIdIndex.of.Goals as goal

pub loop-i-preserved : goal.loop-i-preserved
loop-i-preserved c =
    indexed-more c.args.ids.now c.loop-i.map c.removed-places.new.map
    c.insert.new.self _ c.loop-i.i c.push.new.self c.loop-i.invariant
    (slice_get-get_or c.args.ids.now c.loop-i.i [] c.loop-i-test.true)
    c.removed-places.ensures.others c.in_ok-insert.ensures.updates.0
    (c.in_ok-push.ensures.items ∙ ap (λ l. l ++ c.loop-i.i ∷ []) c.removed-places.ensures.places)

pub returns : goal.returns
returns c =
    let ids = c.args.ids.now in
    let end : c.loop-i.i ≡ length ids = omega arith in
    λ id. named-from-scan ids id (listed c.loop-i.map id)
    (subst (λ n. IsScan ids id 0 n (listed c.loop-i.map id)) end (c.loop-i.invariant id))
