use Rattle.std.proofs.Common.{◌≡◌, ◌++◌, ◌∷◌, [], Bool, Ok, Err, subst, rules}
use Rattle.rpki_command.specs.Anchors.{MakesOf}
use Rattle.rpki_command.proofs.Making.{one-made, one-unmade, own-some}
use Rattle.rpki_command.proofs.anchors.anchors_of.Goals as goal

pub anchor_of-requires-clause-some : goal.anchor_of-requires-clause-some
anchor_of-requires-clause-some g c =
    own-some c.args.words.now c.args.files.now c.loop-word.word-index _ _
    c.split_at.result.1.now c.loop-word.invariant.done _ c.count_of.result
    c.loop-word.invariant.is_cut c.loop-word-test.true c.count_of.ensures
    c.split_at.ensures.front c.split_at.ensures.back

pub returns-in-Err : goal.returns-in-Err
returns-in-Err g c =
    one-unmade (g.K.Crypto.is_signed c.args.crypto.now) c.args.now
    c.args.words.now c.args.files.now c.loop-word.word-index _ _ c.split_at.result.1.now
    c.loop-word.anchors.items _ c.count_of.result c.loop-word.invariant c.loop-word-test.true
    c.count_of.ensures c.split_at.ensures.front c.split_at.ensures.back
    c.in-Err.error
    (subst (λ (b : Bool). MakesOf (g.K.Crypto.is_signed c.args.crypto.now) c.args.now b
    c.split_at.result.0.now (Err c.in-Err.error)) c.is_locator.ensures
    c.in-Err.ensures)

pub loop-word-preserved : goal.loop-word-preserved
loop-word-preserved g c =
    let items : c.push.new.self.items ≡ c.loop-word.anchors.items ++ c.in-Ok.anchor ∷ [] =
    search rules in
    rw items
    (one-made (g.K.Crypto.is_signed c.args.crypto.now) c.args.now
    c.args.words.now c.args.files.now c.loop-word.word-index _ _ c.split_at.result.1.now
    c.loop-word.anchors.items _ c.count_of.result c.loop-word.invariant c.loop-word-test.true
    c.count_of.ensures c.split_at.ensures.front c.split_at.ensures.back
    c.in-Ok.anchor
    (subst (λ (b : Bool). MakesOf (g.K.Crypto.is_signed c.args.crypto.now) c.args.now b
    c.split_at.result.0.now (Ok c.in-Ok.anchor)) c.is_locator.ensures
    c.in-Ok.ensures))
