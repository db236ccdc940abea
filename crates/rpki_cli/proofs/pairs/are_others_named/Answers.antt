use Rattle.rpki_cli.specs.Words.{texts}
use Rattle.rpki_cli.proofs.Tail.{named-by-pairs, unnamed-chain}
use Rattle.rpki_cli.proofs.pairs.are_others_named.Goals as goal

pub returns-then-all_named : goal.returns-then-all_named
returns-then-all_named c =
    named-by-pairs c.cut_at_with.result.0.now c.cut_at_with.result.1.now (texts c.args.tail.now) c.all_named.result c.cut_at_with.ensures.chain
    c.all_named.ensures c.are_paths_named.result c.cut_at_with.ensures.pairs
    c.are_paths_named.ensures c.if-all_named.true

pub returns-else-all_named : goal.returns-else-all_named
returns-else-all_named c =
    unnamed-chain c.cut_at_with.result.0.now c.cut_at_with.result.1.now (texts c.args.tail.now) c.all_named.result c.cut_at_with.ensures.chain
    c.all_named.ensures c.if-all_named.false
