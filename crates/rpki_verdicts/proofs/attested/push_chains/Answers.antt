use Rattle.rpki_verdicts.proofs.Carrying.{chain-pushed, chain-refused}
use Rattle.rpki_verdicts.proofs.attested.push_chains.Goals as goal

pub returns-in-Err : goal.returns-in-Err
returns-in-Err g c =
    chain-refused _ c.args.chains.now c.loop-chain.chain-index _ _ _ c.loop-chain.invariant
    c.chain-item.result c.loop-chain-test.true c.chain-item.is c.in-Err.error c.in-Err.ensures

pub loop-chain-preserved : goal.loop-chain-preserved
loop-chain-preserved g c =
    chain-pushed _ c.args.chains.now c.loop-chain.chain-index _ _ _ c.loop-chain.invariant
    c.chain-item.result c.loop-chain-test.true c.chain-item.is _ _ c.in-Ok.ensures
