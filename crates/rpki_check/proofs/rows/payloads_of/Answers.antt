use Rattle.rpki_check.specs.Rows.{payload_of}
use Rattle.rpki_check.proofs.Steps.{pushed}
use Rattle.rpki_check.proofs.rows.payloads_of.Goals as goal

pub loop-address-preserved : goal.loop-address-preserved
loop-address-preserved c =
    pushed (payload_of c.into_u32-asn.result) c.loop-address.rows.items _ _ _ _ _ _
    c.in_ok-push.ensures.items c.payload_of.ensures c.in-Some.ensures.steps
    c.loop-address.invariant
