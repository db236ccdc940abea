use Rattle.std.proofs.Common.{◌≡◌, length}
use Rattle.rpki_basics.specs.Identifier.{identifier_length}
use Rattle.rpki_der.proofs.Writing.Pieces.{one_more}
use Rattle.rpki_tagged.proofs.attestation.builder.are_identifiers.Goals as goal

pub loop-key-preserved : goal.loop-key-preserved
loop-key-preserved c =
    one_more (λ id. length id ≡ identifier_length) c.args.keys.now c.loop-key.key-index
    c.key-item.result c.loop-key-test.true c.key-item.is c.loop-key.invariant
    c.as_slice.ensures.len
