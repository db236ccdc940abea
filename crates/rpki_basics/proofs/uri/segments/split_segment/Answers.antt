use Rattle.std.proofs.Common.{refl}
use Rattle.std.proofs.lemmas.List.{take_rest}
use Rattle.rpki_basics.proofs.Uris.Segments.{segment-none, segment-more, segment-found}
use Rattle.rpki_basics.proofs.Uris.Segments.{segment-last}
use Rattle.rpki_basics.proofs.uri.segments.split_segment.Goals as goal

pub octets-init : goal.octets-init
octets-init c = segment-none c.args.text.now

pub returns-then-text-i-eq47-clause-segments : goal.returns-then-text-i-eq47-clause-segments
returns-then-text-i-eq47-clause-segments c =
    rw take_rest (segment-found c.args.text.now c.octets.i _ c.octets-test.true refl
    c.if-text-i-eq47.true c.octets.invariant)

pub octets-preserved : goal.octets-preserved
octets-preserved c = segment-more c.args.text.now c.octets.i _ c.octets-test.true refl
    c.if-text-i-eq47.false c.octets.invariant

pub returns-clause-segments : goal.returns-clause-segments
returns-clause-segments c =
    segment-last c.args.text.now c.octets.i c.octets-test.false c.octets.invariant
