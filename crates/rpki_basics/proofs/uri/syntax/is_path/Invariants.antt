use Rattle.std.proofs.Common.{◌≡◌, length}
use Rattle.rpki_basics.specs.Segments.{segments}
use Rattle.rpki_basics.specs.Uri.Tests.{is_path}
use Rattle.rpki_basics.proofs.uri.syntax.is_path.Given as goal

abbrev pub invariant-segments : goal.invariant-segments
invariant-segments l = is_path (segments l.rest) ≡ is_path (segments l.fn.text)

abbrev pub decreases-segments : goal.decreases-segments
decreases-segments l = length l.rest
