use Rattle.std.proofs.Common.{length}
use Rattle.rpki_tal.proofs.LineFacts.{AfterComments}
use Rattle.rpki_tal.proofs.text.skip_comments.Given as goal

abbrev pub invariant-comments : goal.invariant-comments
invariant-comments l = AfterComments l.fn.text l.rest

abbrev pub decreases-comments : goal.decreases-comments
decreases-comments l = length l.rest
