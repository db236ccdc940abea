use Rattle.std.proofs.Common.{sym, ap, ◌∙◌}
use Rattle.rpki_basics.specs.Uri.Tests.{is_path}
use Rattle.rpki_basics.proofs.Uris.Tests.{path-empty}
use Rattle.rpki_basics.proofs.uri.syntax.is_path.Goals as goal

pub returns-then-is_empty : goal.returns-then-is_empty
returns-then-is_empty c =
    sym (path-empty c.split_segment.result.0.now c.in-Some.more.now
    (sym c.is_empty.ensures ∙ c.if-is_empty.true))
    ∙ ap is_path (sym (rw c.in-Some.is at c.split_segment.ensures.segments)) ∙ c.segments.invariant
