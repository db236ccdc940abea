use Rattle.std.proofs.Common.{ap, subst, ◌∙◌}
use Rattle.rpki_basics.specs.Uri.{IsRsync, join_text}
use Rattle.rpki_basics.proofs.Uris.Tests.{joined-of}
use Rattle.rpki_basics.proofs.uri.Rsync.join.Goals as goal

pub returns : goal.returns
returns c =
    joined-of c.args.self.now c.args.name.now c.in_ok-text.text c.from_bytes.result
    (subst IsRsync c.self.view_is c.self.invariant)
    (c.in_ok-text.ensures ∙ ap (λ t. join_text t c.args.name.now)
    (c.as_slice.ensures ∙ c.self.view_is))
    c.from_bytes.ensures
