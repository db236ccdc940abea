-- What is inherited to the top is no set of blocks.
use Rattle.std.proofs.Common.{sym, ap, ◌∙◌, ◌||◌, not}
use Rattle.std.proofs.lemmas.Bool.{true≢false}
use Rattle.rpki_resources.specs.Blocks.{holds}
use Rattle.rpki_paths.proofs.Finals.{not-all}
use Rattle.rpki_paths.proofs.decision.Union.equals.Goals as goal

pub returns-then-not-is_known : goal.returns-then-not-is_known
returns-then-not-is_known g c =
    let f = g.T.Number.number in (
      λ e. absurd (true≢false (sym e)),
      λ h. absurd (not-all f c.args.set.now
          (λ n. h n ∙ ap (λ b. not b || holds f c.args.self.numbers n) c.if-not-is_known.true)),
    )
