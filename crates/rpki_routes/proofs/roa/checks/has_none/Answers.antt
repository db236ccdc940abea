use Rattle.std.proofs.Common.{List, subst, sym}
use Rattle.rpki_resources.specs.declared.block.Block.{Block}
use Rattle.rpki_routes.proofs.Origins.Meaning.{none-in-empty}
use Rattle.rpki_sigobj.proofs.Wholes.Numbers.{empty-of}
use Rattle.rpki_routes.proofs.roa.checks.has_none.Goals as goal
use Rattle.rpki_routes.specs.Roa.Checks.{HasNone}

pub returns : goal.returns
returns c = (
  λ t. subst (λ (s : List (Block _)). HasNone s) (sym (c.is_empty.ensures.0 t)) none-in-empty,
  λ none. c.is_empty.ensures.1 (empty-of c.args.set.now c.as_slice.ensures.canonical none),
)
