use Rattle.std.proofs.Common.{◌∙◌, sym, ap, subst, List, ℕ, All}
use Rattle.std.specs.List.{concat}
use Rattle.rpki_verdicts.specs.Verdicts.{IsLine}
use Rattle.rpki_verdicts.proofs.Cut.{whole, only-lines, no-lines}
use Rattle.rpki_verdicts.proofs.verdicts.Verdicts.read.Goals as goal

pub returns-then-not-is_empty : goal.returns-then-not-is_empty
returns-then-not-is_empty c =
    λ lines v. no-lines c.args.text.now _ lines c.as_chunks.ensures.back_len
    (sym c.is_empty.ensures ∙ c.if-not-is_empty.true) v

pub returns-then-are_lines : goal.returns-then-are_lines
returns-then-are_lines c = record {
  whole = sym (whole c.args.text.now _ c.as_chunks.ensures.back_len
      (sym c.is_empty.ensures ∙ c.if-not-is_empty.false))
      ∙ ap concat (sym c.as_chunks.ensures.front);
  each = c.are_lines.ensures.0 c.if-are_lines.true;
}

pub returns-else-are_lines : goal.returns-else-are_lines
returns-else-are_lines c = λ lines v.
    let same = c.as_chunks.ensures.front ∙ (only-lines c.args.text.now lines v).1 in
    let yes = c.are_lines.ensures.1
    (subst (λ (l : List (List ℕ)). All IsLine l) (sym same) v.each) in
    let n = c.if-are_lines.false in cc
