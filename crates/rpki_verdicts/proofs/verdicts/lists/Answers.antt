use Rattle.std.proofs.Common.{◌≡◌, ℕ, List, ◌∙◌, refl}
use Rattle.std.proofs.lemmas.List.{get_or_default}
use Rattle.rpki_verdicts.specs.Verdicts.{line_of}
use Rattle.rpki_verdicts.proofs.Line.{line_has_parts, parts_make_line, more}
use Rattle.rpki_verdicts.proofs.verdicts.lists.Goals as goal

pub returns-then-is_line_of : goal.returns-then-is_line_of
returns-then-is_line_of c =
    let i = c.loop-line.line-index in
    let there = c.loop-line-test.true in
    let lines = c.args.lines.now in
    let wanted = line_of c.args.key.now c.args.message.now c.args.signature.now in
    let is = parts_make_line _ _ _ _ (c.told-lines i there)
    (c.is_line_of.ensures.0 c.if-is_line_of.true) in (
      λ _. (i, there, get_or_default lines i wanted _ there ∙ is),
      λ _. refl,
    )

pub loop-line-preserved : goal.loop-line-preserved
loop-line-preserved c =
    let wanted = line_of c.args.key.now c.args.message.now c.args.signature.now in
    more (λ (line : List ℕ). line ≡ wanted → ⊥) c.args.lines.now c.loop-line.line-index
    c.loop-line-test.true c.loop-line.invariant
    (λ e. let h = c.is_line_of.ensures.1
    (line_has_parts _ _ _ _ c.told-key c.told-message c.told-signature e) in
    let n = c.if-is_line_of.false in cc)
