use Rattle.std.proofs.Common.{arith, ◌≡◌, true, sym, ap, subst, ◌∙◌}
use Rattle.std.specs.Prelude.{not, is_ok}
use Rattle.rpki_cli.proofs.Following.{AreUtf8, next-word, next-text}
use Rattle.rpki_cli.proofs.arguments.words_of.Goals as goal

pub loop-count-preserved : goal.loop-count-preserved
loop-count-preserved g c =
    let ok : is_ok c.push.result ≡ true = c.is_err.ensures.negation ∙ ap not c.if-is_err.false in
    let is = rw c.in-Ok-Some.field-0-is at c.in-Ok-Some.ensures.text in
    record {
      first = grind (arith, next-word);
      texts = subst AreUtf8 (sym (rw ok at c.push.ensures.items))
          (next-text c.loop-count.words.items c.in-Ok-Some.word is c.loop-count.invariant.texts);
    }
