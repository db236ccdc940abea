use Rattle.std.proofs.Common.{sym, ◌∙◌, arith, Bor, List, ℕ}
use Rattle.rpki_cli.proofs.Named.{unnamed, named}
use Rattle.rpki_cli.proofs.words.all_named.Goals as goal

pub returns-then-is_empty : goal.returns-then-is_empty
returns-then-is_empty c =
    sym (unnamed (λ (w : Bor (List ℕ)). w.now) c.args.files.now c.loop-file.file-index _ c.loop-file-test.true
    (sym c.is_empty.ensures ∙ c.if-is_empty.true))

pub returns : goal.returns
returns c = sym (named (λ (w : Bor (List ℕ)). w.now) c.args.files.now
    (λ k d l. c.loop-file.invariant k d (omega (arith, l, c.loop-file-test.false))))
