use Rattle.std.proofs.Common.{◌==◌, sym, ◌∙◌, arith, ap, Bor, List, ℕ, length}
use Rattle.std.proofs.lemmas.Simd.{map-map}
use Rattle.rpki_cli.specs.Words.{path_in, are_named}
use Rattle.rpki_cli.proofs.Named.{unnamed, named}
use Rattle.rpki_cli.proofs.pairs.are_paths_named.Goals as goal

pub returns-then-is_empty : goal.returns-then-is_empty
returns-then-is_empty c =
    sym (ap are_named (map-map path_in (λ (w : Bor (List ℕ)). w.now) c.args.pairs.now)
    ∙ unnamed (λ (w : Bor (List ℕ)). path_in w.now) c.args.pairs.now c.loop-pair.pair-index _
    c.loop-pair-test.true (ap (λ (p : List ℕ). length p == 0) (sym c.path_of.ensures)
    ∙ sym c.is_empty.ensures ∙ c.if-is_empty.true))

pub returns : goal.returns
returns c =
    sym (ap are_named (map-map path_in (λ (w : Bor (List ℕ)). w.now) c.args.pairs.now)
    ∙ named (λ (w : Bor (List ℕ)). path_in w.now) c.args.pairs.now
    (λ k d l. c.loop-pair.invariant k d (omega (arith, l, c.loop-pair-test.false))))
