use Rattle.std.proofs.Common.{◌∙◌, sym, Bor, List, ℕ, rules, tests}
use Rattle.std.proofs.lemmas.Iterator.{YieldsList-from_slice}
use Rattle.std.proofs.lemmas.Iterator.Search.{all_from_yields_List}
use Rattle.std.proofs.lemmas.List.Folds.{list_all-map}
use Rattle.rpki_cli.specs.Words.{texts, are_named, files_of_anchor}
use Rattle.rpki_cli.proofs.Anchored.{named-each}
use Rattle.rpki_cli.proofs.anchor_words.are_anchors_named.Goals as goal

pub returns : goal.returns
returns c =
    all_from_yields_List (λ (w : Bor (List ℕ)). are_named (files_of_anchor w.now)) _ _ _
    c.all.ensures.ran (YieldsList-from_slice c.args.words.now cc)
    (λ x b q k. search (rules, tests))
    ∙ sym (list_all-map (λ (w : List ℕ). are_named (files_of_anchor w))
    (λ (w : Bor (List ℕ)). w.now) c.args.words.now)
    ∙ sym (named-each files_of_anchor (texts c.args.words.now))
