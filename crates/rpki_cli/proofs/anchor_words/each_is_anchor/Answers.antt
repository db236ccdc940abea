use Rattle.std.proofs.Common.{◌∙◌, sym, Bor, List, ℕ, rules, tests}
use Rattle.std.proofs.lemmas.Iterator.{YieldsList-from_slice}
use Rattle.std.proofs.lemmas.Iterator.Search.{all_from_yields_List}
use Rattle.std.proofs.lemmas.List.Folds.{list_all-map}
use Rattle.rpki_cli.specs.Words.{is_anchor}
use Rattle.rpki_cli.proofs.anchor_words.each_is_anchor.Goals as goal

pub returns : goal.returns
returns c =
    all_from_yields_List (λ (w : Bor (List ℕ)). is_anchor w.now) _ _ _ c.all.ensures.ran
    (YieldsList-from_slice c.args.words.now cc) (λ x b q k. search (rules, tests))
    ∙ sym (list_all-map is_anchor (λ (w : Bor (List ℕ)). w.now) c.args.words.now)
