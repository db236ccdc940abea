-- Words and what they ask for.
use Rattle.std.proofs.Common.{rules, ◌≡◌, ◌∙◌, ℕ, List, ◌∷◌, All, Bor, sym, ap, subst}
use Rattle.rpki_cli.specs.Words.{texts}
use Rattle.rpki_program.specs.Verify.Items.{AreItems}
use Rattle.rpki_program.specs.Verify.Requests.{AreOf, IsAsked, AskFor, IsTaken, alone, with_items}
use Rattle.rpki_program.specs.Verify.Words.{IsWordOf, option_word, command_word}
use Rattle.rpki_program.specs.declared.verify.items.Item.{Item}
use Rattle.rpki_program.specs.declared.verify.options.OptionName.{OptionName}
use Rattle.rpki_program.specs.declared.verify.request.CommandName.{CommandName}
use Rattle.rpki_program.specs.declared.verify.request.Request.{Request}

pub word-of : (word : List ℕ) (n : OptionName) → word ≡ option_word n → IsWordOf word n
word-of word n e = search rules

pub ruleset by_word = (word-of)

pub asked-alone : (words rest : List (Bor (List ℕ))) (word : Bor (List ℕ)) (request : Request)
    → words ≡ word ∷ rest → IsAsked word.now request → AskFor (texts words) request
asked-alone words rest word request e h =
    subst (λ (q : List (List ℕ)). AskFor q request) (sym (ap texts e)) (alone h)

pub asked-with-items : (words rest : List (Bor (List ℕ))) (word : Bor (List ℕ)) (c : CommandName)
    (request : Request) → words ≡ word ∷ rest → word.now ≡ command_word c
    → ((items : List Item) × AreItems (texts rest) items × All (IsTaken c) items
    × AreOf c items request)
    → AskFor (texts words) request
asked-with-items words rest word c request e w h =
    subst (λ (q : List (List ℕ)). AskFor q request)
    (sym (ap texts e ∙ ap (λ (q : List ℕ). q ∷ texts rest) w)) (with_items c h.1 h.2 h.3)
