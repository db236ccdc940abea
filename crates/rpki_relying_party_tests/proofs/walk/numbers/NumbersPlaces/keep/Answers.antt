-- What was put at the end is there.
use Rattle.std.proofs.Common.{◌++◌, ◌∙◌, List, ℕ, Contains, ap, subst, sym}
use Rattle.std.proofs.lemmas.List.Elements.{All-weaker, All-contains_itself}
use Rattle.std.proofs.lemmas.List.Elements.{Contains-append_right}
use Rattle.std.proofs.lemmas.Result.{on_ok_weaker}
use Rattle.rpki_relying_party_tests.proofs.walk.numbers.NumbersPlaces.keep.Goals as goal

pub returns-clause-said : goal.returns-clause-said
returns-clause-said c =
    let old = c.args.found.now.items in
    let new = c.append.new.list.items in
    on_ok_weaker c.append.result (λ e. All-weaker (Contains c.args.said.items) (Contains new)
    (λ x h. subst (λ (l : List ℕ). Contains l x)
    (sym (e ∙ ap (λ (l : List ℕ). old ++ l) c.deref.ensures.value))
    (Contains-append_right old c.args.said.items x h)) c.args.said.items
    (All-contains_itself c.args.said.items)) c.append.ensures
