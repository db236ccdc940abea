use Rattle.std.proofs.Common.{◌≡◌, List, Option, Some, None, true, false, refl, sym, ◌∙◌}
use Rattle.rpki_lists.proofs.list.EntryList.of.Goals as goal

-- what is admitted wherever it is found is not found where it is not admitted
not-found : {X : Type 0} (o : Option (List X))
    → ((xs : List X) → o ≡ Some xs → true ≡ false) → o ≡ None
not-found None h = refl
not-found (Some xs) h = absurd (let never = h xs refl in cc)

pub returns-in-Err : goal.returns-in-Err
returns-in-Err g c =
    not-found _ (λ xs e. sym (c.new.ensures xs)
    ∙ c.in-Err.ensures xs (rw c.as_slice.ensures e))
