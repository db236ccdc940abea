-- Lines, one after the other.
use Rattle.std.proofs.Common.{◌≡◌, ℕ, ◌+◌, ◌<◌, List, ◌++◌, length, get_or, take, sym, ap, ◌∙◌}
use Rattle.std.proofs.Common.{append_assoc, OnOk, Result}
use Rattle.std.specs.List.{flat_map}
use Rattle.std.proofs.lemmas.Result.{on_ok_weaker}
use Rattle.rpki_der.proofs.Writing.Pieces.{pieces_more}

-- a text grows by these octets, and then by those
pub grows_after : {T E : Type 0} (r : Result T E) (old mid new xs ys : List ℕ) → mid ≡ old ++ xs
    → OnOk r (new ≡ mid ++ ys) → OnOk r (new ≡ old ++ (xs ++ ys))
grows_after r old mid new xs ys h k =
    on_ok_weaker r (λ (e : new ≡ mid ++ ys). e ∙ ap (λ (s : List ℕ). s ++ ys) h
    ∙ append_assoc old xs ys) k

-- one more line
pub one_more_line : {X : Type 0} (f : X → List ℕ) (xs : List X) (i : ℕ) (x : X)
    (old now new : List ℕ) → i < length xs → x ≡ get_or xs i x
    → now ≡ old ++ flat_map f (take i xs) → new ≡ now ++ f x
    → new ≡ old ++ flat_map f (take (i + 1) xs)
one_more_line f xs i x old now new l e h k =
    k ∙ ap (λ (s : List ℕ). s ++ f x) h ∙ append_assoc old (flat_map f (take i xs)) (f x)
    ∙ ap (λ (s : List ℕ). old ++ s) (sym (pieces_more f xs i x l e))
