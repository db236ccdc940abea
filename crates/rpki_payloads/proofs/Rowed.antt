-- Rows that are gathered one list after the other.
use Rattle.std.proofs.Common.{◌≡◌, ℕ, ◌+◌, ◌<◌, ◌≤◌, Bool, true, false, cond, List, [], ◌∷◌, ◌++◌}
use Rattle.std.proofs.Common.{length, get_or, take, drop, sym, ap, ◌∙◌, append_assoc, append-nil}
use Rattle.std.proofs.Common.{not, refl}
use Rattle.std.proofs.Common.{add-one, arith, None, ◌-◌}
use Rattle.std.specs.List.{flat_map}
use Rattle.std.proofs.Math.Seq.{drop-cons}
use Rattle.std.proofs.lemmas.Grind.{flat_map-append}
use Rattle.std.proofs.Math.ListN.{drop_of_length-le}
use Rattle.std.proofs.lemmas.List.{take_all, take_more, drop-append-le, drop-take, length-drop}
use Rattle.std.proofs.lemmas.List.{length-take-le}
use Rattle.rpki_payloads.specs.Formats.Groups.{ends, groups_after, same_customer}
use Rattle.rpki_payloads.specs.Formats.Row.{ProviderRow}

-- one more list of rows is appended
pub one-more : {F X : Type 0} (under : F → List X) (fs : List F) (i : ℕ) (x : F)
    (before mid new : List X) → i < length fs → x ≡ get_or fs i x
    → mid ≡ before ++ flat_map under (take i fs) → new ≡ mid ++ under x
    → new ≡ before ++ flat_map under (take (i + 1) fs)
one-more under fs i x before mid new lt is held grew =
    grew ∙ ap (λ z. z ++ under x) held
    ∙ append_assoc before (flat_map under (take i fs)) (under x)
    ∙ ap (λ z. before ++ (flat_map under (take i fs) ++ z))
    (ap under is ∙ sym (append-nil (under (get_or fs i x))))
    ∙ ap (λ z. before ++ z) (sym (flat_map-append under (take i fs) (get_or fs i x ∷ [])))
    ∙ ap (λ gs. before ++ flat_map under gs) (sym (take_more fs i x lt))

-- a row, for want of another
abbrev nobody : ProviderRow
nobody = record {
  name = [];
  provider = record { customer = 0; provider = 0 };
  until = None;
  object = [];
}

-- a group that has begun grows by one row
group-grows : (rows : List ProviderRow) (start i : ℕ) → start ≤ i → i < length rows
    → drop start (take (i + 1) rows) ≡ drop start (take i rows) ++ get_or rows i nobody ∷ []
group-grows rows start i begun lt =
    ap (drop start) (take_more rows i nobody lt)
    ∙ drop-append-le start (take i rows) (get_or rows i nobody ∷ [])
    (omega (arith, length-take-le i rows (omega arith)))

-- the rows from one on are that one, and then the others
rows-at : (rows : List ProviderRow) (i : ℕ) → i < length rows
    → drop i rows ≡ get_or rows i nobody ∷ drop (i + 1) rows
rows-at rows i lt = rw add-one (drop-cons rows i nobody lt)

-- the same, as a part of the slice of all rows
pub rows_from : (rows : List ProviderRow) (i : ℕ)
    → take (length rows - i) (drop i rows) ≡ drop i rows
rows_from rows i = take_all (length rows - i) (drop i rows) (omega (arith, length-drop i rows))

-- a group ends with the last row
pub ends_few : (rows : List ProviderRow) → length rows < 2 → ends rows ≡ true
ends_few [] few = refl
ends_few (r ∷ []) few = refl
ends_few (r ∷ s ∷ rs) few = absurd (omega arith)

-- a group ends with a row that is of another customer than the next one
pub ends_two : (rows : List ProviderRow) (r s : ProviderRow) → 2 ≤ length rows
    → r ≡ get_or rows 0 r → s ≡ get_or rows 1 s → ends rows ≡ not (same_customer r s)
ends_two [] r s two p q = absurd (omega arith)
ends_two (x ∷ []) r s two p q = absurd (omega arith)
ends_two (x ∷ y ∷ rows) r s two p q =
    ap (λ a. not (same_customer a y)) (sym p) ∙ ap (λ b. not (same_customer r b)) (sym q)

-- a group that has begun ends with this row, or goes on after it
group-next : (rows : List ProviderRow) (start i : ℕ) (end : Bool) → start ≤ i → i < length rows
    → ends (drop i rows) ≡ end
    → groups_after (drop start (take i rows)) (drop i rows)
    ≡ cond end (drop start (take (i + 1) rows) ∷ groups_after [] (drop (i + 1) rows))
    (groups_after (drop start (take (i + 1) rows)) (drop (i + 1) rows))
group-next rows start i end begun lt is =
    let rest = drop (i + 1) rows in
    let at = rows-at rows i lt in
    ap (groups_after (drop start (take i rows))) at
    ∙ ap (λ (b : Bool). cond b
    ((drop start (take i rows) ++ get_or rows i nobody ∷ []) ∷ groups_after [] rest)
    (groups_after (drop start (take i rows) ++ get_or rows i nobody ∷ []) rest))
    (ap ends (sym at) ∙ is)
    ∙ ap (λ (g : List ProviderRow). cond end (g ∷ groups_after [] rest) (groups_after g rest))
    (sym (group-grows rows start i begun lt))

-- a group was found, and none has begun
pub group_found : (rows : List ProviderRow) (start i : ℕ)
    (found new total : List (List ProviderRow))
    → start ≤ i → i < length rows → ends (drop i rows) ≡ true
    → found ++ groups_after (drop start (take i rows)) (drop i rows) ≡ total
    → new ≡ found ++ take (i + 1 - start) (drop start rows) ∷ []
    → new ++ groups_after (drop (i + 1) (take (i + 1) rows)) (drop (i + 1) rows) ≡ total
group_found rows start i found new total begun lt end held grew =
    let rest = drop (i + 1) rows in
    let part = take (i + 1 - start) (drop start rows) in
    let more : start + (i + 1 - start) ≡ i + 1 = omega arith in
    let none : drop (i + 1) (take (i + 1) rows) ≡ [] =
    drop_of_length-le (take (i + 1) rows) (omega (arith, length-take-le (i + 1) rows (omega arith)))
    in
    ap (λ z. z ++ groups_after (drop (i + 1) (take (i + 1) rows)) rest) grew
    ∙ append_assoc found (part ∷ []) (groups_after (drop (i + 1) (take (i + 1) rows)) rest)
    ∙ ap (λ (b : List ProviderRow). found ++ (part ∷ groups_after b rest)) none
    ∙ ap (λ (g : List ProviderRow). found ++ (g ∷ groups_after [] rest))
    (sym (drop-take start (i + 1 - start) rows)
    ∙ ap (λ (k : ℕ). drop start (take k rows)) more)
    ∙ ap (λ z. found ++ z) (sym (group-next rows start i true begun lt end))
    ∙ held

-- a group goes on
pub group_goes_on : (rows : List ProviderRow) (start i : ℕ)
    (found new total : List (List ProviderRow)) → start ≤ i → i < length rows
    → ends (drop i rows) ≡ false
    → found ++ groups_after (drop start (take i rows)) (drop i rows) ≡ total → new ≡ found
    → new ++ groups_after (drop start (take (i + 1) rows)) (drop (i + 1) rows) ≡ total
group_goes_on rows start i found new total begun lt end held same =
    ap (λ z. z ++ groups_after (drop start (take (i + 1) rows)) (drop (i + 1) rows)) same
    ∙ ap (λ z. found ++ z) (sym (group-next rows start i false begun lt end))
    ∙ held
