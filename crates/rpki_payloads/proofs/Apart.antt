-- Files of local exceptions, one after the other.
use Rattle.std.proofs.Common.{◌≡◌, ℕ, ◌+◌, ◌<◌, ◌≤◌, ◌&&◌, true, not, List, ◌∷◌, length}
use Rattle.std.proofs.Common.{get_or, drop, ap, sym, ◌∙◌, suc, add-one, ◌-◌, ◌/◌, ◌^◌}
use Rattle.std.proofs.Math.Nat.{div-eq_of_lt}
use Rattle.std.specs.List.{list_any}
use Rattle.std.proofs.Math.ListN.{drop_of_length-le}
use Rattle.std.proofs.Math.Seq.{drop-cons}
use Rattle.rpki_payloads.specs.Slurm.{are_apart, overlap}
use Rattle.rpki_payloads.specs.declared.slurm.text.Exceptions.{Exceptions}

-- a file and those after it are apart if it overlaps none of them, and they are apart
pub apart_at : (files : List Exceptions) (i : ℕ) (file : Exceptions) → i < length files
    → file ≡ get_or files i file
    → are_apart (drop i files)
    ≡ (not (list_any (overlap file) (drop (i + 1) files)) && are_apart (drop (i + 1) files))
apart_at files i file lt is =
    rw add-one
    (ap are_apart (drop-cons files i file lt ∙ ap (λ x. x ∷ drop (suc i) files) (sym is)))

-- no two of none overlap
pub apart_end : (files : List Exceptions) (i : ℕ) → length files ≤ i
    → are_apart (drop i files) ≡ true
apart_end files i end = ap are_apart (drop_of_length-le files end)

-- an address has no first bits of none
pub front_none : (addr len : ℕ) → addr < 2 ^ 128 → 128 - len ≡ 128 → addr / 2 ^ (128 - len) ≡ 0
front_none addr len small none = ap (λ n. addr / 2 ^ n) none ∙ div-eq_of_lt small
