-- Sets of octets, in the order of slices.
use Rattle.std.proofs.Common.{ℕ, Bool, List, Bor, nat_cmp}
use Rattle.std.specs.declared.cmp.Ordering.{Ordering}
use Rattle.std.specs.Cmp.Lexicographic.{slice_cmp}
use Rattle.std.specs.BTreeSet.{BTreeSet, contains_by}

-- the order of slices
abbrev pub order : Bor (List ℕ) → Bor (List ℕ) → Ordering
order x y = slice_cmp nat_cmp x.now y.now

-- whether the set has these octets
abbrev pub has_octets : BTreeSet (Bor (List ℕ)) → List ℕ → Bool
has_octets set q = contains_by (λ (k : Bor (List ℕ)). slice_cmp nat_cmp q k.now) set

-- octets as a slice
abbrev pub slice : List ℕ → Bor (List ℕ)
slice q = record { ref_ptr = (0, 0); now = q }
