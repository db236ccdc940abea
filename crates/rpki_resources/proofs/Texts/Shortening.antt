-- which zero groups are shortened
use Rattle.std.proofs.Common.{◌≡◌, ℕ, zero, suc, ◌+◌, ◌<◌, ◌≤◌, List, [], ◌∷◌, ◌++◌, take, drop}
use Rattle.std.proofs.Common.{true, false, inl, inr, refl, arith, add-one}
use Rattle.std.specs.Prelude.{codes, nat_lt}
use Rattle.std.proofs.lemmas.Bool.{lt-ltb}
use Rattle.std.proofs.lemmas.Bool.Decides.{leb_tells, nat_tests}
use Rattle.std.specs.Net.Text.{zero_run, longest_zero_run, compressed_text, groups_text}
use Rattle.std.specs.Net.Text.{hex_groups_text}
use Rattle.rpki_resources.specs.Shortened.{IsShortened}

-- the run of len groups from start on is a longest one, and the first of them
record IsLongest (groups : List ℕ) (start len : ℕ) : Type 0 where
  zeros : len ≤ zero_run (drop start groups)
  longest : (other : ℕ) → zero_run (drop other groups) ≤ len
  first : (other : ℕ) → 0 < len → len ≤ zero_run (drop other groups) → start ≤ other

none-left : (k : ℕ) → zero_run (drop k []) ≡ 0
none-left zero = refl
none-left (suc k) = refl

here : (s : ℕ) (rest : List ℕ) (start len : ℕ) → IsLongest rest start len
    → len ≤ zero_run (s ∷ rest) → IsLongest (s ∷ rest) 0 (zero_run (s ∷ rest))
here s rest start len h l =
    record { zeros = omega arith; longest = at; first = λ other p q. omega arith }
  where
    at : (other : ℕ) → zero_run (drop other (s ∷ rest)) ≤ zero_run (s ∷ rest)
    at zero = omega arith
    at (suc k) = let i : zero_run (drop k rest) ≤ len = h.longest k in omega arith

later : (s : ℕ) (rest : List ℕ) (start len : ℕ) → IsLongest rest start len
    → zero_run (s ∷ rest) < len → IsLongest (s ∷ rest) (suc start) len
later s rest start len h l = record { zeros = h.zeros; longest = at; first = from }
  where
    at : (other : ℕ) → zero_run (drop other (s ∷ rest)) ≤ len
    at zero = omega arith
    at (suc k) = h.longest k

    from : (other : ℕ) → 0 < len → len ≤ zero_run (drop other (s ∷ rest)) → suc start ≤ other
    from zero p q = absurd (omega arith)
    from (suc k) p q = let i : start ≤ k = h.first k p q in omega arith

is-longest : (groups : List ℕ)
    → IsLongest groups (longest_zero_run groups).0 (longest_zero_run groups).1
is-longest [] = record {
  zeros = omega arith;
  longest = λ other. rw (none-left other) (omega arith);
  first =
      λ other p q. omega arith;
}
is-longest (s ∷ rest) =
    let k = is-longest rest in
    elim (leb_tells (longest_zero_run rest).1 (zero_run (s ∷ rest))) [
      | inl p ↦ rw p.0 (here s rest (longest_zero_run rest).0 (longest_zero_run rest).1 k p.1)
      | inr q ↦ rw (q.0, add-one)
          (later s rest (longest_zero_run rest).0 (longest_zero_run rest).1 k q.1)
    ]

compressed : (groups : List ℕ) (run : ℕ × ℕ) (start len : ℕ) → run.0 ≡ start → run.1 ≡ len → 2 ≤ len
    → compressed_text groups run ≡ groups_text (take start groups) ++ codes "::"
    ++ groups_text (drop (start + len) groups)
compressed groups run start len e h l = let t : nat_lt 1 len ≡ true = lt-ltb 1 len (omega arith) in
    rw (e, h, t) refl

not-compressed : (groups : List ℕ) (run : ℕ × ℕ) → run.1 ≤ 1
    → compressed_text groups run ≡ groups_text groups
not-compressed groups run l = let t : nat_lt 1 run.1 ≡ false = grind (arith, nat_tests) in rw t refl

pub shortened-text : (groups : List ℕ) (start len : ℕ) → IsShortened groups start len
    → hex_groups_text groups ≡ groups_text (take start groups) ++ codes "::"
    ++ groups_text (drop (start + len) groups)
unfolding hex_groups_text
shortened-text groups start len h =
    let k = is-longest groups in
    let run = longest_zero_run groups in
    let above : run.1 ≤ len = let a = k.zeros in let b = h.longest run.0 in omega arith in
    let below : len ≤ run.1 = let a = h.zeros in let b = k.longest start in omega arith in
    let many : 2 ≤ len = h.several in
    let same : run.1 ≡ len = omega arith in
    let after : start ≤ run.0 = h.first run.0 (let a = k.zeros in omega arith) in
    let before : run.0 ≤ start = k.first start (omega arith) (let a = h.zeros in omega arith) in
    let place : run.0 ≡ start = omega arith in
    compressed groups run start len place same many

pub whole-text : (groups : List ℕ) → ((start : ℕ) → zero_run (drop start groups) ≤ 1)
    → hex_groups_text groups ≡ groups_text groups
unfolding hex_groups_text
whole-text groups h =
    let k = is-longest groups in
    let run = longest_zero_run groups in
    not-compressed groups run (let a = k.zeros in let b = h run.0 in omega arith)
