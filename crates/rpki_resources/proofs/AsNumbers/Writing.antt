-- What is written of a set of AS numbers is in its form.
use Rattle.std.proofs.Common.{◌≡◌, ℕ, ◌+◌, ◌<◌, ◌≤◌, ◌^◌, Bool, true, false, List, [], ◌∷◌, ◌++◌}
use Rattle.std.proofs.Common.{length, Some, All, ◌==◌, inl, inr, refl, sym, arith, length-append}
use Rattle.std.specs.List.{flat_map}
use Rattle.std.proofs.lemmas.Bool.{eqb-true}
use Rattle.std.proofs.lemmas.List.Elements.{All-head, All-tail}
use Rattle.rpki_der.specs.declared.mode.Mode.{Mode}
use Rattle.rpki_der.specs.declared.mode.Mode.TheVariants.{Der, Ber}
use Rattle.rpki_der.specs.Grammar.{Items}
use Rattle.rpki_der.specs.Write.Written.{value_octets, number_octets}
use Rattle.rpki_der.proofs.Reading.Scan.{tag-sound}
use Rattle.rpki_der.proofs.Writing.Lengths.{value-written}
use Rattle.rpki_der.proofs.Writing.Numbers.{length-number_octets}
use Rattle.rpki_der.proofs.Writing.Values.{number-in}
use Rattle.rpki_resources.specs.declared.block.Block.{Block}
use Rattle.rpki_resources.specs.Blocks.{RisesFrom, IsCanonical, IsBlock}
use Rattle.rpki_resources.specs.As.Form.{AsIdOrRange, AsForm, only}
use Rattle.rpki_resources.specs.As.Read.{as_blocks_at}
use Rattle.rpki_resources.specs.As.Written.{as_ends, as_octets}
use Rattle.rpki_resources.specs.Joined.{merged, joined}
use Rattle.rpki_resources.proofs.AsNumbers.Exact.{as-part, item-block}
use Rattle.rpki_resources.proofs.Sets.Joining.{joined-all}
use Rattle.rpki_resources.proofs.Sets.Listed.{set-joined}
use Rattle.rpki_der.proofs.Reading.Unique.{part-reading}
use Rattle.rpki_der.proofs.Form.Words.{items-all}
use Rattle.rpki_der.specs.Tags.{SEQUENCE}
use Rattle.rpki_der.specs.Read.Exact.{IsReading}
use Rattle.std.proofs.lemmas.List.{append-nil}

short : (b : Block ℕ) → length (as_ends b) < 2 ^ 32
short b = omega (
  arith,
  length-append (number_octets b.min) (number_octets b.max),
  length-number_octets b.min,
  length-number_octets b.max,
)

-- a block of one number
one-block : (b : Block ℕ) → b.min ≡ b.max → b ≡ only b.min
one-block b e = λ i. record { min = b.min; max = (sym e) i }

item-by : (t : Bool) (b : Block ℕ) → (b.min == b.max) ≡ t → b.min ≤ b.max → b.max < 2 ^ 32
    → AsIdOrRange Der (as_octets b) b
item-by true b e l h =
    rw e (inr (b.min, number-in Der b.min (omega arith), one-block b (eqb-true b.min b.max e)))
item-by false b e l h =
    let upper : List ℕ = number_octets b.max in
    rw e (inl (
      (
        as_ends b,
        value-written SEQUENCE (as_ends b) (tag-sound SEQUENCE refl) (short b),
        (
          number_octets b.min,
          upper,
          refl,
          number-in Der b.min (omega arith),
          (upper, [], sym (append-nil upper), number-in Der b.max h, refl),
        ),
      ),
      l,
    ))

items-written : (a : ℕ) (bs : List (Block ℕ)) → RisesFrom (λ n. n) a bs
    → All (λ b. b.max < 2 ^ 32) bs
    → Items (AsIdOrRange Der) (flat_map as_octets bs) bs
items-written a [] r h = refl
items-written a (b ∷ bs) r h =
    let small : b.max < 2 ^ 32 = All-head (λ (c : Block ℕ). c.max < 2 ^ 32) b bs h in (
      as_octets b,
      flat_map as_octets bs,
      refl,
      item-by (b.min == b.max) b refl r.1 small,
      items-written (b.max + 2) bs r.2 (All-tail (λ (c : Block ℕ). c.max < 2 ^ 32) b bs h),
    )

-- the contents are those of a set
pub as-written : (set : List (Block ℕ)) → IsCanonical (λ n. n) set → All (λ b. b.max < 2 ^ 32) set
    → length (flat_map as_octets set) < 2 ^ 32
    → AsForm Der (value_octets SEQUENCE (flat_map as_octets set)) set
as-written set r h l =
    let contents : List ℕ = flat_map as_octets set in (
      set,
      (
        contents,
        value-written SEQUENCE contents (tag-sound SEQUENCE refl) l,
        items-written 0 set r h,
      ),
      record { canonical = r; same = λ n. refl },
    )

pub as-reading : IsReading as_blocks_at AsForm
as-reading = part-reading as-part (λ mode o set h. (SEQUENCE, h.1.0, h.1.1))

as-in : (mode : Mode) (o : List ℕ) (set : List (Block ℕ)) → AsForm Der o set → AsForm mode o set
as-in Der o set h = h
as-in Ber o set h = as-reading.relaxed o set h

pub as-read : (mode : Mode) (set : List (Block ℕ)) (rest : List ℕ) → IsCanonical (λ n. n) set
    → All (λ b. b.max < 2 ^ 32) set → length (flat_map as_octets set) < 2 ^ 32
    → as_blocks_at mode (value_octets SEQUENCE (flat_map as_octets set) ++ rest) ≡ Some (set, rest)
as-read mode set rest r h l =
    let o : List ℕ = value_octets SEQUENCE (flat_map as_octets set) in
    (as-reading.exact mode).complete o set rest tt (as-in mode o set (as-written set r h l))

-- ---- what is read is written again

item-below : (mode : Mode) (o : List ℕ) (b : Block ℕ) → AsIdOrRange mode o b → b.max < 2 ^ 32
item-below mode o b (inl h) = h.0.2.4.3.2.1
item-below mode o b (inr h) = rw h.2 h.1.2.1

merged-below : (b c : Block ℕ) → b.max < 2 ^ 32 → c.max < 2 ^ 32 → (merged b c).max < 2 ^ 32
merged-below b c h k = omega (arith, h, k)

pub set-below : (mode : Mode) (o : List ℕ) (set : List (Block ℕ)) → AsForm mode o set
    → All (λ b. b.max < 2 ^ 32) set
set-below mode o set h =
    let c = h.1 in
    let blocks = items-all (AsIdOrRange mode) (IsBlock (λ n. n)) (item-block mode) c.0 h.0 c.2 in
    let same : set ≡ joined h.0 = set-joined h.0 set blocks h.2 in
    let each = items-all (AsIdOrRange mode) (λ b. b.max < 2 ^ 32) (item-below mode) c.0 h.0 c.2 in
    rw same (joined-all (λ b. b.max < 2 ^ 32) merged-below h.0 each)
