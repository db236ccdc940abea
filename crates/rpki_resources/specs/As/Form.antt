-- The octets of a set of AS numbers. The sections are those of RFC 3779.
use Rattle.std.specs.Prelude.{ℕ, ◌^◌, List, [], ◌∷◌}
use Rattle.rpki_der.specs.declared.mode.Mode.{Mode}
use Rattle.rpki_der.specs.Grammar.{IntegerBelow}
use Rattle.rpki_der.specs.Form.Parts.{Sequence, SequenceOf}
use Rattle.rpki_der.specs.Form.Made.{Choice, Made, Understood}
use Rattle.rpki_resources.specs.declared.block.Block.{Block}
use Rattle.rpki_resources.specs.Blocks.{IsBlock, IsSetOf}

-- ASId: an INTEGER (3.2.3.10), which is from 0 to 2 ^ 32 - 1, since AS numbers have four octets
-- (RFC 6793, section 3)
abbrev pub AsId : Mode → List ℕ → ℕ → Type 0
AsId mode octets n = IntegerBelow (2 ^ 32) mode octets n

-- ASRange: SEQUENCE { min, max } (3.2.3.7 to 3.2.3.9), where the lower end is not above the upper
-- end
abbrev pub AsRange : Mode → List ℕ → Block ℕ → Type 0
AsRange mode octets b = Sequence mode (
    (λ o. AsId mode o b.min)
    ∷ (λ o. AsId mode o b.max)
    ∷ []) octets × IsBlock (λ n. n) b

-- a block of one number
abbrev pub only : ℕ → Block ℕ
only n = record { min = n; max = n }

-- ASIdOrRange: CHOICE { range, id } (3.2.3.5)
abbrev pub AsIdOrRange : Mode → List ℕ → Block ℕ → Type 0
AsIdOrRange mode = Choice (AsRange mode) (Made only (AsId mode))

-- asIdsOrRanges: SEQUENCE OF ASIdOrRange (3.2.3.4), as the set of their numbers. In RFC 3779 they
-- ascend, and no two of them overlap or touch. Here they may stand in any order, overlap, and be
-- none, and one number may be a range: this project's own rule.
abbrev pub AsForm : Mode → List ℕ → List (Block ℕ) → Type 0
AsForm mode = Understood IsSetOf (SequenceOf mode (AsIdOrRange mode))
