-- A SEQUENCE OF blocks is read exactly, as the set of their numbers.
use Rattle.std.proofs.Common.{◌≡◌, ℕ, List, All, subst, sym}
use Rattle.rpki_der.specs.declared.mode.Mode.{Mode}
use Rattle.rpki_der.specs.Tags.{SEQUENCE}
use Rattle.rpki_der.specs.Read.Parse.{Parser, all_at}
use Rattle.rpki_der.specs.Grammar.{Items}
use Rattle.rpki_der.specs.Form.Law.{TagSet, nothing, every, is, IsPart}
use Rattle.rpki_der.specs.Form.Parts.{SequenceOf, sequence_at}
use Rattle.rpki_der.specs.Form.Made.{Understood, made}
use Rattle.rpki_der.proofs.Form.Words.{part-as, in-tag, make, all-items, items-all}
use Rattle.rpki_resources.specs.declared.block.Block.{Block}
use Rattle.rpki_resources.specs.Blocks.{IsBlock, IsSetOf}
use Rattle.rpki_resources.specs.Joined.{joined}
use Rattle.rpki_resources.proofs.Sets.Joining.{joined-rises, joined-held, joined-only}

-- the set of the numbers in these blocks is what they are joined to
pub joined-set : (list : List (Block ℕ)) → All (IsBlock (λ n. n)) list → IsSetOf list (joined list)
joined-set list v = record { canonical = joined-rises list v; same = joined-held list v }

pub set-joined : (list set : List (Block ℕ)) → All (IsBlock (λ n. n)) list → IsSetOf list set
    → set ≡ joined list
set-joined list set v h = joined-only set list v h.canonical h.same

module _ {first : TagSet} {p : Parser (Block ℕ)} {G : Mode → List ℕ → Block ℕ → Type 0}
    (ordered : (mode : Mode) (o : List ℕ) (b : Block ℕ) → G mode o b → IsBlock (λ n. n) b)
    (item : IsPart first nothing p G) where
  blocks : (mode : Mode) (o : List ℕ) (list : List (Block ℕ)) → Items (G mode) o list
      → All (IsBlock (λ n. n)) list
  blocks mode = items-all (G mode) (IsBlock (λ n. n)) (ordered mode)

  -- the blocks to the end
  set-items : IsPart first every (made joined (all_at p))
      (λ mode. Understood IsSetOf (Items (G mode)))
  set-items = part-as (make joined (all-items item))
      (λ mode o set h. (
        h.0,
        h.1,
        subst (IsSetOf h.0) (sym h.2) (joined-set h.0 (blocks mode o h.0 h.1)),
      ))
      (λ mode o set h. (h.0, h.1, set-joined h.0 set (blocks mode o h.0 h.1) h.2))

  -- a SEQUENCE of them
  pub set-part : IsPart (is SEQUENCE) nothing (sequence_at (made joined (all_at p)))
      (λ mode. Understood IsSetOf (SequenceOf mode (G mode)))
  set-part = part-as (in-tag SEQUENCE set-items)
      (λ mode o set h. (h.2.0, (h.0, h.1, h.2.1), h.2.2))
      (λ mode o set h. (h.1.0, h.1.1, (h.0, h.1.2, h.2)))
