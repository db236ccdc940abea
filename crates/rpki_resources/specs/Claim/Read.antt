-- Reading claims as functions on lists.
use Rattle.std.specs.Prelude.{ℕ, List, None, Some, if◌then◌else◌}
use Rattle.rpki_der.specs.Tags.{NULL, context}
use Rattle.rpki_der.specs.Read.Parse.{Parser, ◌>>=◌, primitive, null_of, is_next}
use Rattle.rpki_der.specs.Form.Made.{made, choice_at}
use Rattle.rpki_der.specs.Form.Parts.{sequence_at, context_at}
use Rattle.rpki_resources.specs.declared.block.Block.{Block}
use Rattle.rpki_resources.specs.declared.family.AddressFamily.{AddressFamily}
use Rattle.rpki_resources.specs.declared.resources.Claim.{Claim}
use Rattle.rpki_resources.specs.declared.resources.Claim.TheVariants.{Inherit, Explicit}
use Rattle.rpki_resources.specs.Family.{max_bits}
use Rattle.rpki_resources.specs.As.Read.{as_blocks_at}
use Rattle.rpki_resources.specs.Ip.Read.{ip_blocks_at}

-- NULL, or what p reads
abbrev pub claim_at : {X : Type 0} → Parser X → Parser (Claim X)
claim_at p = choice_at NULL (made (λ _. Inherit) (primitive NULL null_of)) (made Explicit p)

-- a claim of AS numbers: NULL, or a set of them
unfoldable pub as_claim_at : Parser (Claim (List (Block ℕ)))
as_claim_at = claim_at as_blocks_at

-- a claim of addresses of a family: NULL, or a set of them
unfoldable pub ip_claim_at : AddressFamily → Parser (Claim (List (Block ℕ)))
ip_claim_at family = claim_at (ip_blocks_at (max_bits family))

-- nothing, where no routing domain identifiers, [1], are next
unfoldable pub no_domains_at : Parser (Unit {0})
no_domains_at mode bytes = if is_next (context 1) bytes then None else Some (tt, bytes)

-- the claim under [0], and no routing domain identifiers before it or after it
unfoldable pub numbers_at : Parser (Claim (List (Block ℕ)))
numbers_at mode bytes = do
  before ← no_domains_at mode bytes
  claim ← context_at 0 as_claim_at mode before.1
  after ← no_domains_at mode claim.1
  Some (claim.0, after.1)

-- the claim under [0] in a SEQUENCE
abbrev pub as_identifiers_at : Parser (Claim (List (Block ℕ)))
as_identifiers_at = sequence_at numbers_at
