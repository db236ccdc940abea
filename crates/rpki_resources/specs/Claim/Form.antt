-- The octets of a claim. The sections are those of RFC 3779.
use Rattle.std.specs.Prelude.{◌≡◌, ℕ, List, [], ◌∷◌}
use Rattle.rpki_der.specs.declared.mode.Mode.{Mode}
use Rattle.rpki_der.specs.Grammar.{Null}
use Rattle.rpki_der.specs.Form.Made.{Choice, Made}
use Rattle.rpki_der.specs.Form.Parts.{Sequence, Explicit}
use Rattle.rpki_resources.specs.declared.block.Block.{Block}
use Rattle.rpki_resources.specs.declared.family.AddressFamily.{AddressFamily}
use Rattle.rpki_resources.specs.declared.resources.Claim.{Claim}
use Rattle.rpki_resources.specs.declared.resources.Claim.TheVariants.{Inherit, Explicit as Numbers}
use Rattle.rpki_resources.specs.As.Form.{AsForm}
use Rattle.rpki_resources.specs.Ip.Form.{IpForm}

-- CHOICE { inherit NULL, the numbers that are in G }
abbrev pub ClaimForm : {X : Type 0} → (List ℕ → X → Type 0) → Mode → List ℕ → Claim X → Type 0
ClaimForm G mode = Choice (λ o claim. Null mode o × (claim ≡ Inherit)) (Made Numbers G)

-- ASIdentifierChoice (3.2.3.2)
abbrev pub AsClaimForm : Mode → List ℕ → Claim (List (Block ℕ)) → Type 0
AsClaimForm mode = ClaimForm (AsForm mode) mode

-- IPAddressChoice (2.2.3.4), of addresses of a family
abbrev pub IpClaimForm : AddressFamily → Mode → List ℕ → Claim (List (Block ℕ)) → Type 0
IpClaimForm family mode = ClaimForm (IpForm family mode) mode

-- ASIdentifiers: SEQUENCE { asnum [0] EXPLICIT ASIdentifierChoice } (3.2.3.1). In RFC 3779 asnum is
-- optional, and rdi, [1], may follow. Routing domain identifiers are not allowed (RFC 6487, section
-- 4.8.11); that asnum has to be there is this project's own.
abbrev pub AsIdentifiersForm : Mode → List ℕ → Claim (List (Block ℕ)) → Type 0
AsIdentifiersForm mode octets claim = Sequence mode (
    (λ o. Explicit 0 mode (λ c. AsClaimForm mode c claim) o)
    ∷ []) octets
