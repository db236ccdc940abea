-- The form of the content of an ASPA.
use Rattle.std.specs.Prelude.{ℕ, List, [], ◌∷◌}
use Rattle.rpki_der.specs.declared.mode.Mode.TheVariants.{Der}
use Rattle.rpki_der.specs.Grammar.{Integer}
use Rattle.rpki_der.specs.Form.Parts.{Sequence, SequenceOf, Explicit}
use Rattle.rpki_basics.specs.declared.limits.ProviderLimit.{ProviderLimit}
use Rattle.rpki_resources.specs.As.Form.{AsId}
use Rattle.rpki_routes.specs.Aspa.{Aspa, IsAttestation}

-- SEQUENCE { [0] { INTEGER 1 }, customer, SEQUENCE OF provider }, section 3 of the profile, that
-- says an attestation within the limit (`IsAttestation`): the customer is not 0 and no provider,
-- and the providers are 1 to as many as the limit says, ascending, and 0 only alone. A content is
-- in DER (RFC 6488, section 2).
abbrev pub AspaForm : ProviderLimit → List ℕ → Aspa → Type 0
AspaForm limit octets a = Sequence Der (
    (λ o. Explicit 0 Der (λ c. Integer Der c 1) o)
    ∷ (λ o. AsId Der o a.customer)
    ∷ (λ o. SequenceOf Der (AsId Der) o a.providers)
    ∷ []) octets × IsAttestation limit a
