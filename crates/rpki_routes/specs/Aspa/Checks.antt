-- Autonomous System Provider Authorizations as signed objects. The sections are those of
-- draft-ietf-sidrops-aspa-profile-15.
use Rattle.std.specs.Prelude.{◌≡◌, ◌≢◌, ◌≤◌, ℕ, List, [], ◌∷◌, ◌++◌, length, All, true}
use Rattle.rpki_resources.specs.declared.block.Block.{Block}
use Rattle.rpki_resources.specs.declared.resources.Claim.{Claim}
use Rattle.rpki_resources.specs.declared.resources.Claim.TheVariants.{Missing, Inherit, Explicit}
use Rattle.rpki_resources.specs.As.Form.{only}
use Rattle.rpki_resources.specs.Blocks.{Covers}
use Rattle.rpki_resources.specs.Claim.{added}
use Rattle.rpki_faults.specs.Checks.{Check, ◌unless◌, ◌as_faults_of◌}
use Rattle.rpki_faults.specs.declared.validation.ValidationError.TheVariants.{Verification}
use Rattle.rpki_faults.specs.declared.verification.VerificationError.{VerificationError}
use Rattle.rpki_faults.specs.declared.verification.VerificationError.TheVariants as faults
use Rattle.rpki_extensions.specs.declared.claims.Claims.{Claims}
use Rattle.rpki_certs.specs.Validate.{Sets}
use Rattle.rpki_routes.specs.Aspa.{Aspa}
use Rattle.rpki_sigobj.specs.Signed.Kind.{ObjectKind}

-- id-ct-ASPA, 1.2.840.113549.1.9.16.1.49 (2)
abbrev pub ct_aspa : List ℕ
ct_aspa = 0x2A ∷ 0x86 ∷ 0x48 ∷ 0x86 ∷ 0xF7 ∷ 0x0D ∷ 0x01 ∷ 0x09 ∷ 0x10 ∷ 0x01 ∷ 0x31 ∷ []

-- The certificate claims AS numbers and does not inherit them (4).
abbrev pub named_checks : Claim (List (Block ℕ)) → List (Check VerificationError)
named_checks claim =
    (faults.NoAsResources unless (claim ≢ Missing))
    ∷ (faults.InheritedAsResources unless (claim ≢ Inherit))
    ∷ []

-- The certificate of an ASPA claims one AS number, the customer (4).
abbrev pub block_checks : ℕ → List (Block ℕ) → List (Check VerificationError)
block_checks customer blocks =
    (faults.EmptyAsResources unless (blocks ≢ []))
    ∷ (faults.SeveralAsBlocks unless (length blocks ≤ 1))
    ∷ (faults.AsRange unless All (λ (b : Block ℕ). b.min ≡ b.max) blocks)
    ∷ (faults.OtherCustomer unless All (λ (b : Block ℕ). b.min ≡ customer) blocks)
    ∷ []

-- The certificate claims the customer and no other AS number.
abbrev pub number_checks : ℕ → Claim (List (Block ℕ)) → List (Check VerificationError)
number_checks customer claim = named_checks claim ++ block_checks customer (added claim)

-- The certificate claims no addresses (4).
abbrev pub address_checks : Claims → List (Check VerificationError)
address_checks x =
    (faults.IpResources unless ((x.addresses.v4 ≡ Missing) × (x.addresses.v6 ≡ Missing))) ∷ []

-- the checks of the certificate's claims, in order
abbrev pub aspa_claimed : Aspa → Claims → List (Check VerificationError)
aspa_claimed a x = number_checks a.customer x.as_numbers ++ address_checks x

-- The validated certificate has the customer. Trimming (RFC 8360) may take the customer away;
-- refusing the ASPA then is this project's own rule.
abbrev pub aspa_held : Aspa → Sets → List (Check VerificationError)
aspa_held a sets =
    (faults.CustomerNotHeld unless Covers (λ n. n) sets.as_numbers (only a.customer ∷ [])) ∷ []

-- The certificate covers the ASPA: it claims the customer and nothing else, and has it (4).
pub record AspaCovered (a : Aspa) (x : Claims) (sets : Sets) : Type 0 where
  pub customer : x.as_numbers ≡ Explicit (only a.customer ∷ [])
  pub v4 : x.addresses.v4 ≡ Missing
  pub v6 : x.addresses.v6 ≡ Missing
  pub held : Covers (λ n. n) sets.as_numbers (only a.customer ∷ [])

-- An ASPA as a kind of signed object; it must be published.
abbrev pub aspa_kind : ObjectKind Aspa
aspa_kind = record {
  type = ct_aspa;
  is_published = true;
  claimed = λ a x. Verification as_faults_of aspa_claimed a x;
  held = λ a sets. Verification as_faults_of aspa_held a sets;
  covers = λ a x sets. AspaCovered a x sets;
}
