-- The texts of refusals, and which of them are want of memory.
use Rattle.std.specs.Prelude.{ℕ, List, Bool, true, false, codes}
use Rattle.rpki_der.specs.declared.error.DecodeError.TheVariants as decoding
use Rattle.rpki_faults.specs.declared.validation.ValidationError.TheVariants as validation
use Rattle.rpki_certs.specs.Issuer.{issuer_text}
use Rattle.rpki_certs.specs.declared.issuer.IssuerError.{IssuerError}
use Rattle.rpki_certs.specs.declared.issuer.IssuerError.TheVariants as issuing
use Rattle.rpki_signed.specs.Text.{check_text}
use Rattle.rpki_signed.specs.declared.check.CheckError.{CheckError}
use Rattle.rpki_signed.specs.declared.check.CheckError.TheVariants as checking
use Rattle.rpki_validation.specs.declared.refusal.CaFault.{CaFault}
use Rattle.rpki_validation.specs.declared.refusal.CaFault.TheVariants as ca
use Rattle.rpki_validation.specs.declared.refusal.IssuerFault.{IssuerFault}
use Rattle.rpki_validation.specs.declared.refusal.IssuerFault.TheVariants.{Anchor, Chain, OtherKey}
use Rattle.rpki_validation.specs.declared.refusal.Refusal.{Refusal}
use Rattle.rpki_validation.specs.declared.refusal.Refusal.TheVariants.{Check, Issuer, Memory}
use Rattle.rpki_validation.specs.declared.refusal.Refusal.TheVariants.{NoList, NoLocator, Revoked}

-- of why a certificate is not valid
abbrev pub is_memory_in : IssuerError → Bool
is_memory_in (issuing.Decode decoding.Memory) = true
is_memory_in (issuing.Decode decoding.Malformed) = false
is_memory_in (issuing.Decode (decoding.Content fault)) = false
is_memory_in (issuing.Validation validation.Memory) = true
is_memory_in (issuing.Validation (validation.Inspection fault)) = false
is_memory_in (issuing.Validation (validation.Verification fault)) = false

-- of why a certificate is none of a CA
abbrev pub is_memory_at_ca : CaFault → Bool
is_memory_at_ca (ca.Error fault) = is_memory_in fault
is_memory_at_ca (ca.Revoked place) = false

-- of why certificates make no issuer
abbrev pub is_memory_at_issuer : IssuerFault → Bool
is_memory_at_issuer (Anchor fault) = is_memory_in fault
is_memory_at_issuer OtherKey = false
is_memory_at_issuer (Chain place fault) = is_memory_at_ca fault

-- of what a check answers
abbrev pub is_memory_of_check : CheckError → Bool
is_memory_of_check (checking.Decode decoding.Memory) = true
is_memory_of_check (checking.Decode decoding.Malformed) = false
is_memory_of_check (checking.Decode (decoding.Content fault)) = false
is_memory_of_check (checking.Validation validation.Memory) = true
is_memory_of_check (checking.Validation (validation.Inspection fault)) = false
is_memory_of_check (checking.Validation (validation.Verification fault)) = false

-- whether a refusal is want of memory
abbrev pub is_memory : Refusal → Bool
is_memory Memory = true
is_memory NoLocator = false
is_memory (NoList place) = false
is_memory (Issuer fault) = is_memory_at_issuer fault
is_memory (Check fault) = is_memory_of_check fault
is_memory (Revoked place) = false

-- ---- texts

-- of why a certificate is none of a CA
abbrev pub ca_text : CaFault → List ℕ
ca_text (ca.Error fault) = issuer_text fault
ca_text (ca.Revoked place) = codes "revoked"

-- of why certificates make no issuer
abbrev pub issuer_fault_text : IssuerFault → List ℕ
issuer_fault_text (Anchor fault) = issuer_text fault
issuer_fault_text OtherKey = codes "key is not that of the locator"
issuer_fault_text (Chain place fault) = ca_text fault

-- the text of a refusal
abbrev pub refusal_text : Refusal → List ℕ
refusal_text Memory = codes "out of memory"
refusal_text NoLocator = codes "no locator"
refusal_text (NoList place) = codes "no revocation list"
refusal_text (Issuer fault) = issuer_fault_text fault
refusal_text (Check fault) = check_text fault
refusal_text (Revoked place) = codes "revoked"
