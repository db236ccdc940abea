-- What is read of octets that may be the locator of a trust anchor.
use Rattle.std.specs.Prelude.{◌≡◌, ℕ, List, Bool, true, false, Option, None, Some, Result, Ok, Err}
use Rattle.rpki_der.specs.declared.mode.Mode.TheVariants.{Der}
use Rattle.rpki_der.specs.Grammar.{HasNoFront}
use Rattle.rpki_certs.specs.Cert.{CertForm}
use Rattle.rpki_certs.specs.Issuer.{BeginsWithCert}
use Rattle.rpki_tal.specs.Form.{IsNoTal, IsOnlyTal}
use Rattle.rpki_tal.specs.Tal.{Locator}
use Rattle.rpki_tal.specs.declared.error.ReadError.{ReadError}
use Rattle.rpki_tal.specs.declared.error.ReadError.TheVariants as errors
use Rattle.rpki_validation.specs.declared.locator.LocatorFault.{LocatorFault}
use Rattle.rpki_validation.specs.declared.locator.LocatorFault.TheVariants as faults
use Rattle.rpki_validation.specs.declared.locator.NotLocator.{NotLocator}
use Rattle.rpki_validation.specs.declared.locator.NotLocator.TheVariants.{Memory, NoLocator}
use Rattle.rpki_validation.specs.declared.refusal.Refusal.{Refusal}
use Rattle.rpki_validation.specs.declared.refusal.Refusal.TheVariants as refusals

-- The octets are the text of this locator, whole, and of no other (RFC 8630, section 2.2).
abbrev pub IsLocator : List ℕ → Locator → Type 0
IsLocator octets l = IsOnlyTal octets l.uris l.key

-- what is read of them, unless memory runs out
abbrev pub IsLocatorRead : List ℕ → Result Locator NotLocator → Type 0
IsLocatorRead octets (Ok l) = IsLocator octets l
IsLocatorRead octets (Err NoLocator) = IsNoTal octets
IsLocatorRead octets (Err Memory) = Unit {0}

-- why they are not read, where they are refused so: want of memory is that, and every other fault
-- says that they are none
abbrev pub IsFaultOf : ReadError → NotLocator → Type 0
IsFaultOf errors.Memory fault = fault ≡ Memory
IsFaultOf error Memory = ⊥
IsFaultOf error NoLocator = Unit {0}

-- There is this locator, where there are octets, and none where there are none.
abbrev pub IsGiven : Option (List ℕ) → Option Locator → Type 0
IsGiven None None = Unit {0}
IsGiven None (Some l) = ⊥
IsGiven (Some octets) None = ⊥
IsGiven (Some octets) (Some l) = IsLocator octets l

-- There are octets, and they are no locator.
abbrev pub IsNoLocator : Option (List ℕ) → Type 0
IsNoLocator None = ⊥
IsNoLocator (Some octets) = IsNoTal octets

-- what is read of octets, if there are any, unless memory runs out
abbrev pub IsTold : Option (List ℕ) → Result (Option Locator) Refusal → Type 0
IsTold octets (Ok l) = IsGiven octets l
IsTold octets (Err refusals.NoLocator) = IsNoLocator octets
IsTold octets (Err refusals.Memory) = Unit {0}
IsTold octets (Err other) = ⊥

-- whether a fault is want of memory
abbrev pub is_memory_of_locator : LocatorFault → Bool
is_memory_of_locator faults.Memory = true
is_memory_of_locator faults.NoLocator = false
is_memory_of_locator faults.NoCertificate = false
is_memory_of_locator faults.OtherKey = false

-- What is answered of octets that may be the locator of the trust anchor with this certificate: it,
-- if they are one and the certificate has its key (RFC 8630, section 3); and else why not, unless
-- memory runs out.
abbrev pub IsLocatorFound : List ℕ → List ℕ → Result Locator LocatorFault → Type 0
IsLocatorFound anchor octets (Ok l) =
    IsLocator octets l × BeginsWithCert anchor (λ c. c.tbs.key ≡ l.key)
IsLocatorFound anchor octets (Err faults.NoLocator) = IsNoTal octets
IsLocatorFound anchor octets (Err faults.NoCertificate) = HasNoFront (CertForm Der) anchor
IsLocatorFound anchor octets (Err faults.OtherKey) = (l : Locator) × IsLocator octets l
    × BeginsWithCert anchor (λ c. ¬ (c.tbs.key ≡ l.key))
IsLocatorFound anchor octets (Err faults.Memory) = Unit {0}
