-- The formats of payloads.
pub mod Bird
pub mod Fields
pub mod Groups
pub mod Joined
pub mod Json
pub mod Lines
pub mod Openbgpd
pub mod Row
pub mod Rows
pub mod Table
use Rattle.std.specs.Prelude.{◌≡◌, ℕ, List}
use Rattle.rpki_basics.specs.Moment.{Moment}
use Rattle.rpki_payloads.specs.Formats.Bird.{bird_text}
use Rattle.rpki_payloads.specs.Formats.Groups.{groups}
use Rattle.rpki_payloads.specs.Formats.Json.{json_text, client_text}
use Rattle.rpki_payloads.specs.Formats.Lines.{lines_text, long_text}
use Rattle.rpki_payloads.specs.Formats.Openbgpd.{openbgpd_text}
use Rattle.rpki_payloads.specs.Formats.Row.{OriginRow, ProviderRow}
use Rattle.rpki_payloads.specs.Formats.Rows.{AreOriginsAfter, AreProvidersAfter}
use Rattle.rpki_payloads.specs.Formats.Table.{table_text}
use Rattle.rpki_payloads.specs.Found.{FoundUnder}
use Rattle.rpki_payloads.specs.Printed.{PrintsEach}
use Rattle.rpki_payloads.specs.declared.formats.PayloadFormat.{PayloadFormat}
use Rattle.rpki_payloads.specs.declared.formats.PayloadFormat.TheVariants as formats
use Rattle.rpki_payloads.specs.declared.slurm.text.Exceptions.{Exceptions}

-- the text of payloads in a format, as they were found at a moment
abbrev pub payloads_in : PayloadFormat → Moment → List FoundUnder → List OriginRow
    → List ProviderRow → List ℕ
payloads_in formats.Lines moment found origins providers = lines_text origins (groups providers)
payloads_in formats.Long moment found origins providers = long_text origins providers
payloads_in formats.Csv moment found origins providers = table_text origins
payloads_in formats.Json moment found origins providers =
    json_text moment found origins (groups providers)
payloads_in formats.RpkiClient moment found origins providers =
    client_text moment found origins (groups providers)
payloads_in formats.Bird moment found origins providers = bird_text origins
payloads_in formats.Openbgpd moment found origins providers =
    openbgpd_text origins (groups providers)

-- This is the text of what was found, after local exceptions: of a row of each payload.
pub record IsPayloadsText (exceptions : List Exceptions) (format : PayloadFormat)
    (moment : Moment) (found : List FoundUnder) (text : List ℕ) : Type 0 where
  pub origins : List OriginRow
  pub providers : List ProviderRow
  pub are_origins : AreOriginsAfter exceptions found origins
  pub are_providers : AreProvidersAfter exceptions found providers
  pub is : text ≡ payloads_in format moment found origins providers

-- a format prints this of each origin, once
abbrev pub PrintsOrigins : PayloadFormat → List ℕ → (OriginRow → List ℕ) → Type 0
PrintsOrigins format separator line =
    (moment : Moment) (found : List FoundUnder) (providers : List ProviderRow)
    → PrintsEach (λ (rows : List OriginRow). rows) separator line
    (λ rows. payloads_in format moment found rows providers)

-- a format prints this of each provider, once
abbrev pub PrintsProviders : PayloadFormat → List ℕ → (ProviderRow → List ℕ) → Type 0
PrintsProviders format separator line =
    (moment : Moment) (found : List FoundUnder) (origins : List OriginRow)
    → PrintsEach (λ (rows : List ProviderRow). rows) separator line
    (λ rows. payloads_in format moment found origins rows)

-- a format prints this of each customer with its providers, once
abbrev pub PrintsCustomers : PayloadFormat → List ℕ → (List ProviderRow → List ℕ) → Type 0
PrintsCustomers format separator line =
    (moment : Moment) (found : List FoundUnder) (origins : List OriginRow)
    → PrintsEach groups separator line (λ rows. payloads_in format moment found origins rows)
