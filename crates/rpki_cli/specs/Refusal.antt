-- What is said of octets that are not read.
use Rattle.std.specs.Prelude.{◌≡◌, ◌⊎◌}
use Rattle.rpki_der.specs.Text.Error.{fault_text}
use Rattle.rpki_der.specs.declared.error.ContentFault.{ContentFault}
use Rattle.rpki_der.specs.declared.error.DecodeError.{DecodeError}
use Rattle.rpki_der.specs.declared.error.DecodeError.TheVariants as error
use Rattle.rpki_cli.specs.Answer.{Output, out_of_memory, malformed, malformed_by}
use Rattle.rpki_cli.specs.declared.causes.Causes.{Causes}
use Rattle.rpki_cli.specs.declared.causes.Causes.TheVariants.{Omitted, Included}

-- What may be said of octets that are not, or do not begin with, what was asked for: that they are
-- malformed, alone, or where causes are said, for some cause.
abbrev pub IsMalformed : Causes → Output → Type 0
IsMalformed Omitted s = s ≡ malformed
IsMalformed Included s =
    (s ≡ malformed) ⊎ ((fault : ContentFault) × (s ≡ malformed_by (fault_text fault)))

-- What is said of octets that break a rule in this way. A cause that is said is put together in
-- memory, which may run out.
abbrev pub IsFaultSaid : Causes → ContentFault → Output → Type 0
IsFaultSaid Omitted fault s = s ≡ malformed
IsFaultSaid Included fault s = (s ≡ out_of_memory) ⊎ (s ≡ malformed_by (fault_text fault))

-- what is said of octets that are refused so
abbrev pub IsRefusal : Causes → DecodeError → Output → Type 0
IsRefusal causes error.Memory s = s ≡ out_of_memory
IsRefusal causes error.Malformed s = s ≡ malformed
IsRefusal causes (error.Content fault) s = IsFaultSaid causes fault s
