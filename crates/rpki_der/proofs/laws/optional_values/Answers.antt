use Rattle.std.proofs.Common.{◌≡◌, ◌<◌, ◌^◌, [], Some}
use Rattle.std.specs.Prelude.{All}
use Rattle.rpki_der.specs.Tags.{BOOLEAN, INTEGER, NULL, IA5_STRING}
use Rattle.rpki_der.specs.Read.Parse.{value_at, primitive, u8_at, u32_at, boolean_at, null_of}
use Rattle.rpki_der.specs.Read.Parse.{ia5_at}
use Rattle.rpki_der.specs.Grammar.{Value, IsInteger, IntegerBelow, Boolean, IsBoolean, Null}
use Rattle.rpki_der.specs.Grammar.{Ia5String}
use Rattle.rpki_der.proofs.Reading.Lists.{begins-within}
use Rattle.rpki_der.proofs.Reading.Kinds.{reading-u8, reading-u32, reading-boolean, reading-null}
use Rattle.rpki_der.proofs.Reading.Kinds.{reading-ia5, reading-contents, reading-value}
use Rattle.rpki_der.proofs.Reading.Optional.{begins-value, optional-reading}
use Rattle.rpki_der.proofs.laws.optional_values.Goals as goal

pub returns-clause-integer_u8 : goal.returns-clause-integer_u8
returns-clause-integer_u8 c =
    optional-reading INTEGER u8_at (IntegerBelow 256) reading-u8
    (λ mode. begins-within INTEGER mode (λ c n. IsInteger c n × (n < 256)))

pub returns-clause-integer_u32 : goal.returns-clause-integer_u32
returns-clause-integer_u32 c =
    optional-reading INTEGER u32_at (IntegerBelow (2 ^ 32)) reading-u32
    (λ mode. begins-within INTEGER mode (λ c n. IsInteger c n × (n < 2 ^ 32)))

pub returns-clause-boolean : goal.returns-clause-boolean
returns-clause-boolean c =
    optional-reading BOOLEAN boolean_at Boolean reading-boolean
    (λ mode. begins-within BOOLEAN mode (IsBoolean mode))

pub returns-clause-null : goal.returns-clause-null
returns-clause-null c =
    optional-reading NULL (primitive NULL null_of) (λ mode o _. Null mode o) reading-null
    (λ mode. begins-within NULL mode (λ c _. c ≡ []))

pub returns-clause-ia5 : goal.returns-clause-ia5
returns-clause-ia5 c =
    optional-reading IA5_STRING ia5_at Ia5String reading-ia5
    (λ mode. begins-within IA5_STRING mode (λ c text. (c ≡ text) × All (λ b. b < 128) text))

pub returns-clause-contents : goal.returns-clause-contents
returns-clause-contents c =
    λ tag. optional-reading tag (primitive tag Some) (λ mode o c. Value mode o tag c)
    (reading-contents tag) (begins-value tag)

pub returns-clause-opened : goal.returns-clause-opened
returns-clause-opened c =
    λ tag. optional-reading tag (value_at tag) (λ mode o c. Value mode o tag c) (reading-value tag)
    (begins-value tag)
