-- The moment of a check, as a word.
use Rattle.std.specs.Prelude.{◌≡◌, ℕ, List, ◌⊎◌, codes, Option, Some}
use Rattle.rpki_basics.specs.Moment.{Moment, IsMoment}
use Rattle.rpki_basics.specs.Time.Form.{generalized_text, iso_text}
use Rattle.rpki_program.specs.declared.verify.request.When.{When}
use Rattle.rpki_program.specs.declared.verify.request.When.TheVariants.{Now, At}

-- The word of a moment of the calendar: YYYYMMDDHHMMSSZ (RFC 5280, section 4.1.2.5.2) or
-- YYYY-MM-DDTHH:MM:SSZ (RFC 3339, section 5.6). Of RFC 3339 this form alone is taken: with `T` and
-- `Z` in upper case, in UTC, to the second, and without leap seconds.
unfoldable pub IsWordOfMoment : List ℕ → Moment → Type 0
IsWordOfMoment word m = ((word ≡ generalized_text m) ⊎ (word ≡ iso_text m)) × IsMoment m

-- the word says when: `now`, or a moment
abbrev pub IsTime : List ℕ → When → Type 0
IsTime word Now = word ≡ codes "now"
IsTime word (At m) = IsWordOfMoment word m

-- the moment of a check, where the clock tells this
abbrev pub moment_at : Option Moment → When → Option Moment
moment_at clock Now = clock
moment_at clock (At m) = Some m
