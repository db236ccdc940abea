-- Fields of rows.
use Rattle.std.specs.Prelude.{ℕ, List, [], ◌++◌, ◌==◌, Option, None, Some, codes, decimal}
use Rattle.std.specs.Prelude.{if◌then◌else◌}
use Rattle.rpki_basics.specs.Moment.{Moment}
use Rattle.rpki_basics.specs.Time.Form.{iso_text}
use Rattle.rpki_payloads.specs.Seconds.{seconds_since}

-- until when a payload holds, in seconds since 1970; nothing, if forever
abbrev pub end_seconds : Option Moment → Option ℕ
end_seconds None = None
end_seconds (Some m) = Some (seconds_since m)

-- the end of a payload in the words of OpenBGPD, as ` expires 1798761600`
abbrev pub expires_words : Option ℕ → List ℕ
expires_words None = []
expires_words (Some n) = codes " expires " ++ decimal n

-- the maximum length in the words of OpenBGPD, where it is not that of the prefix
abbrev pub max_words : ℕ → ℕ → List ℕ
max_words len max_len = if max_len == len then [] else codes " maxlen " ++ decimal max_len

-- until when a payload holds, and the object that says it
abbrev pub long_words : Option Moment → List ℕ → List ℕ
long_words None object = codes "asserted"
long_words (Some m) object = codes "until " ++ (iso_text m ++ (codes " " ++ object))
