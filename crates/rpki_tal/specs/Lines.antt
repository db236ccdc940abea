-- The lines of a text.
use Rattle.std.specs.Prelude.{◌≡◌, ◌≢◌, ℕ, ◌-◌, List, [], ◌∷◌, ◌++◌, length, take, slice_index}
use Rattle.std.specs.Prelude.{All, Bool, ◌==◌, ◌||◌, not, if◌then◌else◌}
use Rattle.std.specs.List.{filter}

-- a space
abbrev pub SPACE : ℕ
SPACE = 0x20

-- a horizontal tab
abbrev pub TAB : ℕ
TAB = 0x09

-- a form feed
abbrev pub FORM_FEED : ℕ
FORM_FEED = 0x0C

-- a line feed
abbrev pub LINE_FEED : ℕ
LINE_FEED = 0x0A

-- a carriage return
abbrev pub CARRIAGE_RETURN : ℕ
CARRIAGE_RETURN = 0x0D

-- the sign # of a comment
abbrev pub NUMBER_SIGN : ℕ
NUMBER_SIGN = 0x23

-- No line feed stands in the text.
abbrev pub IsOneLine : List ℕ → Type 0
IsOneLine text = All (λ octet. octet ≢ LINE_FEED) text

-- The line without one carriage return at its end.
abbrev pub without_cr : List ℕ → List ℕ
without_cr line =
    if slice_index line (length line - 1) == CARRIAGE_RETURN then take (length line - 1) line
    else line

-- The octets are one line, and this is its text: a line ends with a line feed, and a carriage
-- return before that is a part of the line's end (RFC 8630, section 2.2).
abbrev pub IsLine : List ℕ → List ℕ → Type 0
IsLine octets text =
    (line : List ℕ) × IsOneLine line × (octets ≡ line ++ LINE_FEED ∷ [])
    × (text ≡ without_cr line)

-- A line that begins with #, and what it says after that (RFC 8630, section 2.2). That it may say
-- any octets, and not UTF-8 alone, is this project's own rule.
abbrev pub IsComment : List ℕ → List ℕ → Type 0
IsComment octets comment =
    IsOneLine comment × (octets ≡ NUMBER_SIGN ∷ (comment ++ LINE_FEED ∷ []))

-- An octet that may break base64 up: a space, a tab, a line feed, a form feed or a carriage return.
-- That others than line ends may stand there is this project's own rule.
abbrev pub is_blank : ℕ → Bool
is_blank octet =
    (octet == SPACE) || (octet == TAB) || (octet == LINE_FEED) || (octet == FORM_FEED)
    || (octet == CARRIAGE_RETURN)

-- The text without the octets that may break base64 up.
abbrev pub without_blanks : List ℕ → List ℕ
without_blanks text = filter (λ octet. not (is_blank octet)) text
