-- The text of a refusal.
use Rattle.std.specs.Prelude.{ℕ, List, codes}
use Rattle.rpki_lists.specs.declared.kind.Refused.{Refused}
use Rattle.rpki_lists.specs.declared.kind.Refused.TheVariants.{Malformed, For}

-- The text that says why an entry is refused.
abbrev pub refused_text : Refused → List ℕ
refused_text Malformed = codes "malformed"
refused_text (For text) = text.now
