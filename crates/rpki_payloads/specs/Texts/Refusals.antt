-- The lines of what is refused.
use Rattle.std.specs.Prelude.{ℕ, List, ◌++◌, codes}
use Rattle.std.specs.BTreeMap.{values}
use Rattle.std.specs.List.{flat_map}
use Rattle.rpki_relying_party.specs.Texts.{cause_text}
use Rattle.rpki_relying_party.specs.declared.found.Refusal.{Refusal}
use Rattle.rpki_payloads.specs.Found.{FoundUnder}

-- the line of a refusal below a locator with this name, as `refused rsync://h/m/a.roa: certificate
-- has expired (under rsync://h/m/a.mft, anchor)`
abbrev pub refused_line : List ℕ → Refusal → List ℕ
refused_line name r =
    codes "refused " ++ (r.uri ++ (codes ": " ++ (cause_text r.cause ++ (codes " (under "
    ++ (r.under ++ (codes ", " ++ (name ++ codes ")\n")))))))

-- the lines of what is refused under one name, in the order of what they say
abbrev pub refusals_under : FoundUnder → List ℕ
refusals_under f = flat_map (refused_line f.name) (values f.found.refusals.by_line)

-- a line for each refusal, name by name
abbrev pub refusals_text : List FoundUnder → List ℕ
refusals_text found = flat_map refusals_under found
