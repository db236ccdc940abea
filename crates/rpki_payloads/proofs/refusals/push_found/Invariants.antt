use Rattle.std.proofs.Common.{◌≡◌, ◌++◌, string_bytes}
use Rattle.std.specs.List.{flat_map}
use Rattle.rpki_payloads.specs.Texts.Refusals.{refusals_under, refused_line}
use Rattle.rpki_payloads.proofs.refusals.push_found.Given as goal

-- the text, and the lines of the refusals that are still to come
abbrev pub invariant-loop-refusal : goal.invariant-loop-refusal
invariant-loop-refusal l =
    string_bytes l.text ++ flat_map (refused_line l.one.name) l.refusal-iterator
    ≡ string_bytes l.fn.text ++ refusals_under l.one
