use Rattle.std.proofs.Common.{take}
use Rattle.std.specs.List.{AllZip}
use Rattle.rpki_payloads.specs.Locators.{IsNamedLocator}
use Rattle.rpki_payloads.proofs.locators.locators_in.Given as goal

-- the locators so far
abbrev pub invariant-loop-word : goal.invariant-loop-word
invariant-loop-word l =
    AllZip IsNamedLocator (take l.word-index l.files) l.locators.items
