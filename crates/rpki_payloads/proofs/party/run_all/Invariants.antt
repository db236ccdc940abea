use Rattle.std.proofs.Common.{take}
use Rattle.rpki_payloads.specs.Party.{party_of}
use Rattle.rpki_payloads.specs.Report.{AreOutcomes}
use Rattle.rpki_payloads.proofs.party.run_all.Given as goal

-- what the runs so far come to
abbrev pub invariant-loop-one : goal.invariant-loop-one
invariant-loop-one g l =
    AreOutcomes (party_of g.F.Folders.finds g.C.Crypto.digest_of g.C.Crypto.is_signed l.party)
    (take l.one-index l.locators) l.outcomes.items
