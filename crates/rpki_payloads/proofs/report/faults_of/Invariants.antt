use Rattle.std.proofs.Common.{◌≡◌, take, string_bytes}
use Rattle.rpki_payloads.specs.Report.{faults_text}
use Rattle.rpki_payloads.proofs.report.faults_of.Given as goal

-- the lines so far
abbrev pub invariant-loop-one : goal.invariant-loop-one
invariant-loop-one l = string_bytes l.text ≡ faults_text (take l.one-index l.outcomes)
