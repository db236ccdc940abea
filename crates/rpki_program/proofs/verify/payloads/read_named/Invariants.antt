use Rattle.std.proofs.Common.{◌≡◌, take}
use Rattle.rpki_program.specs.Verify.Payloads.{AreNamedFiles}
use Rattle.rpki_program.proofs.verify.payloads.read_named.Given as goal

-- the files so far
abbrev pub invariant-loop-i : goal.invariant-loop-i
invariant-loop-i g l = record {
  same : g.S.Store.told l.store ≡ g.S.Store.told l.fn.store;
  read : AreNamedFiles (g.S.Store.told l.fn.store) (take l.i l.names) l.files.items;
}
