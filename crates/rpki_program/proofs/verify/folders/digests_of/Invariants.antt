use Rattle.std.proofs.Common.{◌≡◌, map, string_bytes, take}
use Rattle.rpki_relying_party.specs.Steps.{has_key}
use Rattle.rpki_program.specs.Verify.Files.{AreDigests}
use Rattle.rpki_program.proofs.verify.folders.digests_of.Given as goal

-- the digests of the files so far
abbrev pub invariant-loop-i : goal.invariant-loop-i
invariant-loop-i g l = record {
  same : g.S.Store.told l.store ≡ g.S.Store.told l.fn.store;
  digests : AreDigests (record {
    told = g.S.Store.told l.fn.store;
    name = l.folder.path.now;
    files = map string_bytes (take l.i l.folder.names.now);
  }) (has_key l.digests.known) l.digests.unread;
}
