use Rattle.std.proofs.Common.{◌≡◌, ◌⊎◌, All, map, take}
use Rattle.std.specs.Prelude.{Any, IfSome}
use Rattle.rpki_cli.specs.declared.store.Reason.{Reason}
use Rattle.rpki_relying_party.specs.Steps.{has_key}
use Rattle.rpki_program.specs.Verify.Files.{AreDigests, IsHeld, IsLacking, IsUnread, folder_with}
use Rattle.rpki_program.specs.Verify.Files.{named_of}
use Rattle.rpki_program.proofs.verify.folders.compare.Given as goal

-- the status of the files so far
abbrev pub invariant-loop-i : goal.invariant-loop-i
invariant-loop-i g l = record {
  same : g.S.Store.told l.store ≡ g.S.Store.told l.fn.store;
  digests : IfSome l.digests (λ d. AreDigests (folder_with (g.S.Store.told l.fn.store) l.folder)
      (has_key d.known) d.unread);
  held : l.status ≡ 0 → All (IsHeld (folder_with (g.S.Store.told l.fn.store) l.folder))
      (map named_of (take l.i l.wanted));
  lacking : l.status ≡ 1 → Any (IsLacking (folder_with (g.S.Store.told l.fn.store) l.folder))
      (map named_of l.wanted);
  unread : l.status ≡ 4 → Any (λ w. (reason : Reason)
      × IsUnread (folder_with (g.S.Store.told l.fn.store) l.folder) w reason)
      (map named_of l.wanted);
  known : (l.status ≡ 0) ⊎ ((l.status ≡ 1) ⊎ (l.status ≡ 4));
}
