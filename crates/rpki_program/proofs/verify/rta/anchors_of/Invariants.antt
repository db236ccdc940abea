use Rattle.std.proofs.Common.{◌≡◌, take}
use Rattle.rpki_program.specs.Verify.Rta.{AreAnchors}
use Rattle.rpki_program.proofs.verify.rta.anchors_of.Given as goal

-- the anchors so far
abbrev pub invariant-loop-word : goal.invariant-loop-word
invariant-loop-word g l = record {
  same : g.S.Store.told l.store ≡ g.S.Store.told l.fn.store;
  made : AreAnchors (g.S.Store.told l.fn.store) l.moment (take l.word-index l.words) l.anchors.items;
}
