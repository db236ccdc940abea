use Rattle.std.proofs.Common.{◌∙◌, All, List, map, subst}
use Rattle.std.proofs.lemmas.List.{take_all}
use Rattle.std.specs.Prelude.{IfSome}
use Rattle.rpki_cli.specs.Store.{Told}
use Rattle.rpki_relying_party.specs.Steps.{has_key}
use Rattle.rpki_program.specs.Verify.Files.{AreDigests, IsHeld, folder_with, named_of}
use Rattle.rpki_program.specs.declared.verify.folders.Wanted.{Wanted}
use Rattle.rpki_program.proofs.Foldered.{held-more, known-more, lacking-more, told-state, unread-more}
use Rattle.rpki_program.proofs.verify.folders.compare.Goals as goal

pub loop-i-preserved : goal.loop-i-preserved
loop-i-preserved g c =
    let l = c.loop-i in
    let before = g.S.Store.told l.store in
    let told = g.S.Store.told c.args.store.now in
    let f = folder_with told c.args.folder in
    let i = c.loop-i-test.true in
    let s = c.in_ok-state.state in
    let worse = c.worse-status in
    record {
      same = c.state_of.ensures.same ∙ l.invariant.same;
      digests =
          subst (λ (t : Told). IfSome c.state_of.new.digests
          (λ d. AreDigests (folder_with t c.args.folder) (has_key d.known) d.unread))
          l.invariant.same c.state_of.ensures.digests;
      held =
          held-more f c.args.wanted.now l.i _ i s
          (told-state before told c.args.folder c.args.wanted.now l.i _ s l.invariant.same
          c.in_ok-state.ensures.state) l.status c.status.result worse.result c.status.ensures
          worse.ensures.one worse.ensures.status worse.ensures.more l.invariant.held;
      lacking =
          lacking-more f c.args.wanted.now l.i _ i s
          (told-state before told c.args.folder c.args.wanted.now l.i _ s l.invariant.same
          c.in_ok-state.ensures.state) l.status c.status.result worse.result c.status.ensures
          worse.ensures.one l.invariant.lacking;
      unread =
          unread-more f c.args.wanted.now l.i _ i s
          (told-state before told c.args.folder c.args.wanted.now l.i _ s l.invariant.same
          c.in_ok-state.ensures.state) l.status c.status.result worse.result c.status.ensures
          worse.ensures.one l.invariant.unread;
      known =
          known-more f c.args.wanted.now l.i _ i s
          (told-state before told c.args.folder c.args.wanted.now l.i _ s l.invariant.same
          c.in_ok-state.ensures.state) l.status c.status.result worse.result c.status.ensures
          worse.ensures.one l.invariant.known;
    }

pub returns : goal.returns
returns g c =
    let l = c.loop-i in
    let f = folder_with (g.S.Store.told c.args.store.now) c.args.folder in
    record {
      held = λ e. subst (λ (ws : List Wanted). All (IsHeld f) (map named_of ws))
          (take_all l.i c.args.wanted.now c.loop-i-test.false) (l.invariant.held e);
      lacking = l.invariant.lacking;
      unread = l.invariant.unread;
      known = l.invariant.known;
    }
