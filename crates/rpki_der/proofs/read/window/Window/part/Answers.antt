use Rattle.std.proofs.Common.{drop, ◌+◌, ◌-◌, ◌≤◌, length, slice_range, arith, sym}
use Rattle.std.proofs.lemmas.List.{length-take, length-drop}
use Rattle.bytes.proofs.Ranges.{slice_range-slice_range}
use Rattle.rpki_der.proofs.read.window.Window.part.Goals as goal

pub returns : goal.returns
returns c =
    let w = c.self.inside in
    let within : c.args.to ≤ length (slice_range w.source.now w.start w.end) =
    rw c.self.view_is c.requires.within in
    let fits : w.start + c.args.to ≤ w.end =
    omega (
      arith,
      within,
      c.self.invariant,
      length-take (w.end - w.start) (drop w.start w.source.now),
      length-drop w.start w.source.now,
    ) in
    rw (← c.self.view_is)
    (sym (slice_range-slice_range w.source.now w.start w.end c.args.from c.args.to
    c.requires.order fits))
