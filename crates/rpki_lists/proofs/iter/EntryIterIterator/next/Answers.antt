use Rattle.std.proofs.Common.{Some, sym, ◌∙◌}
use Rattle.rpki_lists.proofs.Lists.{none-left, front-entry, stepped, made-progress, said-no}
use Rattle.rpki_lists.proofs.Lists.{said-yes}
use Rattle.rpki_lists.proofs.iter.EntryIterIterator.next.Goals as goal

pub read-requires : goal.read-requires
read-requires g c =
    front-entry g.E.EntryKind.EntryKind.entry_at g.met.E.EntryKind.EntryKind.shrinks
    (g.E.SliceEntry.slice c.self.inside.reader) c.self.invariant
    (said-no c.is_end.result c.is_end.ensures c.if-is_end.false)

pub invariant_of-self : goal.invariant_of-self
invariant_of-self g c =
    (stepped g.E.SliceEntry.shown g.E.EntryKind.EntryKind.entry_at
    g.met.E.EntryKind.EntryKind.shrinks
    (g.E.SliceEntry.slice c.self.inside.reader) c.read.result
    (g.E.SliceEntry.slice c.read.new.reader)
    c.self.invariant c.read.ensures).are

pub returns-then-is_end-clause-steps : goal.returns-then-is_end-clause-steps
returns-then-is_end-clause-steps g c =
    let e =
    sym c.self.view_is ∙ none-left g.E.EntryKind.EntryKind.entry_at g.met.E.EntryKind.EntryKind.shrinks
    (g.E.SliceEntry.slice c.self.inside.reader)
    (said-yes c.is_end.result c.is_end.ensures c.if-is_end.true) in
    (e, e)

pub returns-else-is_end-clause-steps : goal.returns-else-is_end-clause-steps
returns-else-is_end-clause-steps g c =
    rw (← c.self.view_is) (stepped g.E.SliceEntry.shown g.E.EntryKind.EntryKind.entry_at
    g.met.E.EntryKind.EntryKind.shrinks (g.E.SliceEntry.slice c.self.inside.reader) c.read.result
    (g.E.SliceEntry.slice c.read.new.reader) c.self.invariant c.read.ensures).gives

pub returns-else-is_end-clause-goes : goal.returns-else-is_end-clause-goes
returns-else-is_end-clause-goes g c =
    rw (← c.self.view_is) (made-progress g.E.SliceEntry.shown _ _ (Some c.read.result)
    (stepped g.E.SliceEntry.shown g.E.EntryKind.EntryKind.entry_at
    g.met.E.EntryKind.EntryKind.shrinks
    (g.E.SliceEntry.slice c.self.inside.reader) c.read.result
    (g.E.SliceEntry.slice c.read.new.reader)
    c.self.invariant c.read.ensures).gives)
