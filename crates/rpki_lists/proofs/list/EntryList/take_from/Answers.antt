use Rattle.rpki_lists.proofs.Taking.{take-free}
use Rattle.rpki_lists.proofs.list.EntryList.take_from.Goals as goal

pub returns-clause-reads : goal.returns-clause-reads
returns-clause-reads g c =
    take-free g.K.EntryKind.entry_at c.new.result (λ l. l) c.args.cons.now c.take_list.result
    c.take_list.new.cons c.take_list.ensures.reads
