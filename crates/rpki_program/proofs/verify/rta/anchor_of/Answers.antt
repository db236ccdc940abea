use Rattle.std.proofs.Common.{sym}
use Rattle.rpki_program.proofs.Anchored.{issued-anchor, issued-none, located-anchor}
use Rattle.rpki_program.proofs.verify.rta.anchor_of.Goals as goal

pub returns-then-is_locator-clause-anchor : goal.returns-then-is_locator-clause-anchor
returns-then-is_locator-clause-anchor g c =
    located-anchor (g.S.Store.told c.args.store.now) c.args.moment c.args.word.now c.in_ok-under.under
    c.in_ok-under.ensures c.located.result (sym c.if-is_locator.ensures) c.located.ensures.anchor

pub returns-clause-anchor : goal.returns-clause-anchor
returns-clause-anchor g c =
    issued-anchor (g.S.Store.told c.args.store.now) c.args.moment c.args.word.now c.in_ok-under.under
    c.in_ok-under.ensures c.issued.result (sym c.if-is_locator.ensures) c.issued.ensures.anchor

pub returns-clause-none : goal.returns-clause-none
returns-clause-none g c =
    issued-none (g.S.Store.told c.args.store.now) c.args.moment c.args.word.now c.in_ok-under.under
    c.in_ok-under.ensures c.issued.result (sym c.if-is_locator.ensures) c.issued.ensures.none
