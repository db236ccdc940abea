use Rattle.std.proofs.Common.{sym, ◌∙◌}
use Rattle.rpki_cli.proofs.Orders.{asked-unnamed}
use Rattle.rpki_cli.proofs.words.parse.Goals as goal

pub returns-else-each_named : goal.returns-else-each_named
returns-else-each_named c =
    asked-unnamed _ c.in_ok-order.order c.in_ok-order.ensures.0 c.in_ok-order.ensures.1
    (sym c.each_named.ensures ∙ c.if-each_named.false)
