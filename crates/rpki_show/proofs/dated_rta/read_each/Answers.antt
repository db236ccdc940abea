use Rattle.rpki_show.proofs.Carried.{all-read, one-more}
use Rattle.rpki_show.proofs.dated_rta.read_each.Goals as goal

pub loop-crl-init : goal.loop-crl-init
loop-crl-init c = rw c.new-lists.ensures.items tt

pub loop-crl-preserved : goal.loop-crl-preserved
loop-crl-preserved c =
    rw c.in_ok-push.ensures.items
    (one-more c.args.crls.now c.loop-crl.crl-index c.crl-item.result c.loop-crl.lists.items
    c.in_ok-list.list c.loop-crl-test.true c.crl-item.is c.loop-crl.invariant
    c.in_ok-list.ensures)

pub returns : goal.returns
returns c =
    all-read c.args.crls.now c.loop-crl.crl-index c.loop-crl.lists.items c.loop-crl.invariant
    c.loop-crl-test.false
