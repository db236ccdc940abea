use Rattle.rpki_payloads.proofs.Counted.{counted-from, counted-before}
use Rattle.rpki_payloads.proofs.seconds.seconds_of.Goals as goal

pub returns-in-Ok : goal.returns-in-Ok
returns-in-Ok c =
    let stamp = c.stamp-stamp.ensures in
    let date = c.constrain-date.ensures in
    let day = c.to_unix_epoch_day.ensures in
    counted-from c.args.time stamp.real c.stamp-stamp.result _ _ _ _ stamp.stamp date.year
    date.month date.day day.value day.bound c.in-Ok.day c.in-Ok.ensures.0 c.in-Ok.ensures.1

pub returns-in-Err : goal.returns-in-Err
returns-in-Err c =
    let stamp = c.stamp-stamp.ensures in
    let date = c.constrain-date.ensures in
    let day = c.to_unix_epoch_day.ensures in
    counted-before c.args.time stamp.real c.stamp-stamp.result _ _ _ _ stamp.stamp date.year
    date.month date.day day.value day.bound c.in-Err.ensures
