use Rattle.rpki_show.proofs.Carried.{whole-list}
use Rattle.rpki_show.proofs.dated_rta.read_one.Goals as goal

pub returns-in-Ok : goal.returns-in-Ok
returns-in-Ok c =
    let front = c.in-Ok.ensures in
    whole-list _ c.args.crl.now.list c.in-Ok.list front.0 c.in_ok-octets.ensures.octets
    c.in_ok-octets.ensures.form front.1
