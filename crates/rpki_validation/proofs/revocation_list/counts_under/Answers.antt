use Rattle.rpki_validation.proofs.Counting.{decides}
use Rattle.rpki_validation.proofs.revocation_list.counts_under.Goals as goal

pub returns : goal.returns
returns c =
    let d = c.in_ok-cert.ensures.decodes in
    decides c.args.octets.now d.0 c.in_ok-cert.cert.certificate c.args.list.now.list
    c.is_list_of-counts.result d.1 c.is_list_of-counts.ensures
