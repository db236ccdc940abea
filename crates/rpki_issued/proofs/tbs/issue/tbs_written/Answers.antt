use Rattle.std.proofs.Common.{◌≡◌}
use Rattle.rpki_der.specs.declared.mode.Mode.TheVariants.{Der}
use Rattle.rpki_issued.specs.Tbs.{NamesInDer, tbs_of, fields_octets}
use Rattle.rpki_issued.specs.Written.{tbs_contents}
use Rattle.rpki_issued.proofs.Lengths.{bytes-as, fields-join}
use Rattle.rpki_issued.proofs.tbs.issue.tbs_written.Goals as goal

pub returns : goal.returns
returns c =
    bytes-as ((c.args.t.now.issuer.mode ≡ Der) × (c.args.subject.now.mode ≡ Der))
    (NamesInDer c.args.t.now) (fields_octets c.args.t.now c.args.subject.now.octets)
    (tbs_contents (tbs_of c.args.t.now)) c.fields_written.result
    (λ k. (k.0, c.requires.mode.0 k.1)) (λ k. (k.0, c.requires.mode.1 k.1))
    (fields-join c.args.t.now c.args.subject.now.octets c.requires.octets)
    c.fields_written.ensures
