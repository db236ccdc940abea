use Rattle.std.proofs.Common.{codes}
use Rattle.std.specs.List.{flat_map}
use Rattle.rpki_payloads.specs.Formats.Openbgpd.{aspa_set_line, some_aspas}
use Rattle.rpki_payloads.proofs.Written.{thrice}
use Rattle.rpki_payloads.proofs.formats.openbgpd.push_some_aspas.Goals as goal

pub returns : goal.returns
unfolding some_aspas
returns c =
    thrice c.write-2.result c.args.text.now c.write.new.self c.push_aspas.new.text
    c.write-2.new.self (codes "aspa-set {\n") (flat_map aspa_set_line c.args.groups.now)
    (codes "}\n")
    c.in_ok-write.ensures.bytes c.in_ok-push_aspas.ensures c.write-2.ensures.bytes
