use Rattle.std.proofs.Common.{codes}
use Rattle.std.specs.List.{flat_map}
use Rattle.rpki_payloads.specs.Formats.Openbgpd.{roa_line, roa_set}
use Rattle.rpki_payloads.proofs.Written.{thrice}
use Rattle.rpki_payloads.proofs.formats.openbgpd.push_roa_set.Goals as goal

pub returns : goal.returns
unfolding roa_set
returns c =
    thrice c.write-2.result c.args.text.now c.write.new.self c.push_roas.new.text
    c.write-2.new.self (codes "roa-set {\n") (flat_map roa_line c.args.rows.now) (codes "}\n")
    c.in_ok-write.ensures.bytes c.in_ok-push_roas.ensures c.write-2.ensures.bytes
