use Rattle.std.proofs.Common.{codes}
use Rattle.std.specs.List.{flat_map}
use Rattle.rpki_payloads.specs.Formats.Bird.{route_v6, table_v6}
use Rattle.rpki_payloads.proofs.Written.{thrice}
use Rattle.rpki_payloads.proofs.formats.bird.push_v6.Goals as goal

pub returns : goal.returns
unfolding table_v6
returns c =
    thrice c.write-2.result c.args.text.now c.write.new.self c.push_routes_v6.new.text
    c.write-2.new.self
    (codes "\nroa6 table ROAS6;\n\nprotocol static origins6 {\n\troa6 { table ROAS6; };\n")
    (flat_map route_v6 c.args.rows.now) (codes "}\n") c.in_ok-write.ensures.bytes
    c.in_ok-push_routes_v6.ensures c.write-2.ensures.bytes
