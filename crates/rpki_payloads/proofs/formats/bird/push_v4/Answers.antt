use Rattle.std.proofs.Common.{codes}
use Rattle.std.specs.List.{flat_map}
use Rattle.rpki_payloads.specs.Formats.Bird.{route_v4, table_v4}
use Rattle.rpki_payloads.proofs.Written.{thrice}
use Rattle.rpki_payloads.proofs.formats.bird.push_v4.Goals as goal

pub returns : goal.returns
unfolding table_v4
returns c =
    thrice c.write-2.result c.args.text.now c.write.new.self c.push_routes_v4.new.text
    c.write-2.new.self
    (codes "roa4 table ROAS4;\n\nprotocol static origins4 {\n\troa4 { table ROAS4; };\n")
    (flat_map route_v4 c.args.rows.now) (codes "}\n") c.in_ok-write.ensures.bytes
    c.in_ok-push_routes_v4.ensures c.write-2.ensures.bytes
