use Rattle.std.proofs.Common.{codes}
use Rattle.rpki_payloads.specs.Formats.Json.{items_text}
use Rattle.rpki_payloads.proofs.Written.{thrice}
use Rattle.rpki_payloads.proofs.formats.json_text.push_list.Goals as goal

pub returns : goal.returns
returns g c = λ line appends.
    thrice c.write-2.result c.args.text.now c.write.new.self c.push_items.new.text
    c.write-2.new.self c.args.begin.now (items_text line (g.I.Listed.rest c.args.items))
    (codes "\n]") c.in_ok-write.ensures.bytes (c.in_ok-push_items.ensures line appends)
    c.write-2.ensures.bytes
