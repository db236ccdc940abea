use Rattle.std.proofs.Common.{◌≡◌, rules}
use Rattle.rpki_relying_party.proofs.Plain.{is_plain, plain-found}
use Rattle.rpki_relying_party.proofs.folder.names.is_plain.Goals as goal

pub returns-else-ne : goal.returns-else-ne
returns-else-ne c =
    let e : c.if-not-is_empty.value ≡ is_plain c.args.segment.now = search rules in
    plain-found c.args.segment.now c.if-not-is_empty.value e
