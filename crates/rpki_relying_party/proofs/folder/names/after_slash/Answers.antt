use Rattle.std.proofs.Common.{rules, sym}
use Rattle.std.proofs.lemmas.List.{take_rest}
use Rattle.rpki_relying_party.proofs.Slashes.{after-first, after-none}
use Rattle.rpki_relying_party.proofs.folder.names.after_slash.Goals as goal

pub returns-in-Some : goal.returns-in-Some
returns-in-Some c =
    let found = after-first c.args.octets.now c.in-Some.at (search rules) (search rules)
    (search rules) in rw (found, take_rest)

pub returns-in-None : goal.returns-in-None
returns-in-None c = sym (after-none c.args.octets.now (search rules))
