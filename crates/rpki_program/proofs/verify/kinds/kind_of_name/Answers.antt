use Rattle.rpki_program.proofs.Kinded.{named-by-end}
use Rattle.rpki_program.proofs.verify.kinds.kind_of_name.Goals as goal

pub returns-in-len4-up : goal.returns-in-len4-up
returns-in-len4-up c =
    named-by-end c.args.name.now c.as_bytes.result.now _ _ _ _ c.kind_of_extension.result
    c.as_bytes.ensures.value c.in-len4-up.len_at_least c.to_ascii_lowercase.ensures.value
    c.to_ascii_lowercase-in-len4-up.ensures.value c.to_ascii_lowercase-in-len4-up-2.ensures.value
    c.to_ascii_lowercase-in-len4-up-3.ensures.value c.kind_of_extension.ensures
