use Rattle.rpki_files.proofs.Manifests.Built.{len-refused}
use Rattle.rpki_files.proofs.manifest.builder.short.Goals as goal

pub returns-in-Err-clause-refused : goal.returns-in-Err-clause-refused
returns-in-Err-clause-refused c =
    len-refused c.encode_ref.result c.args.content c.in-Err.field-0 c.encode_ref.ensures.value
    c.in-Err.ensures
