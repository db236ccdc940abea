use Rattle.rpki_extensions.proofs.Uris.Tests.{rsync-kept, rsync-out}
use Rattle.rpki_extensions.proofs.uri.RsyncNamedUri.of_text.Goals as goal

pub returns-in-Ok : goal.returns-in-Ok
returns-in-Ok c = rsync-kept c.args.text c.in-Ok.uri c.in-Ok.ensures

pub returns-in-Err : goal.returns-in-Err
returns-in-Err c = rsync-out c.args.text c.in-Err.field-0 c.in-Err.ensures
