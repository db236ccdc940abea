use Rattle.rpki_extensions.proofs.Uris.Tests.{https-kept, https-out}
use Rattle.rpki_extensions.proofs.uri.HttpsNamedUri.of_text.Goals as goal

pub returns-in-Ok : goal.returns-in-Ok
returns-in-Ok c = https-kept c.args.text c.in-Ok.uri c.in-Ok.ensures

pub returns-in-Err : goal.returns-in-Err
returns-in-Err c = https-out c.args.text c.in-Err.field-0 c.in-Err.ensures
