use Rattle.rpki_payloads.proofs.Spoken.{client-says, json-says}
use Rattle.rpki_payloads.proofs.laws.objects_say_their_payloads.Goals as goal

pub returns : goal.returns
returns c = record { json = json-says; client = client-says }
