use Rattle.rpki_payloads.proofs.Tabled.{table-reads}
use Rattle.rpki_payloads.proofs.laws.tables_say_their_origins.Goals as goal

pub returns : goal.returns
returns c = table-reads
