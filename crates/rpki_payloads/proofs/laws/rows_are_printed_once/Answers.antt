use Rattle.rpki_payloads.proofs.Formatted.{bird-each, client-each, csv-each, json-each}
use Rattle.rpki_payloads.proofs.Formatted.{lines-each, long-each, openbgpd-each}
use Rattle.rpki_payloads.proofs.laws.rows_are_printed_once.Goals as goal

pub returns : goal.returns
returns c = record {
  lines = lines-each;
  long = long-each;
  csv = csv-each;
  json = json-each;
  client = client-each;
  bird = bird-each;
  openbgpd = openbgpd-each;
}
