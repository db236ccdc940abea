use Rattle.rpki_resources.proofs.Addresses.Within.{set-within}
use Rattle.rpki_resources.proofs.Addresses.Writing.{ip-read}
use Rattle.rpki_resources.proofs.laws.forms.ip_sets_are_written_again.Goals as goal

pub returns-clause-within : goal.returns-clause-within
returns-clause-within c = set-within

pub returns-clause-read : goal.returns-clause-read
returns-clause-read c =
    λ family mode again octets set rest bytes h l. ip-read family again set rest h.2.canonical
    (set-within family mode octets set bytes h) l
