use Rattle.rpki_resources.proofs.AsNumbers.Writing.{set-below, as-read}
use Rattle.rpki_resources.proofs.laws.forms.as_sets_are_written_again.Goals as goal

pub returns-clause-below : goal.returns-clause-below
returns-clause-below c = set-below

pub returns-clause-read : goal.returns-clause-read
returns-clause-read c =
    λ mode again octets set rest h l. as-read again set rest h.2.canonical
    (set-below mode octets set h) l
