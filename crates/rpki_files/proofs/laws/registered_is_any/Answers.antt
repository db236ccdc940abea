use Rattle.rpki_files.proofs.laws.registered_is_any.Goals as goal

pub returns : goal.returns
returns c = λ mode octets m h. (h.0, record { order = h.1.order; files = tt })
