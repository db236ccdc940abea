use Rattle.rpki_der.specs.Read.Parse.{any_at}
use Rattle.rpki_der.specs.Grammar.{Value}
use Rattle.rpki_der.proofs.Reading.Exact.{exact-any}
use Rattle.rpki_der.proofs.Reading.Unique.{reading, value-ber}
use Rattle.rpki_der.proofs.laws.values.Goals as goal

pub returns : goal.returns
returns c =
    reading any_at (λ mode octets v. Value mode octets v.0 v.1) exact-any
    (λ o v. value-ber o v.0 v.1) (λ mode o v h. (v.0, v.1, h))
