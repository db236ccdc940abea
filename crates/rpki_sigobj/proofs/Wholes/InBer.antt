-- What is read strictly is read in BER too.
use Rattle.std.proofs.Common.{ℕ, List}
use Rattle.rpki_der.specs.Tags.{SEQUENCE}
use Rattle.rpki_resources.proofs.Readings.{part-reading}
use Rattle.rpki_sigobj.proofs.Objects.Exact.{object-part}
use Rattle.rpki_sigobj.specs.Signed.{IsInBer}

pub in-ber : {X : Type 0} (type : List ℕ) (form : List ℕ → X → Type 0) → IsInBer type form
in-ber type form octets o h =
    let reading = part-reading object-part (λ mode o x h. (SEQUENCE, h.1.0, h.1.1)) in
    ((reading.relaxed octets o.object h.0.0, h.0.1), h.1)
