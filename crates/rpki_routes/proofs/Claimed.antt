-- The sets of a validated certificate are those of what it claims.
use Rattle.rpki_der.specs.declared.mode.Mode.{Mode}
use Rattle.rpki_certs.specs.Validate.{AreValidated, IsValidatedUnder, Validated}
use Rattle.rpki_sigobj.specs.Signed.{Whole, cert_in}

pub are-validated : {X : Type 0} (mode : Mode) (o : Whole X) (issuer v : Validated)
    → IsValidatedUnder (cert_in mode o) issuer v
    → AreValidated o.object.signed.cert.tbs.extensions.claims issuer.sets v.sets
unfolding IsValidatedUnder
are-validated mode o issuer v h = h.1
