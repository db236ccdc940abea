-- Which lists count for which CAs.
use Rattle.std.proofs.Common.{ℕ, List, Bool, IsTrue, ◌↔◌, subst}
use Rattle.rpki_der.specs.declared.mode.Mode.TheVariants.{Der}
use Rattle.rpki_der.specs.Form.Decodes.{IsOnlyFront}
use Rattle.rpki_certs.specs.Cert.{Certificate, CertForm}
use Rattle.rpki_crls.specs.Crl.{RevocationList}
use Rattle.rpki_validation.specs.RevocationList.{CountsUnder}
use Rattle.rpki_validation.specs.Revoked.{IsListOf}

-- the certificate that the octets begin with decides
pub decides : (octets rest : List ℕ) (c : Certificate) (list : RevocationList) (b : Bool)
    → IsOnlyFront (CertForm Der) octets c rest → IsTrue b ↔ IsListOf c list
    → IsTrue b ↔ CountsUnder octets list
decides octets rest c list b front h = (
  λ t. record { cert = c; rest = rest; front = front; holds = h.0 t },
  λ w. h.1 (subst (λ (k : Certificate). IsListOf k list)
      (front.only w.cert w.rest w.front.found).0 w.holds),
)
