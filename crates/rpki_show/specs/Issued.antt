-- What is said of a certificate and of a revocation list that are shown.
use Rattle.std.specs.Prelude.{ℕ, List}
use Rattle.rpki_certs.specs.Cert.{CertForm}
use Rattle.rpki_der.specs.declared.mode.Mode.TheVariants.{Der}
use Rattle.rpki_show.specs.Contents.{HasLines}
use Rattle.rpki_show.specs.Dated.{DatedForm}
use Rattle.rpki_show.specs.Texts.Certificate.{certificate_text}
use Rattle.rpki_show.specs.Texts.Crl.{crl_text}

-- The lines of a certificate at the front of the octets, in DER (RFC 6487, section 4).
abbrev pub CertificateLines : List ℕ → List ℕ → Type 0
CertificateLines = HasLines (CertForm Der) certificate_text

-- The lines of a revocation list at the front of the octets, in DER (RFC 6487, section 5).
abbrev pub CrlLines : List ℕ → List ℕ → Type 0
CrlLines = HasLines (DatedForm Der) crl_text
