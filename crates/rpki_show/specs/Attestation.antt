-- What is said of an attestation that is shown (draft-michaelson-rpki-rta).
use Rattle.std.specs.Prelude.{ℕ, List}
use Rattle.rpki_der.specs.declared.mode.Mode.TheVariants.{Der}
use Rattle.rpki_tagged.specs.Attestation.{AttestationForm}
use Rattle.rpki_multi.specs.Attestation.{RtaForm}
use Rattle.rpki_show.specs.Contents.{HasLines}
use Rattle.rpki_show.specs.DatedRta.{DatedRtaForm}
use Rattle.rpki_show.specs.Texts.Rta.{attestation_text, rta_text, whole_rta_text}

-- The lines of the content of an attestation at the front of the octets, in DER.
abbrev pub AttestationLines : List ℕ → List ℕ → Type 0
AttestationLines = HasLines (AttestationForm Der) attestation_text

-- The lines of an attestation at the front of the octets, in DER with any options.
abbrev pub RtaLines : List ℕ → List ℕ → Type 0
RtaLines = HasLines (RtaForm Der) rta_text

-- The lines of an attestation, and those of each certificate and of each revocation list that it
-- carries.
abbrev pub WholeRtaLines : List ℕ → List ℕ → Type 0
WholeRtaLines = HasLines (DatedRtaForm Der) whole_rta_text
