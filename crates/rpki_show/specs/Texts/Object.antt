-- The lines of a signed object.
use Rattle.std.specs.Prelude.{ℕ, List, ◌++◌, codes}
use Rattle.rpki_basics.specs.Moment.{Moment}
use Rattle.rpki_basics.specs.Time.Form.{iso_text}
use Rattle.rpki_certs.specs.Cert.{Certificate}
use Rattle.rpki_der.specs.Text.Hex.{upper_hex}
use Rattle.rpki_show.specs.Texts.Certificate.{certificate_text}
use Rattle.rpki_show.specs.Texts.Serial.{hexadecimal}
use Rattle.rpki_show.specs.declared.texts.serial.Hexadecimal.{Hexadecimal}
use Rattle.rpki_show.specs.declared.texts.serial.Hexadecimal.TheVariants.{Octets}
use Rattle.rpki_sigobj.specs.Signed.{Whole}

-- the line of the moment at which it was signed, by what the signer says
unfoldable pub signing_line : Moment → List ℕ
signing_line m = codes "signing " ++ (iso_text m ++ codes "\n")

-- the line of the certificate of the signer, an end entity: its serial number, and the identifier
-- of its key
unfoldable pub signer_line : Hexadecimal → Certificate → List ℕ
signer_line way c =
    codes "ee " ++ (hexadecimal way c.tbs.serial_number
    ++ (codes " " ++ (upper_hex c.tbs.extensions.key.subject_key ++ codes "\n")))

-- the lines of the content, and those of the signer
abbrev pub object_text : {X : Type 0} → Hexadecimal → (X → List ℕ) → Whole X → List ℕ
object_text way text o =
    text o.content ++ (signing_line o.object.signed.signer.attributes.signing_time
    ++ signer_line way o.object.signed.cert)

-- the text of an object, with the serial number as the lines of the certificate of the signer have
-- it, and then these lines
abbrev pub whole_text : {X : Type 0} → (X → List ℕ) → Whole X → List ℕ
whole_text text o = object_text Octets text o ++ certificate_text o.object.signed.cert
