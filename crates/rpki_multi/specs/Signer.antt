-- What a signer of an attestation says.
use Rattle.std.specs.Prelude.{◌≡◌, ◌≤◌, ℕ, List, [], ◌∷◌, length}
use Rattle.rpki_attributes.specs.declared.attribute.OtherTypes.TheVariants.{Refuse}
use Rattle.rpki_attributes.specs.Attrs.{AttributesForm, most_octets}
use Rattle.rpki_extensions.specs.KeyIdentifiers.{id_length}
use Rattle.rpki_sigobj.specs.SignerInfo.{KeptSigner}

-- id-ct-resourceTaggedAttestation, 1.2.840.113549.1.9.16.1.36 (draft-michaelson-rpki-rta, section
-- 3)
abbrev pub id_rta : List ℕ
id_rta = 0x2A ∷ 0x86 ∷ 0x48 ∷ 0x86 ∷ 0xF7 ∷ 0x0D ∷ 0x01 ∷ 0x09 ∷ 0x10 ∷ 0x01 ∷ 0x24 ∷ []

-- What holds of all that a signer says: its key is named by 20 octets, and its attributes are
-- signed attributes by the rules of their mode, without others, whose content type is that of
-- attestations.
pub record IsAttested (k : KeptSigner) : Type 0 where
  pub sid : length k.signer.sid ≡ id_length
  pub type : k.signer.attributes.content_type ≡ id_rta
  pub most : length k.signer.attributes.contents ≤ most_octets
  pub form : AttributesForm Refuse k.mode k.signer.attributes.contents k.signer.attributes
