-- Signed attributes that are not made, or not signed.
use Rattle.std.specs.Prelude.{◌<◌, ℕ, List, length}
use Rattle.std.specs.List.{concat}
use Rattle.rpki_basics.specs.declared.signing.SigningError.{SigningError}
use Rattle.rpki_basics.specs.declared.signing.SigningError.TheVariants as error
use Rattle.rpki_attributes.specs.declared.fault.AttrsFault.{AttrsFault}
use Rattle.rpki_attributes.specs.declared.fault.AttrsFault.TheVariants as unmade
use Rattle.rpki_attributes.specs.Attrs.{most_octets}

-- the error for attributes that are not made
abbrev pub attrs_error : {E : Type 0} → AttrsFault → SigningError E
attrs_error unmade.AttrsTooLong = error.AttrsTooLong
attrs_error unmade.Memory = error.Memory

-- Why these attributes are not made and signed: a fault of the signer, or that they have more than
-- 65535 octets; or memory ran out.
abbrev pub AreNotSigned : {E : Type 0} → List (List ℕ) → SigningError E → Type 0
AreNotSigned parts error.KeyNotFound = Unit {0}
AreNotSigned parts error.IncompatibleKey = Unit {0}
AreNotSigned parts (error.Signer e) = Unit {0}
AreNotSigned parts error.AttrsTooLong = most_octets < length (concat parts)
AreNotSigned parts error.TooLong = ⊥
AreNotSigned parts (error.Content fault) = ⊥
AreNotSigned parts error.NotDer = ⊥
AreNotSigned parts error.Memory = Unit {0}
