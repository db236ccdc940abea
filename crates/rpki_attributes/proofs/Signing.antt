-- Attributes that are not made are not signed.
use Rattle.std.proofs.Common.{◌≡◌, ℕ, ◌<◌, List, length, Err, refl}
use Rattle.std.specs.List.{concat}
use Rattle.rpki_basics.specs.Signing.{CountsError}
use Rattle.rpki_attributes.specs.declared.fault.AttrsFault.{AttrsFault}
use Rattle.rpki_attributes.specs.declared.fault.AttrsFault.TheVariants as unmade
use Rattle.rpki_attributes.specs.Attrs.{most_octets}
use Rattle.rpki_attributes.specs.Signing.{AreNotSigned, attrs_error}

-- why attributes are not made is why they are not signed
pub not-made : (E : Type 0) (parts : List (List ℕ)) (f : AttrsFault)
    → (f ≡ unmade.AttrsTooLong → most_octets < length (concat parts))
    → AreNotSigned {E = E} parts (attrs_error {E = E} f)
not-made E parts unmade.AttrsTooLong h = h refl
not-made E parts unmade.Memory h = tt

-- attributes that are not made count no failure
pub counts-unmade : (T E : Type 0) (old new : ℕ) (f : AttrsFault) → new ≡ old
    → CountsError {T = T} {E = E} old new (Err (attrs_error f))
counts-unmade T E old new unmade.AttrsTooLong h = h
counts-unmade T E old new unmade.Memory h = h
