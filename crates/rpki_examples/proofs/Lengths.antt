-- The maximum lengths of a ROA.
use Rattle.std.proofs.Common.{◌≤◌, ℕ, List, Option, None, Some, All, Result, Ok, Err, subst}
use Rattle.std.specs.Prelude.{IfOk, IfSome}
use Rattle.std.proofs.lemmas.List.Elements.{All-weaker}
use Rattle.rpki_der.specs.declared.error.DecodeError.{DecodeError}
use Rattle.rpki_der.specs.Form.Decodes.{Decodes}
use Rattle.rpki_der.specs.Grammar.{IsBytes}
use Rattle.rpki_der.proofs.Reading.Exact.{IsBytes-left}
use Rattle.rpki_resources.specs.declared.family.AddressFamily.{AddressFamily}
use Rattle.rpki_resources.specs.declared.family.AddressFamily.TheVariants.{Ipv4, Ipv6}
use Rattle.rpki_resources.specs.Family.{max_bits}
use Rattle.rpki_routes.specs.Roa.{Address, IsAddress, IsMaxLength, IsRoa, Roa}
use Rattle.rpki_routes.specs.Roa.Form.{RoaForm}
use Rattle.rpki_examples.specs.Routes.{AreWithin}

module _ (family : AddressFamily) where
  within-max : (len : ℕ) (max : Option ℕ) → IfSome max (IsMaxLength family len)
      → IfSome max (λ m. m ≤ max_bits family)
  within-max len None h = tt
  within-max len (Some max) h = h.1

  -- no maximum length is above that of an address of the family
  are-within : (list : List Address) → All (IsAddress family) list
      → AreWithin (max_bits family) list
  are-within list all =
      All-weaker (IsAddress family)
      (λ (a : Address). IfSome a.max_length (λ m. m ≤ max_bits family))
      (λ a is. within-max a.prefix.len a.max_length is.longest) list all

-- none is in a ROA that was read
pub roa-within : (octets : List ℕ) (result : Result Roa DecodeError) → IsBytes octets
    → ((o : List ℕ) (r : Roa) → IsBytes o → RoaForm o r → IsRoa r)
    → Decodes RoaForm (λ (r : Roa). r) octets result
    → IfOk result (λ roa. AreWithin 32 roa.v4 × AreWithin 128 roa.v6)
roa-within octets (Ok roa) bytes found h =
    let front = h.1.found in
    let is = found front.0 roa (IsBytes-left front.0 h.0 (subst IsBytes front.1 bytes)) front.2 in
    (are-within Ipv4 roa.v4 is.v4, are-within Ipv6 roa.v6 is.v6)
roa-within octets (Err e) bytes found h = tt
