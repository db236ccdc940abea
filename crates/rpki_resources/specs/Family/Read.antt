-- Reading address families as functions on lists.
use Rattle.std.specs.Prelude.{ℕ, List, [], ◌∷◌, Option, None, Some, ◌==◌, if◌then◌else◌}
use Rattle.rpki_der.specs.Numbers.{MAX_DEPTH}
use Rattle.rpki_der.specs.Read.Parse.{Parser, octets_at}
use Rattle.rpki_der.specs.Form.Made.{partly}
use Rattle.rpki_resources.specs.declared.family.AddressFamily.{AddressFamily}
use Rattle.rpki_resources.specs.declared.family.AddressFamily.TheVariants.{Ipv4, Ipv6}

-- the family with this identifier
unfoldable pub family_of : List ℕ → Option AddressFamily
family_of [] = None
family_of (a ∷ []) = None
family_of (a ∷ b ∷ []) =
    if a == 0 then (if b == 1 then Some Ipv4 else if b == 2 then Some Ipv6 else None) else None
family_of (a ∷ b ∷ c ∷ rest) = None

-- an OCTET STRING with the identifier of a family (RFC 3779, section 2.2.3.3)
abbrev pub family_at : Parser AddressFamily
family_at = partly family_of (octets_at MAX_DEPTH)
