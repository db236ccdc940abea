-- The octets of URIs are ASCII.
use Rattle.std.proofs.Common.{◌≡◌, ℕ, zero, suc, ◌≤◌, ◌<◌, true, List, [], ◌∷◌, get_or, arith}
use Rattle.std.specs.Prelude.{◌&&◌, nat_le}
use Rattle.std.specs.List.{list_all}
use Rattle.std.specs.Str.{IsUtf8}
use Rattle.std.proofs.lemmas.Str.{IsUtf8-from_ascii}
use Rattle.std.proofs.lemmas.Bool.{leb-true, and_parts}
use Rattle.rpki_basics.specs.Uri.{is_uri_octet, AreUriOctets}

octet-small : (octet : ℕ) → is_uri_octet octet ≡ true → octet < 128
octet-small octet e =
    let a = and_parts (nat_le 0x21 octet && nat_le octet 0x7E) _ e in
    let b = and_parts (nat_le 0x21 octet) (nat_le octet 0x7E) a.0 in
    let c : octet ≤ 0x7E = leb-true _ _ b.1 in
    omega arith

small-at : (text : List ℕ) → AreUriOctets text → (i : ℕ) → get_or text i 0 < 128
small-at [] h i = omega arith
small-at (octet ∷ text) h zero =
    octet-small octet (and_parts (is_uri_octet octet) (list_all is_uri_octet text) h).0
small-at (octet ∷ text) h (suc i) =
    small-at text (and_parts (is_uri_octet octet) (list_all is_uri_octet text) h).1 i

pub uri-utf8 : (text : List ℕ) → AreUriOctets text → IsUtf8 text
uri-utf8 text h = IsUtf8-from_ascii text (small-at text h)
