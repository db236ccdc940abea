-- Origins as tables of BIRD 2.
use Rattle.std.specs.Prelude.{ℕ, Bool, not, List, [], ◌++◌, ◌==◌, codes, decimal, if◌then◌else◌}
use Rattle.std.specs.List.{flat_map}
use Rattle.rpki_payloads.specs.Formats.Row.{OriginRow}
use Rattle.rpki_payloads.specs.Texts.Origin.{prefix_of}

-- the route of an origin, as `route 192.0.2.0/24 max 26 as 64496;`
abbrev pub route : OriginRow → List ℕ
route r = codes "\troute " ++ (prefix_of r.origin ++ (codes " max " ++ (decimal r.origin.max_len
    ++ (codes " as " ++ (decimal r.origin.asn ++ codes ";\n")))))

-- whether it is one of IPv4
abbrev pub is_v4 : OriginRow → Bool
is_v4 r = r.origin.family == 1

-- whether it is one of IPv6
abbrev pub is_v6 : OriginRow → Bool
is_v6 r = not (is_v4 r)

-- the route of an origin of IPv4, and nothing of another
abbrev pub route_v4 : OriginRow → List ℕ
route_v4 r = if is_v4 r then route r else []

-- the route of an origin of IPv6, and nothing of another
abbrev pub route_v6 : OriginRow → List ℕ
route_v6 r = if is_v4 r then [] else route r

-- the table for IPv4, with a route for each origin of that family
unfoldable pub table_v4 : List OriginRow → List ℕ
table_v4 rows =
    codes "roa4 table ROAS4;\n\nprotocol static origins4 {\n\troa4 { table ROAS4; };\n"
    ++ (flat_map route_v4 rows ++ codes "}\n")

-- the table for IPv6, with a route for each other origin
unfoldable pub table_v6 : List OriginRow → List ℕ
table_v6 rows =
    codes "\nroa6 table ROAS6;\n\nprotocol static origins6 {\n\troa6 { table ROAS6; };\n"
    ++ (flat_map route_v6 rows ++ codes "}\n")

-- both tables
abbrev pub bird_text : List OriginRow → List ℕ
bird_text rows = table_v4 rows ++ table_v6 rows
