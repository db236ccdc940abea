-- The lines of a ROA content.
use Rattle.std.specs.Prelude.{ℕ, List, ◌++◌, codes}
use Rattle.std.specs.List.{flat_map}
use Rattle.rpki_resources.specs.As.{asn_text}
use Rattle.rpki_resources.specs.Text.{max_len_text}
use Rattle.rpki_routes.specs.Roa.{Roa, FamilyAddress, addresses, max_len_prefix}

-- the line of the autonomous system
abbrev pub as_line : ℕ → List ℕ
as_line n = codes "as " ++ (asn_text n ++ codes "\n")

-- the line of a prefix that it may originate, with the maximum length where there is one
abbrev pub origin_line : FamilyAddress → List ℕ
origin_line a = codes "origin " ++ (max_len_text (max_len_prefix a) ++ codes "\n")

-- the name of the kind, the autonomous system, and a line for each prefix, those of IPv4 first
abbrev pub roa_text : Roa → List ℕ
roa_text r = codes "roa\n" ++ (as_line r.as_id ++ flat_map origin_line (addresses r))
