-- The identifiers of extensions, policies and access methods.
use Rattle.std.specs.Prelude.{ℕ, List, [], ◌∷◌}

-- id-ce, which is 2.5.29, and an arc (RFC 5280, section 4.2.1)
abbrev pub id_ce : ℕ → List ℕ
id_ce arc = 0x55 ∷ 0x1D ∷ arc ∷ []

-- id-pkix, which is 1.3.6.1.5.5.7, and two arcs (RFC 5280, section 4.2.2)
abbrev pub id_pkix : ℕ → ℕ → List ℕ
id_pkix first second =
    0x2B ∷ 0x06 ∷ 0x01 ∷ 0x05 ∷ 0x05 ∷ 0x07 ∷ first ∷ second ∷ []
