-- What is said of the octets of a file, by the kind of content that is asked for.
use Rattle.std.specs.Prelude.{◌≡◌, ℕ, List}
use Rattle.rpki_der.specs.Grammar.{Front}
use Rattle.rpki_cli.specs.declared.words.Kind.{Kind}
use Rattle.rpki_cli.specs.declared.words.Options.{Options}
use Rattle.rpki_show.specs.Kinds.{OfKind}

-- these are the lines of what stands at the front of the octets
abbrev pub HasLines : {X : Type 0} → (List ℕ → X → Type 0) → (X → List ℕ) → List ℕ → List ℕ → Type 0
HasLines {X} form text octets lines =
    (x : X) × (rest : List ℕ) × Front form octets x rest × (lines ≡ text x)

-- The lines of a bare content of a kind at the front of the octets, with these options.
abbrev pub LinesOf : Options → Kind → List ℕ → List ℕ → Type 0
LinesOf options kind = OfKind options kind (λ X asked form text. HasLines form text)
