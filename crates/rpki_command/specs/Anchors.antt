-- What the files of anchors make: locators, and CAs that were validated.
use Rattle.std.specs.Prelude.{◌≡◌, ◌⊎◌, ℕ, List, [], ◌∷◌, ◌++◌, Bool, true, false, length, take}
use Rattle.std.specs.Prelude.{drop, Result, Ok, Err, Vec}
use Rattle.std.specs.declared.alloc.Global.{Global}
use Rattle.rpki_basics.specs.Moment.{Moment}
use Rattle.rpki_certs.specs.Issuer.{MakesIssuer}
use Rattle.rpki_certs.specs.Verify.{Verdict}
use Rattle.rpki_tal.specs.Form.{IsNoTal, IsOnlyTal}
use Rattle.rpki_tal.specs.declared.error.ReadError.{ReadError}
use Rattle.rpki_tal.specs.declared.error.ReadError.TheVariants as tal
use Rattle.rpki_cli.specs.Words.{is_locator, files_of_anchor}
use Rattle.rpki_command.specs.declared.anchors.Anchor.{Anchor}
use Rattle.rpki_command.specs.declared.anchors.Anchor.TheVariants.{Tal, Ca}
use Rattle.rpki_command.specs.declared.anchors.AnchorError.{AnchorError}
use Rattle.rpki_command.specs.declared.anchors.AnchorError.TheVariants.{NoLocator, NoIssuer, Memory}

-- The files of an anchor, which is a locator or a chain: their octets, in the order of the word.
pub record Given : Type 0 where
  pub locates : Bool
  pub files : List (List ℕ)

-- Anchors with the octets of their files, of which each word has as many as it names.
abbrev pub given_in : List (List ℕ) → List (List ℕ) → List Given
given_in [] octets = []
given_in (word ∷ words) octets =
    record {
      locates = is_locator word;
      files = take (length (files_of_anchor word)) octets;
    } ∷ given_in words (drop (length (files_of_anchor word)) octets)

-- What the file of a locator makes, unless memory runs out: what it says (RFC 8630, section 2.2).
abbrev pub IsLocated : List ℕ → Result Anchor AnchorError → Type 0
IsLocated octets (Ok (Tal tal)) = IsOnlyTal octets tal.uris tal.key
IsLocated octets (Ok (Ca ca)) = ⊥
IsLocated octets (Err NoLocator) = IsNoTal octets
IsLocated octets (Err (NoIssuer fault)) = ⊥
IsLocated octets (Err Memory) = Unit {0}

-- why there is no anchor, where a locator is refused so
abbrev pub locator_fault : ReadError → AnchorError
locator_fault tal.Memory = Memory
locator_fault tal.Io = NoLocator
locator_fault tal.UnexpectedEof = NoLocator
locator_fault (tal.BadUri cause) = NoLocator
locator_fault tal.BadKeyInfoEncoding = NoLocator
locator_fault (tal.BadKeyInfo cause) = NoLocator

-- What the certificates of a chain make, unless memory runs out: the issuer that the last of them
-- is, as `check` has it.
abbrev pub IsChained : Verdict → Moment → List ℕ → List (List ℕ) → Result Anchor AnchorError
    → Type 0
IsChained verdict now first others (Ok (Tal tal)) = ⊥
IsChained verdict now first others (Ok (Ca ca)) = MakesIssuer verdict now first others (Ok ca)
IsChained verdict now first others (Err NoLocator) = ⊥
IsChained verdict now first others (Err (NoIssuer fault)) =
    MakesIssuer verdict now first others (Err fault)
IsChained verdict now first others (Err Memory) = Unit {0}

-- what these files make, of a locator or of a chain
abbrev pub MakesOf : Verdict → Moment → Bool → List (List ℕ) → Result Anchor AnchorError → Type 0
MakesOf verdict now true (octets ∷ []) result = IsLocated octets result
MakesOf verdict now false (first ∷ others) result = IsChained verdict now first others result
MakesOf verdict now locates files result = ⊥

-- what the files of an anchor make
abbrev pub Makes : Verdict → Moment → Given → Result Anchor AnchorError → Type 0
Makes verdict now g result = MakesOf verdict now g.locates g.files result

-- each of them makes its anchor, in their order
abbrev pub MakeEach : Verdict → Moment → List Given → List Anchor → Type 0
MakeEach verdict now [] [] = Unit {0}
MakeEach verdict now [] (a ∷ anchors) = ⊥
MakeEach verdict now (g ∷ given) [] = ⊥
MakeEach verdict now (g ∷ given) (a ∷ anchors) =
    Makes verdict now g (Ok a) × MakeEach verdict now given anchors

-- The first of them that makes no anchor, for this fault.
pub record IsFirstUnmade (verdict : Verdict) (now : Moment) (given : List Given)
    (fault : AnchorError) : Type 0 where
  pub before : List Given
  pub first : Given
  pub after : List Given
  pub cut : given ≡ before ++ first ∷ after
  pub made : List Anchor
  pub each : MakeEach verdict now before made
  pub unmade : Makes verdict now first (Err fault)

-- What they make: the anchors, in their order, or the fault of the first that makes none, unless
-- memory runs out.
abbrev pub AreMade : Verdict → Moment → List Given → Result (Vec Anchor Global) AnchorError → Type 0
AreMade verdict now given (Ok anchors) = MakeEach verdict now given anchors.items
AreMade verdict now given (Err fault) = (fault ≡ Memory) ⊎ IsFirstUnmade verdict now given fault
