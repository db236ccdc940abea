-- One extension. The sections are those of RFC 5280.
use Rattle.std.specs.Prelude.{◌≡◌, ℕ, List, [], ◌∷◌, Bool, true, false, not, ◌&&◌, ◌||◌, ◌⊎◌, All}
use Rattle.std.specs.Prelude.{Option, Some, bytes_eq}
use Rattle.std.specs.List.{list_all}
use Rattle.rpki_der.specs.declared.mode.Mode.{Mode}
use Rattle.rpki_der.specs.declared.mode.Mode.TheVariants.{Der}
use Rattle.rpki_der.specs.Grammar.{Boolean, ObjectIdentifier, OctetString}
use Rattle.rpki_der.specs.Numbers.{MAX_DEPTH}
use Rattle.rpki_der.specs.Form.Keyed.{AreDistinct, are_distinct, Keyed, said}
use Rattle.rpki_der.specs.Form.Made.{Default, Begins, default_at, front_of}
use Rattle.rpki_der.specs.Form.Parts.{Sequence, SequenceOf, sequence_at, items_at}
use Rattle.rpki_der.specs.Read.Parse.{Parser, ◌>>=◌, tested, oid_at, boolean_at, octets_at}
use Rattle.rpki_der.specs.Tags.{BOOLEAN, SEQUENCE}
use Rattle.rpki_extensions.specs.declared.extension.Extension.{Extension}

-- Extension: SEQUENCE { extnID OBJECT IDENTIFIER, critical BOOLEAN DEFAULT FALSE, extnValue OCTET
-- STRING } (4.1)
abbrev pub ExtensionForm : Mode → List ℕ → Extension → Type 0
ExtensionForm mode octets e = Sequence mode (
    (λ o. ObjectIdentifier mode o e.oid)
    ∷ (λ o. Default false (Boolean mode) o e.critical)
    ∷ (λ o. OctetString mode MAX_DEPTH o e.value)
    ∷ []) octets

-- the identifier of an extension
abbrev pub oid_of : Extension → List ℕ
oid_of e = e.oid

-- What the value of an extension begins with, in DER in both modes, is in G, and means x (4.1).
-- That octets may follow within the extension is this project's own rule.
abbrev pub SaysBy : {X : Type 0} → (Mode → List ℕ → X → Type 0) → Extension → X → Type 0
SaysBy G e x = Begins (G Der) e.value x

-- The extension with this identifier says x by G. Where it says nothing, there is no such
-- extension.
abbrev pub Stated : {X : Type 0} → List Extension → List ℕ → (Mode → List ℕ → X → Type 0)
    → Option X → Type 0
Stated list oid G x = Keyed oid_of (SaysBy G) list oid x

-- The identifier, which is the last argument, is one of the list.
abbrev pub IsAmong : List (List ℕ) → List ℕ → Type 0
IsAmong [] oid = ⊥
IsAmong (k ∷ ks) oid = (oid ≡ k) ⊎ IsAmong ks oid

-- No identifier stands twice, and an extension that is not known is not critical (4.2). Two rules
-- are this project's own: a known extension has either flag, where the flag of each is fixed (RFC
-- 6487, section 4.8; in a revocation list 4.2.1.1 and 5.2.3), and unknown ones that are not
-- critical may stand, which RFC 6487 does not permit (sections 5 and 8).
pub record MayStand (known : List (List ℕ)) (list : List Extension) : Type 0 where
  pub distinct : AreDistinct oid_of list
  pub critical : All (λ e. e.critical ≡ true → IsAmong known (oid_of e)) list

-- SEQUENCE OF Extension, in any order, that may stand together where these are known (4.1, 4.2)
abbrev pub StandingForm : List (List ℕ) → Mode → List ℕ → List Extension → Type 0
StandingForm known mode octets list =
    SequenceOf mode (ExtensionForm mode) octets list × MayStand known list

-- ---- as functions

-- what stands in the SEQUENCE
unfoldable pub extension_fields_at : Parser Extension
extension_fields_at mode bytes = do
  oid ← oid_at mode bytes
  critical ← default_at false BOOLEAN boolean_at mode oid.1
  value ← octets_at MAX_DEPTH mode critical.1
  Some (record { oid = oid.0; critical = critical.0; value = value.0 }, value.1)

-- an extension
abbrev pub extension_at : Parser Extension
extension_at = sequence_at extension_fields_at

-- extensions, as many as there are
abbrev pub list_at : Parser (List Extension)
list_at = items_at SEQUENCE extension_at

-- whether the identifier is one of the list
abbrev pub is_among : List (List ℕ) → List ℕ → Bool
is_among [] oid = false
is_among (k ∷ []) oid = bytes_eq oid k
is_among (k ∷ l ∷ ks) oid = bytes_eq oid k || is_among (l ∷ ks) oid

-- whether an extension is known or not critical
abbrev pub may_stand : List (List ℕ) → Extension → Bool
may_stand known e = not e.critical || is_among known e.oid

-- whether extensions may stand together
abbrev pub all_may_stand : List (List ℕ) → List Extension → Bool
all_may_stand known list = are_distinct oid_of list && list_all (may_stand known) list

-- extensions that may stand together, as many as there are
abbrev pub standing_at : List (List ℕ) → Parser (List Extension)
standing_at known = tested (all_may_stand known) list_at

-- what p reads at the front of the value of the extension with this identifier
abbrev pub stated : {X : Type 0} → List ℕ → Parser X → List Extension → Option (Option X)
stated oid p list = said oid_of (λ e. front_of p Der e.value) oid list
