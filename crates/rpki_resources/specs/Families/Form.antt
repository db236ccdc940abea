-- The octets of what stands for each address family. The sections are those of RFC 3779.
use Rattle.std.specs.Prelude.{◌≡◌, ℕ, List, [], ◌∷◌}
use Rattle.rpki_der.specs.declared.mode.Mode.{Mode}
use Rattle.rpki_der.specs.Form.Keyed.{AreDistinct, Keyed}
use Rattle.rpki_der.specs.Form.Made.{Understood}
use Rattle.rpki_der.specs.Form.Parts.{Sequence, SequenceOf}
use Rattle.rpki_resources.specs.declared.by_family.ByFamily.{ByFamily}
use Rattle.rpki_resources.specs.declared.by_family.FamilyEntry.{FamilyEntry}
use Rattle.rpki_resources.specs.declared.family.AddressFamily.{AddressFamily}
use Rattle.rpki_resources.specs.declared.family.AddressFamily.TheVariants.{Ipv4, Ipv6}
use Rattle.rpki_resources.specs.Family.Form.{afi, FamilyForm}

-- a form of a value that depends on the family
abbrev pub FormOf : Type 0 → Type 1
FormOf X = AddressFamily → Mode → List ℕ → X → Type 0

-- IPAddressFamily: SEQUENCE { addressFamily, value } (2.2.3.2)
abbrev pub FamilyEntryForm : {X : Type 0} → FormOf X → Mode → List ℕ → FamilyEntry X → Type 0
FamilyEntryForm G mode octets entry = Sequence mode (
    (λ o. FamilyForm mode o entry.family)
    ∷ (λ o. G entry.family mode o entry.value)
    ∷ []) octets

-- the identifier of an entry's family
abbrev pub afi_of : {X : Type 0} → FamilyEntry X → List ℕ
afi_of entry = afi entry.family

-- what stands beside the family
abbrev pub IsValueOf : {X : Type 0} → FamilyEntry X → X → Type 0
IsValueOf entry x = entry.value ≡ x

-- Each family has at most one entry (2.2.3.3), and these are their values.
pub record AreEntries {X : Type 0} (entries : List (FamilyEntry X))
    (values : ByFamily X) : Type 0 where
  pub distinct : AreDistinct afi_of entries
  pub v4 : Keyed afi_of IsValueOf entries (afi Ipv4) values.v4
  pub v6 : Keyed afi_of IsValueOf entries (afi Ipv6) values.v6

-- SEQUENCE OF IPAddressFamily (2.2.3.1), each family at most once. In RFC 3779 they stand in the
-- order of their identifiers. Here they may stand in any order, and be none, which is this
-- project's own.
abbrev pub FamiliesForm : {X : Type 0} → FormOf X → Mode → List ℕ → ByFamily X → Type 0
FamiliesForm G mode = Understood AreEntries (SequenceOf mode (FamilyEntryForm G mode))
