-- What stands for each address family is read exactly, where the values are.
use Rattle.std.proofs.Common.{refl}
use Rattle.rpki_der.specs.Tags.{SEQUENCE}
use Rattle.rpki_der.specs.Read.Parse.{Parser}
use Rattle.rpki_der.specs.Read.Exact.{IsReading}
use Rattle.rpki_der.specs.Form.Law.{TagSet, nothing, is, IsPart}
use Rattle.rpki_der.proofs.Form.Fields.{field, field-on, done, within}
use Rattle.rpki_der.proofs.Form.Words.{part-as, in-tag, make-some, all-items}
use Rattle.rpki_der.proofs.Reading.UpToEnd.{takes-in}
use Rattle.rpki_resources.specs.declared.family.AddressFamily.{AddressFamily}
use Rattle.rpki_resources.specs.Families.Form.{FormOf, FamilyEntryForm, FamiliesForm}
use Rattle.rpki_resources.specs.Families.Read.{
  family_entry_fields_at,
  family_entry_at,
  families_at,
  gathered,
}
use Rattle.rpki_resources.specs.Families.Read.{values_at, no_values}
use Rattle.rpki_resources.specs.Lists.{TakesOctets}
use Rattle.rpki_resources.proofs.Families.Exact.{family-part}
use Rattle.rpki_resources.proofs.Families.Gathered.{entries-sound, entries-complete}
use Rattle.rpki_der.proofs.Reading.Unique.{part-reading}

-- an entry takes an octet at least
pub entry-takes : {X : Type 0} (p : AddressFamily → Parser X) → TakesOctets (family_entry_at p)
entry-takes p = λ mode octets x rest e.
    (takes-in SEQUENCE (family_entry_fields_at p) mode).at octets x rest e

module _ {X : Type 0} {first : TagSet} {p : AddressFamily → Parser X} {G : FormOf X}
    (value : (family : AddressFamily) → IsPart first nothing (p family) (G family)) where
  -- an entry
  pub entry-part : IsPart (is SEQUENCE) nothing (family_entry_at p) (FamilyEntryForm G)
  unfolding family_entry_fields_at
  entry-part = within SEQUENCE (
      field (λ e. e.family) family-part (λ family.
      field-on G (λ e. e.family) (λ e. e.value) (value family) (λ e k. k.1) (λ x.
      done (record { family = family; value = x }) ((tt, refl), refl)
      (λ e k i. record { family = k.0.1 i; value = k.1 i })) refl) refl)

  -- a SEQUENCE of entries
  pub families-part : IsPart (is SEQUENCE) nothing (families_at p) (FamiliesForm G)
  unfolding values_at
  families-part = part-as (in-tag SEQUENCE (make-some (gathered no_values) (all-items entry-part)))
      (λ mode o values h.
      (h.2.0, (h.0, h.1, h.2.1), entries-sound h.2.0 values h.2.2))
      (λ mode o values h.
      (h.1.0, h.1.1, (h.0, h.1.2, entries-complete h.0 values h.2)))

  pub families-reading : IsReading (families_at p) (FamiliesForm G)
  families-reading =
      part-reading families-part (λ mode o values h. (SEQUENCE, h.1.0, h.1.1))
