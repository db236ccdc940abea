-- The files of a list have names of the characters that are asked for.
use Rattle.std.proofs.Common.{◌≡◌, ℕ, true, List, Option, Some, None, All, subst}
use Rattle.std.specs.Prelude.{IfSome}
use Rattle.rpki_der.specs.Numbers.{MAX_DEPTH}
use Rattle.rpki_der.specs.Tags.{IA5_STRING}
use Rattle.rpki_der.specs.declared.mode.Mode.TheVariants.{Der}
use Rattle.rpki_der.specs.Read.Parse.{ia5_at, octets_at}
use Rattle.rpki_der.proofs.Reading.Lengths.{bind_some, some_is}
use Rattle.rpki_der.proofs.Reading.Many.{optional-some}
use Rattle.rpki_lists.specs.Entries.{entries_of, HoldEntries}
use Rattle.rpki_files.specs.Checklist.Files.{Checked, IsNamed, is_portable_name, portable_at}
use Rattle.rpki_files.specs.Checklist.Files.{portable_if_at}
use Rattle.rpki_files.specs.Checklist.Files.{checked_fields_at, checked_at}
use Rattle.rpki_files.proofs.Manifests.Named.{entries-good, in-sequence, tested-good}

name-good : (b : List ℕ) (name : Option (List ℕ)) (r : List ℕ)
    → portable_if_at Der b ≡ Some (name, r) → IfSome name (λ n. is_portable_name n ≡ true)
name-good b None r e = tt
name-good b (Some name) r e =
    tested-good is_portable_name ia5_at b name r
    (optional-some IA5_STRING portable_at Der b name r e)

fields-good : (b : List ℕ) (f : Checked) (r : List ℕ) → checked_fields_at Der b ≡ Some (f, r)
    → IsNamed f
unfolding checked_fields_at
fields-good b f r e =
    let u = bind_some (portable_if_at Der b) _ (f, r) e in
    let v = bind_some (octets_at MAX_DEPTH Der u.0.1) _ (f, r) u.2 in
    let q : (let t : Checked × List ℕ = (record { file_name = u.0.0; hash = v.0.0 }, v.0.1) in
    t) ≡ (f, r) = some_is _ _ v.2 in
    subst (λ (t : Checked × List ℕ). IsNamed t.0) q (name-good b u.0.0 u.0.1 u.1)

checked-good : (b : List ℕ) (f : Checked) (r : List ℕ) → checked_at Der b ≡ Some (f, r) → IsNamed f
checked-good b f r e =
    let c = in-sequence checked_fields_at b f r e in
    fields-good c.0 f c.1 c.2

pub checked-named : (b : List ℕ) → HoldEntries checked_at b → All IsNamed (entries_of checked_at b)
checked-named b h = entries-good checked_at IsNamed checked-good b h
