-- What is written of a checklist is in its form.
use Rattle.std.proofs.Common.{◌≡◌, ℕ, ◌<◌, ◌^◌, true, List, [], ◌∷◌, ◌++◌, length}
use Rattle.std.proofs.Common.{All, Option, Some, None, refl, sym, arith}
use Rattle.std.specs.Prelude.{IfSome}
use Rattle.std.specs.List.{flat_map}
use Rattle.std.proofs.lemmas.List.{append-nil}
use Rattle.rpki_der.specs.Numbers.{MAX_DEPTH}
use Rattle.rpki_der.specs.Tags.{SEQUENCE, IA5_STRING, OCTET_STRING, context}
use Rattle.rpki_der.specs.declared.mode.Mode.TheVariants.{Der}
use Rattle.rpki_der.specs.Grammar.{Items, Optional, OctetString}
use Rattle.rpki_der.specs.Form.Made.{Made}
use Rattle.rpki_der.specs.Form.Parts.{Explicit, Parts, SequenceOf}
use Rattle.rpki_der.specs.Write.Parts.{contents_small, each_small, length_parts}
use Rattle.rpki_der.specs.Write.Parts.{optional_octets}
use Rattle.rpki_der.specs.Write.Written.{value_octets}
use Rattle.rpki_der.proofs.Reading.Scan.{tag-sound}
use Rattle.rpki_der.proofs.Writing.Leaves.{within-written, items-written}
use Rattle.rpki_der.proofs.Writing.Values.{octets-written}
use Rattle.rpki_basics.specs.Algorithm.{DigestAlgorithmForm, digest_algorithm_octets}
use Rattle.rpki_resources.specs.As.Form.{AsForm}
use Rattle.rpki_resources.specs.As.Written.{as_octets}
use Rattle.rpki_lists.specs.Named.{Set, sets_of}
use Rattle.rpki_lists.specs.Version.{OptionalVersion}
use Rattle.rpki_lists.proofs.Names.Written.{AsWritten, AreWritten, resource-block-written}
use Rattle.rpki_files.specs.Checklist.Files.{Checked, CheckedForm, IsNamed, PortableForm}
use Rattle.rpki_files.specs.Checklist.Files.{is_portable_name}
use Rattle.rpki_files.specs.Checklist.Files.{checked_contents, checked_octets}
use Rattle.rpki_files.specs.Checklist.{Checklist, NumbersForm, NamedForm, ChecklistForm}
use Rattle.rpki_files.specs.Checklist.{numbers_octets, named_contents}
use Rattle.rpki_files.specs.Checklist.{files_octets, checklist_contents, checklist_octets}
use Rattle.rpki_files.proofs.Names.Decided.{portable-below}

-- ---- what is named

numbers-written : (set : Set) → AsWritten set → length (numbers_octets set) < 2 ^ 32
    → Explicit 0 Der (λ d. NumbersForm Der d set) (numbers_octets set)
numbers-written set written short =
    let list = value_octets SEQUENCE (flat_map as_octets set) in
    let inner = value_octets (context 0) list in
    let whole = value_octets SEQUENCE inner in
    let a = contents_small (context 0) whole short in
    let b = contents_small SEQUENCE inner a in
    let c = contents_small (context 0) list b in
    let few = contents_small SEQUENCE (flat_map as_octets set) c in
    within-written (context 0) (λ d. NumbersForm Der d set) whole
    (tag-sound (context 0) refl) a
    (within-written SEQUENCE (Parts ((λ o. Explicit 0 Der (λ e. AsForm Der e set) o) ∷ [])) inner
    (tag-sound SEQUENCE refl) b (
      inner,
      [],
      sym (append-nil inner),
      within-written (context 0) (λ e. AsForm Der e set) list (tag-sound (context 0) refl) c
          (written few),
      refl,
    ))

sets-written : (l : Checklist) → AreWritten l.as_resources l.v4_resources l.v6_resources
    → length (named_contents l) < 2 ^ 32
    → Made sets_of (NamedForm Der) (value_octets SEQUENCE (named_contents l))
    (l.as_resources, (l.v4_resources, l.v6_resources))
sets-written l w short =
    resource-block-written NumbersForm numbers_octets l.as_resources l.v4_resources
    l.v6_resources (numbers-written l.as_resources w.numbers) w.v4 w.v6 short

-- ---- the files

name-written : (name : Option (List ℕ)) → IfSome name (λ n. is_portable_name n ≡ true)
    → length (optional_octets (value_octets IA5_STRING) name) < 2 ^ 32
    → Optional (PortableForm Der) (optional_octets (value_octets IA5_STRING) name) name
name-written None valid short = refl
name-written (Some name) valid short = (
  within-written IA5_STRING (λ c. (c ≡ name) × All (λ b. b < 128) name) name
      (tag-sound IA5_STRING refl) (contents_small IA5_STRING name short)
      (refl, portable-below name valid),
  valid,
)

checked-written : (f : Checked) → IsNamed f → length (checked_contents f) < 2 ^ 32
    → CheckedForm Der (checked_octets f) f
checked-written f valid short =
    let name = optional_octets (value_octets IA5_STRING) f.file_name in
    let hash = value_octets OCTET_STRING f.hash in
    let each = length_parts name hash short in
    within-written SEQUENCE
    (Parts ((λ o. Optional (PortableForm Der) o f.file_name)
    ∷ (λ o. OctetString Der MAX_DEPTH o f.hash) ∷ []))
    (checked_contents f) (tag-sound SEQUENCE refl) short (
      name,
      hash,
      refl,
      name-written f.file_name valid each.0,
      (
        hash,
        [],
        sym (append-nil hash),
        octets-written MAX_DEPTH f.hash (omega arith) (contents_small OCTET_STRING f.hash each.1),
        refl,
      ),
    )

files-written : (fs : List Checked) → All IsNamed fs
    → length (flat_map checked_octets fs) < 2 ^ 32
    → SequenceOf Der (CheckedForm Der) (value_octets SEQUENCE (flat_map checked_octets fs)) fs
files-written fs valid short =
    let each = each_small checked_octets (λ f. length (checked_contents f) < 2 ^ 32)
    (λ f h. contents_small SEQUENCE (checked_contents f) h) fs short in
    within-written SEQUENCE (λ c. Items (CheckedForm Der) c fs) (flat_map checked_octets fs)
    (tag-sound SEQUENCE refl) short
    (items-written (CheckedForm Der) checked_octets fs
    (λ i d l. checked-written _ (valid i d l) (each i d l)))

-- ---- the content

pub checklist-written : (l : Checklist)
    → AreWritten l.as_resources l.v4_resources l.v6_resources → All IsNamed l.files
    → DigestAlgorithmForm Der digest_algorithm_octets tt → length (checklist_contents l) < 2 ^ 32
    → ChecklistForm Der (checklist_octets l) l
checklist-written l w names algorithm short =
    let named = value_octets SEQUENCE (named_contents l) in
    let files = value_octets SEQUENCE (files_octets l) in
    let a = length_parts named (digest_algorithm_octets ++ files) short in
    let b = length_parts digest_algorithm_octets files a.1 in
    within-written SEQUENCE
    (Parts (OptionalVersion Der
    ∷ (λ o. Made sets_of (NamedForm Der) o (l.as_resources, (l.v4_resources, l.v6_resources)))
    ∷ (λ o. DigestAlgorithmForm Der o tt)
    ∷ (λ o. SequenceOf Der (CheckedForm Der) o l.files)
    ∷ []))
    (checklist_contents l) (tag-sound SEQUENCE refl) short (
      [],
      checklist_contents l,
      refl,
      (None, refl),
      (
        named,
        digest_algorithm_octets ++ files,
        refl,
        sets-written l w (contents_small SEQUENCE (named_contents l) a.0),
        (
          digest_algorithm_octets,
          files,
          refl,
          algorithm,
          (
            files,
            [],
            sym (append-nil files),
            files-written l.files names (contents_small SEQUENCE (files_octets l) b.1),
            refl,
          ),
        ),
      ),
    )
