-- What is written of a manifest is in its form.
use Rattle.std.proofs.Common.{◌≡◌, ℕ, ◌<◌, ◌≤◌, ◌^◌, List, [], ◌∷◌, length, All}
use Rattle.std.proofs.Common.{None, refl, sym, arith, lit<}
use Rattle.std.proofs.lemmas.List.{append-nil}
use Rattle.rpki_basics.specs.declared.limits.ManifestRule.{ManifestRule}
use Rattle.rpki_basics.specs.Moment.{stamp}
use Rattle.rpki_basics.specs.Time.Form.{TimeForm, generalized_octets}
use Rattle.rpki_basics.specs.Serial.{SerialForm, serial_octets}
use Rattle.rpki_basics.specs.Algorithm.{sha_256}
use Rattle.rpki_der.specs.Tags.{SEQUENCE, OBJECT_IDENTIFIER, IA5_STRING, BIT_STRING}
use Rattle.rpki_der.specs.declared.mode.Mode.TheVariants.{Der}
use Rattle.rpki_der.specs.Oid.{IsOid}
use Rattle.rpki_der.specs.Grammar.{ObjectIdentifier, Items}
use Rattle.rpki_der.specs.Form.Parts.{SequenceOf}
use Rattle.rpki_der.specs.Write.Parts.{contents_small, each_small, length_parts}
use Rattle.rpki_der.specs.Write.Written.{value_octets, bit_string_contents}
use Rattle.rpki_der.proofs.Reading.Scan.{tag-sound}
use Rattle.rpki_der.proofs.Writing.Leaves.{within-written, items-written}
use Rattle.rpki_der.proofs.Writing.Strings.{bits-whole}
use Rattle.rpki_files.specs.Name.{IsFileName}
use Rattle.rpki_files.specs.Manifest.Files.{
  File,
  FileForm,
  HashForm,
  FileNameForm,
  file_octets,
  file_contents,
}
use Rattle.rpki_files.specs.Manifest.Files.{MeetsRule, is_short_file, file-small}
use Rattle.rpki_files.specs.Manifest.{Manifest, ManifestForm, files_octets, manifest_contents}
use Rattle.rpki_files.specs.Manifest.{manifest_octets}
use Rattle.rpki_files.proofs.Names.Decided.{name-below}

hash-written : (hash : List ℕ) → length (bit_string_contents hash 0) < 2 ^ 32
    → HashForm Der (value_octets BIT_STRING (bit_string_contents hash 0)) hash
hash-written hash short = (
  (hash, 0),
  within-written 3 (λ c. (c ≡ 0 ∷ hash) × _) (bit_string_contents hash 0) (tag-sound 3 refl) short
      (bits-whole hash, record { few = omega arith; none = λ _. refl }),
  refl,
)

name-written : (name : List ℕ) → length name < 2 ^ 32 → IsFileName name
    → FileNameForm Der (value_octets IA5_STRING name) name
name-written name short valid = (
  within-written 22 (λ c. (c ≡ name) × All (λ b. b < 128) name) name (tag-sound 22 refl) short
      (refl, name-below name valid),
  valid,
)

pub file-written : (f : File) → IsFileName f.file → is_short_file f → FileForm Der (file_octets f) f
file-written f valid short =
    within-written 48 _ (file_contents f) (tag-sound 48 refl) short.1 (
      value_octets IA5_STRING f.file,
      value_octets BIT_STRING (bit_string_contents f.hash 0),
      refl,
      name-written f.file short.0.0 valid,
      (
        value_octets BIT_STRING (bit_string_contents f.hash 0),
        [],
        sym (append-nil (value_octets BIT_STRING (bit_string_contents f.hash 0))),
        hash-written f.hash short.0.1,
        refl,
      ),
    )

files-written : (fs : List File) → All (λ (f : File). IsFileName f.file) fs
    → length (files_octets fs) < 2 ^ 32
    → SequenceOf Der (FileForm Der) (value_octets SEQUENCE (files_octets fs)) fs
files-written fs valid short =
    let each = each_small file_octets is_short_file file-small fs short in
    within-written 48 (λ c. Items (FileForm Der) c fs) (files_octets fs) (tag-sound 48 refl) short
    (items-written (FileForm Der) file_octets fs
    (λ i d l. file-written _ (valid i d l) (each i d l)))

algorithm-written : ObjectIdentifier Der (value_octets OBJECT_IDENTIFIER sha_256) sha_256
algorithm-written = within-written 6 (λ c. (c ≡ sha_256) × IsOid sha_256) sha_256
    (tag-sound 6 refl) (lit< tt) (refl, (lit< tt, lit< tt))

pub manifest-written : (rule : ManifestRule) (m : Manifest)
    → SerialForm Der (serial_octets m.number) m.number
    → TimeForm Der (generalized_octets m.this_update) m.this_update
    → TimeForm Der (generalized_octets m.next_update) m.next_update
    → stamp m.this_update ≤ stamp m.next_update → All (λ (f : File). IsFileName f.file) m.files
    → MeetsRule rule m.files → length (manifest_contents m) < 2 ^ 32
    → ManifestForm rule Der (manifest_octets m) m
manifest-written rule m number this next order names meets short =
    let a = length_parts (serial_octets m.number) _ short in
    let b = length_parts (generalized_octets m.this_update) _ a.1 in
    let c = length_parts (generalized_octets m.next_update) _ b.1 in
    let d = length_parts (value_octets OBJECT_IDENTIFIER sha_256) _ c.1 in
    let files = contents_small SEQUENCE (files_octets m.files) d.1 in (
      within-written 48 _ (manifest_contents m) (tag-sound 48 refl) short (
        [],
        manifest_contents m,
        refl,
        (None, refl),
        (
          serial_octets m.number,
          _,
          refl,
          number,
          (
            generalized_octets m.this_update,
            _,
            refl,
            this,
            (
              generalized_octets m.next_update,
              _,
              refl,
              next,
              (
                value_octets OBJECT_IDENTIFIER sha_256,
                value_octets SEQUENCE (files_octets m.files),
                refl,
                algorithm-written,
                (
                  value_octets SEQUENCE (files_octets m.files),
                  [],
                  sym (append-nil (value_octets SEQUENCE (files_octets m.files))),
                  files-written m.files names files,
                  refl,
                ),
              ),
            ),
          ),
        ),
      ),
      record { order = order; files = meets },
    )
