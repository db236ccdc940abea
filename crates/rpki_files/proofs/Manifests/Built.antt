-- Contents that are built, and what is refused of them.
use Rattle.std.proofs.Common.{◌≡◌, ◌≤◌, ◌<◌, ◌^◌, ◌++◌, ℕ, List, length, Result, Ok, Err}
use Rattle.std.proofs.Common.{arith, inl, inr, refl, sym, subst}
use Rattle.std.specs.Prelude.{IfErr, IfOk, OnOk}
use Rattle.rpki_basics.specs.Moment.{Moment, stamp}
use Rattle.rpki_basics.specs.Algorithm.{sha_256}
use Rattle.rpki_basics.specs.Serial.{serial_octets}
use Rattle.rpki_basics.specs.Time.Form.{generalized_octets}
use Rattle.rpki_basics.specs.declared.build.BuildError.{BuildError}
use Rattle.rpki_basics.specs.declared.build.BuildError.TheVariants as error
use Rattle.rpki_basics.specs.declared.build.BuildFault.{BuildFault}
use Rattle.rpki_basics.specs.declared.build.BuildFault.TheVariants as fault
use Rattle.rpki_basics.specs.declared.limits.ManifestRule.{ManifestRule}
use Rattle.rpki_basics.specs.declared.limits.ManifestRule.TheVariants.{Any, Registered}
use Rattle.rpki_der.specs.Tags.{OBJECT_IDENTIFIER, SEQUENCE}
use Rattle.rpki_der.specs.declared.mode.Mode.{Mode}
use Rattle.rpki_der.specs.declared.mode.Mode.TheVariants.{Der}
use Rattle.rpki_der.specs.Write.Parts.{contents_small, length_parts}
use Rattle.rpki_der.specs.Write.Encode.{IsLenOf}
use Rattle.rpki_der.specs.Write.Written.{length_value_octets_le, value_octets}
use Rattle.rpki_der.specs.declared.encode.EncodeError.{EncodeError}
use Rattle.rpki_der.specs.declared.encode.EncodeError.TheVariants as encode
use Rattle.rpki_der.proofs.Form.Words.{items-all}
use Rattle.rpki_faults.specs.Checks.{AllHold, IsFirstFault}
use Rattle.rpki_faults.proofs.Order.{first-fails}
use Rattle.rpki_files.specs.Manifest.Files.{File, FileForm, MeetsRule, name_of}
use Rattle.rpki_files.specs.Manifest.{Manifest, ManifestForm, files_octets, manifest_contents}
use Rattle.rpki_files.specs.Manifest.{manifest_octets}
use Rattle.rpki_files.specs.Manifest.Built.{IsContentOf, IsNotBuilt, early_checks}
use Rattle.rpki_files.specs.Manifest.Built.{manifest_checks, repeat_checks, type_checks}
use Rattle.rpki_files.specs.Manifest.Taken.{AreNotListed}
use Rattle.rpki_files.specs.Name.{IsFileName}

rule-passes : (rule : ManifestRule) (files : List File) → MeetsRule rule files
    → AllHold (type_checks rule files ++ repeat_checks rule files)
rule-passes Any files h = tt
rule-passes Registered files h = (h.0, (h.1, tt))

-- what a content says passes the checks
passes : (rule : ManifestRule) (mode : Mode) (octets : List ℕ) (m : Manifest)
    → ManifestForm rule mode octets m → AllHold (manifest_checks rule m)
passes rule mode octets m h =
    let files = h.0.2.4.4.4.4.4.3 in (
      h.1.order,
      (
        items-all (FileForm Der) (λ (f : File). IsFileName (name_of f)) (λ o f k. k.2.3.1) files.0
            m.files files.2,
        rule-passes rule m.files h.1.files,
      ),
    )

-- what does not pass them is said by no content
pub not-said : (rule : ManifestRule) (mode : Mode) (m : Manifest) (fault : BuildFault)
    → IsFirstFault (manifest_checks rule m) fault → (octets : List ℕ)
    → ManifestForm rule mode octets m → ⊥
not-said rule mode m fault h octets form =
    first-fails (manifest_checks rule m) fault h (passes rule mode octets m form)

-- ---- what is answered

-- where a content is short, so are its files
files-short : (m : Manifest) → length (manifest_contents m) < 2 ^ 32
    → length (files_octets m.files) < 2 ^ 32
files-short m short =
    let a = length_parts (serial_octets m.number) _ short in
    let b = length_parts (generalized_octets m.this_update) _ a.1 in
    let c = length_parts (generalized_octets m.next_update) _ b.1 in
    let d = length_parts (value_octets OBJECT_IDENTIFIER sha_256) _ c.1 in
    contents_small SEQUENCE (files_octets m.files) d.1

module _ (rule : ManifestRule) (number : ℕ) (this next : Moment) (AreGiven : List File → Type 0)
    (files : List File) (given : AreGiven files) where
  asked : (list : List File) → list ≡ files → IsContentOf number this next AreGiven (record {
    number = number;
    this_update = this;
    next_update = next;
    files = list;
  })
  asked list same = record {
    numbered = refl;
    this_update = refl;
    next_update = refl;
    files = subst AreGiven (sym same) given;
  }

  -- updates that are not in order
  pub out-of-order : (stamp this ≤ stamp next → ⊥)
      → IsNotBuilt rule (IsContentOf number this next AreGiven) (error.Fault fault.UpdateOrder)
  out-of-order never = (
    record { number = number; this_update = this; next_update = next; files = files },
    asked files refl,
    inr (never, refl),
  )

  -- why files are not listed is why the content is not built
  pub unlisted : (e : BuildError) → stamp this ≤ stamp next → AreNotListed rule files e
      → IsNotBuilt rule (IsContentOf number this next AreGiven) e
  unlisted (error.Fault fault) order h = (
    record { number = number; this_update = this; next_update = next; files = files },
    asked files refl,
    inl (order, h),
  )
  unlisted error.TooLong order h =
      let m : Manifest =
      record { number = number; this_update = this; next_update = next; files = files } in
      (m, asked files refl, (order, h.0), λ short. h.1 (files-short m short))
  unlisted error.Memory order h = tt

  module _ (list : List File) (same : list ≡ files) where
    abbrev Content : Manifest
    Content = record { number = number; this_update = this; next_update = next; files = list }

    -- the content is too long
    pub too-long : (result : Result Manifest BuildError) → AllHold (early_checks rule Content)
        → IfErr result (λ e. e ≡ error.TooLong)
        → IfErr result (λ _. length (manifest_contents Content) < 2 ^ 32 → ⊥)
        → IfErr result (IsNotBuilt rule (IsContentOf number this next AreGiven))
    too-long (Ok m) held is long = tt
    too-long (Err e) held is long =
        let why : IsNotBuilt rule (IsContentOf number this next AreGiven) error.TooLong =
        (Content, asked list same, held, long) in
        subst (IsNotBuilt rule (IsContentOf number this next AreGiven)) (sym is) why

-- what holds of a content holds of what is answered, where that is this content
pub of-same : (P : Manifest → Type 0) (m : Manifest) (result : Result Manifest BuildError)
    → IfOk result (λ same. same ≡ m) → OnOk result (P m) → IfOk result P
of-same P m (Ok same) e h = subst P (sym e) h
of-same P m (Err error) e h = tt

-- a content whose length is not found is too long
pub len-refused : (r m : Manifest) (e : EncodeError) → r ≡ m
    → IsLenOf (Unit {0}) (length (manifest_contents r) < 2 ^ 32) (manifest_octets r) (Err e)
    → length (manifest_contents m) < 2 ^ 32 → ⊥
len-refused r m encode.NotDer same h short = h tt
len-refused r m encode.TooLong same h short =
    let few : length (manifest_contents r) < 2 ^ 32 =
    subst (λ (x : Manifest). length (manifest_contents x) < 2 ^ 32) (sym same) short in
    h (few, omega (arith, few, length_value_octets_le SEQUENCE (manifest_contents r)))
len-refused r m encode.Io same h short = h
len-refused r m encode.Memory same h short = h
