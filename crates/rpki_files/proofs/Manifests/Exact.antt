-- Files and manifests are read exactly.
use Rattle.std.proofs.Common.{◌≡◌, ℕ, ◌≤◌, Bool, true, false, cond, List, [], ◌∷◌, Option, Some}
use Rattle.std.proofs.Common.{None, refl, sym, ap, subst, ◌∙◌}
use Rattle.std.specs.Prelude.{Decides, nat_le}
use Rattle.std.specs.List.{list_all}
use Rattle.std.proofs.lemmas.Bool.{leb-true, le-leb}
use Rattle.rpki_basics.specs.declared.limits.ManifestRule.{ManifestRule}
use Rattle.rpki_basics.specs.declared.limits.ManifestRule.TheVariants.{Any, Registered}
use Rattle.rpki_basics.specs.Moment.{Moment, stamp}
use Rattle.rpki_basics.specs.Time.Read.{time_at}
use Rattle.rpki_basics.proofs.Times.Read.{time-part}
use Rattle.rpki_basics.specs.Algorithm.{sha_256, named}
use Rattle.rpki_der.specs.Tags.{SEQUENCE, IA5_STRING, BIT_STRING, OBJECT_IDENTIFIER}
use Rattle.rpki_der.specs.Tags.{context}
use Rattle.rpki_der.specs.declared.mode.Mode.{Mode}
use Rattle.rpki_der.specs.declared.mode.Mode.TheVariants.{Der}
use Rattle.rpki_der.specs.Grammar.{ObjectIdentifier}
use Rattle.rpki_der.specs.Read.Parse.{Parser, ◌>>=◌, u160_at, oid_at}
use Rattle.rpki_der.specs.Read.Parse.{optional, value_at, whole, in_value}
use Rattle.rpki_der.specs.Read.Exact.{IsReading}
use Rattle.rpki_der.specs.Form.Law.{nothing, is, IsPart}
use Rattle.rpki_der.specs.Form.Made.{partly}
use Rattle.rpki_der.specs.Form.Parts.{SequenceOf}
use Rattle.rpki_der.specs.Form.Keyed.{AreDistinct}
use Rattle.rpki_der.proofs.Form.Keyed.{distinct-decides}
use Rattle.rpki_der.proofs.Form.Fields.{field, field-if, fixed, skipped, guard, done, within}
use Rattle.rpki_der.proofs.Form.Fields.{within-if}
use Rattle.rpki_der.proofs.Form.Kinds.{u160-part, oid-part, bits-part, ia5-part}
use Rattle.rpki_der.proofs.Form.Words.{pass, part-as, make, make-some, option}
use Rattle.rpki_der.proofs.Reading.Unique.{reading, IsOneValue}
use Rattle.rpki_lists.specs.Rules.{admits}
use Rattle.rpki_lists.specs.Version.{version_at}
use Rattle.rpki_lists.proofs.Exact.{list-part, part-spelt}
use Rattle.rpki_lists.proofs.Versions.{version-part}
use Rattle.rpki_files.specs.Name.{is_file_name, is_registered}
use Rattle.rpki_files.specs.Manifest.Files.{
  File,
  FileNameForm,
  HashForm,
  FileForm,
  MeetsRule,
  name_of,
  file_name_at,
}
use Rattle.rpki_files.specs.Manifest.Files.{hash_at, file_fields_at, file_at, is_allowed, names_by}
use Rattle.rpki_files.specs.Manifest.Files.{is_unrepeated, files_at}
use Rattle.rpki_files.specs.Manifest.{Manifest, ManifestForm}
use Rattle.rpki_files.specs.Manifest.{Head, ordered, head_at, rest_at, fields_at}
use Rattle.rpki_files.specs.Manifest.{manifest_at}
use Rattle.rpki_files.proofs.Names.Decided.{name-decides}
use Rattle.rpki_basics.proofs.Algorithms.Parts.{named-is, named-self}

-- ---- a file

name-part : IsPart (is IA5_STRING) nothing file_name_at FileNameForm
name-part = pass is_file_name ia5-part name-decides

hash-part : IsPart (is BIT_STRING) nothing hash_at HashForm
hash-part = make (λ bits. bits.0) bits-part

pub file-part : IsPart (is SEQUENCE) nothing file_at FileForm
unfolding file_fields_at
file-part = within SEQUENCE (
    field (λ (f : File). f.file) name-part (λ file.
    field (λ (f : File). f.hash) hash-part (λ hash.
    done (record { file = file; hash = hash }) ((tt, refl), refl)
    (λ f k i. record { file = k.0.1 i; hash = k.1 i })) refl) refl)

-- ---- the files that a rule takes

goes-on-by : (rule : ManifestRule) (f : File) (fs : List File) (t : Bool)
    → is_allowed rule (name_of f) ≡ t
    → admits names_by (record { rule = rule }) fs ≡ list_all (λ g. is_allowed rule (name_of g)) fs
    → admits names_by (record { rule = rule }) (f ∷ fs)
    ≡ list_all (λ g. is_allowed rule (name_of g)) (f ∷ fs)
goes-on-by rule f fs true e h = rw e h
goes-on-by rule f fs false e h = rw e refl

admits-all : (rule : ManifestRule) (fs : List File)
    → admits names_by (record { rule = rule }) fs ≡ list_all (λ f. is_allowed rule (name_of f)) fs
admits-all rule [] = refl
admits-all rule (f ∷ fs) =
    goes-on-by rule f fs (is_allowed rule (name_of f)) refl (admits-all rule fs)

pub any-all : (fs : List File) → list_all (λ f. is_allowed Any (name_of f)) fs ≡ true
any-all [] = refl
any-all (f ∷ fs) = any-all fs

-- what is known of the names one by one, and of all
abbrev Allowed : ManifestRule → List File → Type 0
Allowed Any fs = Unit {0}
Allowed Registered fs = list_all (λ f. is_registered (name_of f)) fs ≡ true

abbrev Unrepeated : ManifestRule → List File → Type 0
Unrepeated Any fs = Unit {0}
Unrepeated Registered fs = AreDistinct name_of fs

allowed-decides : (rule : ManifestRule) (fs : List File)
    → Decides (admits names_by (record { rule = rule }) fs) (Allowed rule fs)
allowed-decides Any fs = (λ _. tt, λ _. admits-all Any fs ∙ any-all fs)
allowed-decides Registered fs = (
  λ e. sym (admits-all Registered fs) ∙ e,
  λ h. admits-all Registered fs ∙ h,
)

pub unrepeated-decides : (rule : ManifestRule) (fs : List File)
    → Decides (is_unrepeated rule fs) (Unrepeated rule fs)
unrepeated-decides Any fs = (λ _. tt, λ _. refl)
unrepeated-decides Registered fs = distinct-decides name_of fs

pub meets : (rule : ManifestRule) (fs : List File) → Allowed rule fs → Unrepeated rule fs
    → MeetsRule rule fs
meets Any fs a u = tt
meets Registered fs a u = (a, u)

met : (rule : ManifestRule) (fs : List File) → MeetsRule rule fs
    → Allowed rule fs × Unrepeated rule fs
met Any fs m = (tt, tt)
met Registered fs m = (m.0, m.1)

files-part : (rule : ManifestRule) → IsPart (is SEQUENCE) nothing (files_at rule)
    (λ mode o fs. SequenceOf mode (FileForm Der) o fs × MeetsRule rule fs)
files-part rule = part-as
    (pass (is_unrepeated rule)
    (pass (admits names_by (record { rule = rule })) (list-part file-part) (allowed-decides rule))
    (unrepeated-decides rule))
    (λ mode o fs h. (h.0.0, meets rule fs h.0.1 h.1))
    (λ mode o fs h. let m = met rule fs h.1 in ((h.0, m.0), m.1))

-- ---- a manifest

algorithm-part : IsPart (is OBJECT_IDENTIFIER) nothing (partly (named sha_256) oid_at)
    (λ mode o _. ObjectIdentifier mode o sha_256)
algorithm-part = part-as (make-some (named sha_256) oid-part)
    (λ mode o u h. subst (λ (r : List ℕ). ObjectIdentifier mode o r) (named-is sha_256 h.0 h.2) h.1)
    (λ mode o u h. (sha_256, h, named-self sha_256))

abbrev manifest : ℕ → Moment → Moment → List File → Manifest
manifest number this next files =
    record { number = number; this_update = this; next_update = next; files = files }

in-order : (this next : Moment) (m : Manifest) → this ≡ m.this_update → next ≡ m.next_update
    → stamp m.this_update ≤ stamp m.next_update → nat_le (stamp this) (stamp next) ≡ true
in-order this next m e f h = rw (e, f) (le-leb (stamp m.this_update) (stamp m.next_update) h)

-- the same fields, each after the one before it
abbrev flat_at : ManifestRule → Parser Manifest
flat_at rule mode bytes = do
  version ← optional (context 0) version_at mode bytes
  number ← u160_at mode version.1
  this ← time_at mode number.1
  next ← time_at mode this.1
  cond (nat_le (stamp this.0) (stamp next.0))
      (rest_at rule (number.0, this.0, next.0) mode next.1) None

-- what stands after the head
abbrev after : ManifestRule → Mode → Option (Head × List ℕ) → Option (Manifest × List ℕ)
after rule mode o = o >>= λ head. rest_at rule head.0 mode head.1

abbrev after_next : ManifestRule → Mode → ℕ → Moment → Option (Moment × List ℕ)
    → Option (Manifest × List ℕ)
after_next rule mode number this o = o >>= λ next. cond (nat_le (stamp this) (stamp next.0))
    (rest_at rule (number, this, next.0) mode next.1) None

abbrev after_this : ManifestRule → Mode → ℕ → Option (Moment × List ℕ)
    → Option (Manifest × List ℕ)
after_this rule mode number o = o >>= λ this. after_next rule mode number this.0
    (time_at mode this.1)

abbrev after_number : ManifestRule → Mode → Option (ℕ × List ℕ) → Option (Manifest × List ℕ)
after_number rule mode o = o >>= λ number. after_this rule mode number.0 (time_at mode number.1)

ordered-spelt : (rule : ManifestRule) (mode : Mode) (number : ℕ) (this next : Moment) (r : List ℕ)
    (t : Bool)
    → after rule mode (cond t (Some ((number, this, next), r)) None)
    ≡ cond t (rest_at rule (number, this, next) mode r) None
ordered-spelt rule mode number this next r true = refl
ordered-spelt rule mode number this next r false = refl

next-spelt : (rule : ManifestRule) (mode : Mode) (number : ℕ) (this : Moment)
    (o : Option (Moment × List ℕ))
    → after rule mode (o >>= λ next. ordered number this next.0 next.1)
    ≡ after_next rule mode number this o
next-spelt rule mode number this None = refl
next-spelt rule mode number this (Some next) =
    ordered-spelt rule mode number this next.0 next.1 (nat_le (stamp this) (stamp next.0))

this-spelt : (rule : ManifestRule) (mode : Mode) (number : ℕ) (o : Option (Moment × List ℕ))
    → after rule mode
    (o >>= λ this. (time_at mode this.1 >>= λ next. ordered number this.0 next.0 next.1))
    ≡ after_this rule mode number o
this-spelt rule mode number None = refl
this-spelt rule mode number (Some this) =
    next-spelt rule mode number this.0 (time_at mode this.1)

number-spelt : (rule : ManifestRule) (mode : Mode) (o : Option (ℕ × List ℕ))
    → after rule mode (o >>= λ number. (time_at mode number.1
    >>= λ this. (time_at mode this.1 >>= λ next. ordered number.0 this.0 next.0 next.1)))
    ≡ after_number rule mode o
number-spelt rule mode None = refl
number-spelt rule mode (Some number) =
    this-spelt rule mode number.0 (time_at mode number.1)

fields-spelt : (rule : ManifestRule) (mode : Mode) (b : List ℕ)
    → fields_at rule mode b ≡ flat_at rule mode b
unfolding fields_at head_at
fields-spelt rule mode b = of (optional (context 0) version_at mode b)
  where
    of : (o : Option (Option (Unit {0}) × List ℕ))
        → after rule mode (o >>= λ version. (u160_at mode version.1
        >>= λ number. (time_at mode number.1
        >>= λ this. (time_at mode this.1 >>= λ next. ordered number.0 this.0 next.0 next.1))))
        ≡ (o >>= λ version. after_number rule mode (u160_at mode version.1))
    of None = refl
    of (Some version) = number-spelt rule mode (u160_at mode version.1)

pub within-spelt : {X : Type 0} (tag : ℕ) (p q : Parser X)
    → ((mode : Mode) (c : List ℕ) → p mode c ≡ q mode c) → (mode : Mode) (b : List ℕ)
    → in_value tag p mode b ≡ in_value tag q mode b
within-spelt {X} tag p q same mode b = of (value_at tag mode b)
  where
    of : (v : Option (List ℕ × List ℕ))
        → ◌>>=◌ {B = X × List ℕ} v (λ v. whole (p mode v.0) >>= λ x. Some (x, v.1))
        ≡ ◌>>=◌ {B = X × List ℕ} v (λ v. whole (q mode v.0) >>= λ x. Some (x, v.1))
    of None = refl
    of (Some v) = ap (λ (o : Option (X × List ℕ)).
        ◌>>=◌ {B = X × List ℕ} (whole o) (λ x. Some (x, v.1))) (same mode v.0)

flat-part : (rule : ManifestRule)
    → IsPart (is SEQUENCE) nothing (in_value SEQUENCE (flat_at rule)) (ManifestForm rule)
flat-part rule = within-if SEQUENCE (
    skipped (option (context 0) version-part) (
    field (λ (m : Manifest). m.number) u160-part (λ number.
    field (λ (m : Manifest). m.this_update) time-part (λ this.
    field (λ (m : Manifest). m.next_update) time-part (λ next.
    guard (nat_le (stamp this) (stamp next))
    (λ m k. in-order this next m k.0.1 k.1 k.0.0.0.order) (λ order.
    fixed algorithm-part (
    field-if (λ (m : Manifest). m.files) (files-part rule) (λ m k. k.0.0.0.files) (λ files meets.
    done (manifest number this next files) (
      (
        ((record { order = leb-true (stamp this) (stamp next) order; files = meets }, refl), refl),
        refl,
      ),
      refl,
    )
    (λ m k i. record {
      number = k.0.0.0.1 i;
      this_update = k.0.0.1 i;
      next_update = k.0.1 i;
      files = k.1 i;
    })) refl) refl)) refl) refl) refl) refl)

pub manifest-part : (rule : ManifestRule)
    → IsPart (is SEQUENCE) nothing (manifest_at rule) (ManifestForm rule)
manifest-part rule = part-spelt
    (within-spelt SEQUENCE (fields_at rule) (flat_at rule) (fields-spelt rule)) (flat-part rule)

-- ---- as readings

pub as-reading : {X : Type 0} {p : Parser X} {G : Mode → List ℕ → X → Type 0}
    → IsPart (is SEQUENCE) nothing p G → IsOneValue G → IsReading p G
as-reading {X} {p} {G} part one = reading p G
    (λ mode. record {
      sound = (part.exact mode).sound;
      complete =
          λ o x r er h. (part.exact mode).complete o x r tt h;
    }) part.relaxed one

pub file-reading : IsReading file_at FileForm
file-reading = as-reading file-part (λ mode o f h. (SEQUENCE, h.0, h.1))

pub manifest-reading : (rule : ManifestRule) → IsReading (manifest_at rule) (ManifestForm rule)
manifest-reading rule = as-reading (manifest-part rule) (λ mode o m h. (SEQUENCE, h.0.0, h.0.1))
