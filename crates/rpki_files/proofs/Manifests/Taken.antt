-- Entries that are taken, one after the other, and listed.
use Rattle.std.proofs.Common.{◌≡◌, ◌<◌, ◌≤◌, ◌^◌, ◌+◌, ◌⊎◌, ℕ, Bool, true, false}
use Rattle.std.proofs.Common.{List, [], ◌∷◌, ◌++◌, length, All, inl, inr, refl, sym, ap, subst}
use Rattle.std.proofs.Common.{◌∙◌, arith, length-append}
use Rattle.std.specs.Prelude.{◌&&◌, ◌↔◌, map}
use Rattle.std.specs.List.{list_all}
use Rattle.std.proofs.lemmas.Bool.{and_parts, and_from}
use Rattle.std.proofs.lemmas.Grind.{flat_map-append}
use Rattle.std.proofs.lemmas.List.{append-nil, map-append}
use Rattle.std.proofs.lemmas.List.Elements.{All-cons, All-head, All-nil, All-tail}
use Rattle.std.proofs.lemmas.List.Folds.{list_all-append}
use Rattle.rpki_basics.specs.declared.build.BuildFault.TheVariants as fault
use Rattle.rpki_basics.specs.declared.limits.ManifestRule.{ManifestRule}
use Rattle.rpki_basics.specs.declared.limits.ManifestRule.TheVariants.{Any, Registered}
use Rattle.rpki_der.specs.Write.Encode.{Fits}
use Rattle.rpki_der.specs.Write.Parts.{each_small}
use Rattle.rpki_faults.specs.Checks.{AllHold, IsFirstFault}
use Rattle.rpki_lists.specs.Entries.{HoldEntries, entries_of}
use Rattle.rpki_lists.proofs.Listed.{entries-held, entries-read}
use Rattle.rpki_files.specs.declared.manifest.file.FileAndHash.{FileAndHash}
use Rattle.rpki_files.specs.declared.manifest.builder.entries.Entries.{Entries}
use Rattle.rpki_files.specs.Manifest.Files.{File, MeetsRule, file-small, file_at, file_octets}
use Rattle.rpki_files.specs.Manifest.Files.{is_allowed}
use Rattle.rpki_files.specs.Manifest.Files.{is_short_file, is_unrepeated, name_of}
use Rattle.rpki_files.specs.Manifest.{files_octets}
use Rattle.rpki_files.specs.Manifest.Built.{file_checks, meant, name_checks}
use Rattle.rpki_files.specs.Manifest.Taken.{AreTaken}
use Rattle.rpki_files.specs.Name.{IsFileName, is_file_name}
use Rattle.rpki_files.proofs.Names.Decided.{name-decides}
use Rattle.rpki_files.proofs.Manifests.Exact.{any-all, file-part, unrepeated-decides}
use Rattle.rpki_files.proofs.Manifests.Written.{file-written}

differ : (a b : Bool) → a ≡ true → a ≡ b → b ≡ false → ⊥
differ a b on same off = let never : true ≡ false = sym on ∙ same ∙ off in cc

-- ---- one after the other

-- with one more entry: it is written where it can be, and else it is long
pub taken-more : (rule : ManifestRule) (old new : Entries) (f : File)
    → new.named ≡ (old.named && is_file_name (name_of f))
    → new.allowed ≡ (old.allowed && is_allowed rule (name_of f))
    → (new.short ≡ true
    → (old.short ≡ true) × (new.octets.items ≡ old.octets.items ++ file_octets f))
    → (new.short ≡ false → (old.short ≡ false) ⊎ (length (file_octets f) < 2 ^ 32 → ⊥))
    → (files : List File) → AreTaken rule old files → AreTaken rule new (files ++ f ∷ [])
taken-more rule old new f named allowed short long files t =
    let octets : files_octets (files ++ f ∷ []) ≡ files_octets files ++ file_octets f =
    flat_map-append file_octets files (f ∷ [])
    ∙ ap (λ (o : List ℕ). files_octets files ++ o) (append-nil (file_octets f)) in
    let sum : length (files_octets (files ++ f ∷ []))
    ≡ length (files_octets files) + length (file_octets f) =
    ap (λ (o : List ℕ). length o) octets ∙ length-append (files_octets files) (file_octets f) in
    record {
      named = named ∙ ap (λ (b : Bool). b && is_file_name (name_of f)) t.named ∙ last
          (λ (g : File). is_file_name (name_of g));
      allowed = allowed ∙ ap (λ (b : Bool). b && is_allowed rule (name_of f)) t.allowed ∙ last
          (λ (g : File). is_allowed rule (name_of g));
      written = λ on. (short on).1
          ∙ ap (λ (o : List ℕ). o ++ file_octets f) (t.written (short on).0) ∙ sym octets;
      long = λ off few. elim (long off) [
        | inl before ↦ t.long before (omega (arith, few, sum))
        | inr this ↦ this (omega (arith, few, sum))
      ];
    }
  where
    with-true : (b : Bool) → b ≡ (b && true)
    with-true true = refl
    with-true false = refl

    last : (p : File → Bool) → (list_all p files && p f) ≡ list_all p (files ++ f ∷ [])
    last p = ap (λ (b : Bool). list_all p files && b) (with-true (p f))
        ∙ sym (list_all-append p files (f ∷ []))

-- an entry that is not written is long
pub not-short : (short : Type 0) (octets : List ℕ) (f g : File) → octets ≡ file_octets f
    → short ↔ is_short_file f → f ≡ g → ¬ Fits short octets → length (file_octets g) < 2 ^ 32 → ⊥
not-short short octets f g same is e unfit few =
    let less : length (file_octets f) < 2 ^ 32 =
    subst (λ (x : File). length (file_octets x) < 2 ^ 32) (sym e) few in
    let fewer : length octets < 2 ^ 64 =
    subst (λ (o : List ℕ). length o < 2 ^ 64) (sym same) (omega (arith, less)) in
    unfit (is.1 (file-small f less), fewer)

-- what the entries mean that were given
pub taken-meant : {F H : Type 0} (name : F → List ℕ) (hash : H → List ℕ) (rule : ManifestRule)
    (e : Entries) (given : List (FileAndHash F H)) (f : FileAndHash F H) (n h : List ℕ)
    → n ≡ name f.file → h ≡ hash f.hash
    → AreTaken rule e (map (meant name hash) given ++ record { file = n; hash = h } ∷ [])
    → AreTaken rule e (map (meant name hash) (given ++ f ∷ []))
taken-meant {F} {H} name hash rule e given f n h is its t =
    let one : (let x : File = record { file = n; hash = h } in x) ≡ meant name hash f =
    rw (is, its) refl in
    let all : map (meant name hash) given ++ record { file = n; hash = h } ∷ []
    ≡ map (meant name hash) (given ++ f ∷ []) =
    ap (λ (x : File). map (meant name hash) given ++ x ∷ []) one
    ∙ sym (map-append (meant name hash) given (f ∷ [])) in
    subst (AreTaken rule e) all t

-- ---- listed

either : (b : Bool) → (b ≡ true) ⊎ (b ≡ false)
either true = inl refl
either false = inr refl

names-in : (fs : List File) → list_all (λ f. is_file_name (name_of f)) fs ≡ true
    → All (λ (f : File). IsFileName (name_of f)) fs
names-in [] e = All-nil (λ (f : File). IsFileName (name_of f))
names-in (f ∷ fs) e =
    let p = and_parts (is_file_name (name_of f)) _ e in
    All-cons (λ (f : File). IsFileName (name_of f)) f fs ((name-decides (name_of f)).0 p.0)
    (names-in fs p.1)

names-out : (fs : List File) → All (λ (f : File). IsFileName (name_of f)) fs
    → list_all (λ f. is_file_name (name_of f)) fs ≡ true
names-out [] h = refl
names-out (f ∷ fs) h =
    and_from (is_file_name (name_of f)) _
    ((name-decides (name_of f)).1 (All-head (λ (f : File). IsFileName (name_of f)) f fs h))
    (names-out fs (All-tail (λ (f : File). IsFileName (name_of f)) f fs h))

module _ (rule : ManifestRule) (e : Entries) (files : List File) (t : AreTaken rule e files) where
  -- a name is not that of a file
  pub bad-name : e.named ≡ false → IsFirstFault (file_checks rule files) fault.BadName
  bad-name off = inr ((λ all. differ _ _ (names-out files all) (sym t.named) off), refl)

  pub all-named : e.named ≡ true → All (λ (f : File). IsFileName (name_of f)) files
  all-named on = names-in files (sym t.named ∙ on)

  -- octets that are too many
  pub too-many : (e.short ≡ true → 2 ^ 32 ≤ length e.octets.items)
      → length (files_octets files) < 2 ^ 32 → ⊥
  too-many many few = elim (either e.short) [
    | inl on ↦
        let same : length e.octets.items ≡ length (files_octets files) =
        ap (λ (o : List ℕ). length o) (t.written on) in
        let most : 2 ^ 32 ≤ length e.octets.items = many on in
        omega (arith, few, most, same)
    | inr off ↦ t.long off few
  ]

  -- octets of entries are those entries
  pub entries-are : e.named ≡ true → e.short ≡ true → length e.octets.items < 2 ^ 32
      → HoldEntries file_at e.octets.items × (entries_of file_at e.octets.items ≡ files)
  entries-are on short few =
      let names = all-named on in
      let is : e.octets.items ≡ files_octets files = t.written short in
      let fewer : length (files_octets files) < 2 ^ 32 =
      subst (λ (o : List ℕ). length o < 2 ^ 32) is few in
      let each = each_small file_octets is_short_file file-small files fewer in
      entries-held file_at e.octets.items (files_octets files) files is
      (entries-read file-part file_octets files
      (λ i d l. file-written _ (names i d l) (each i d l)))

-- a type is not registered
pub bad-extension : (rule : ManifestRule) (e : Entries) (files : List File)
    → AreTaken rule e files → e.named ≡ true → e.allowed ≡ false
    → IsFirstFault (file_checks rule files) fault.BadExtension
bad-extension Any e files t on off = absurd (differ _ _ (any-all files) (sym t.allowed) off)
bad-extension Registered e files t on off = inl (
  all-named Registered e files t on,
  inr ((λ all. differ _ _ all (sym t.allowed) off), refl),
)

-- each name is that of a file, and allowed
pub names-hold : (rule : ManifestRule) (e : Entries) (files : List File)
    → AreTaken rule e files → e.named ≡ true → e.allowed ≡ true → AllHold (name_checks rule files)
names-hold Any e files t on all = (all-named Any e files t on, tt)
names-hold Registered e files t on all =
    (all-named Registered e files t on, (sym t.allowed ∙ all, tt))

-- a name stands twice
pub repeated-name : (rule : ManifestRule) (e : Entries) (files : List File)
    → AreTaken rule e files → e.named ≡ true → e.allowed ≡ true → is_unrepeated rule files ≡ false
    → IsFirstFault (file_checks rule files) fault.RepeatedName
repeated-name Any e files t on all off = absurd cc
repeated-name Registered e files t on all off = inl (
  all-named Registered e files t on,
  inl (
    sym t.allowed ∙ all,
    inr ((λ d. differ _ _ ((unrepeated-decides Registered files).1 d) refl off), refl),
  ),
)

-- what is listed meets the rule
pub met-rule : (rule : ManifestRule) (e : Entries) (files : List File) → AreTaken rule e files
    → e.allowed ≡ true → is_unrepeated rule files ≡ true → MeetsRule rule files
met-rule Any e files t all once = tt
met-rule Registered e files t all once =
    (sym t.allowed ∙ all, (unrepeated-decides Registered files).0 once)
