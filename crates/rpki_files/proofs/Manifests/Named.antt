-- The files of a list have the names that are asked for.
use Rattle.std.proofs.Common.{◌≡◌, ℕ, zero, suc, Bool, true, List, [], ◌∷◌, Option}
use Rattle.std.proofs.Common.{Some, None, All, refl, sym, ap, subst}
use Rattle.std.proofs.lemmas.List.Elements.{All-cons, All-nil}
use Rattle.rpki_der.specs.Tags.{SEQUENCE}
use Rattle.rpki_der.specs.declared.mode.Mode.TheVariants.{Der}
use Rattle.rpki_der.specs.Read.Parse.{Parser, value_at, whole, each, all_of, tested, ia5_at}
use Rattle.rpki_der.specs.Form.Parts.{sequence_at}
use Rattle.rpki_der.proofs.Reading.Lengths.{bind_some, some_is}
use Rattle.rpki_lists.specs.Entries.{entries_of, HoldEntries}
use Rattle.rpki_files.specs.Name.{IsFileName, is_file_name}
use Rattle.rpki_files.specs.Manifest.Files.{File, name_of, file_name_at, hash_at, file_fields_at}
use Rattle.rpki_files.specs.Manifest.Files.{file_at}
use Rattle.rpki_files.proofs.Names.Decided.{name-decides}
use Rattle.rpki_der.proofs.Reading.Contents.{guarded}

-- what p reads is good, and so is each of what it reads up to the end
module _ {X : Type 0} (p : Parser X) (Good : X → Type 0)
    (good : (b : List ℕ) (x : X) (r : List ℕ) → p Der b ≡ Some (x, r) → Good x) where
  each-good : (n : ℕ) (b : List ℕ) (xs : List X) → each n p Der b ≡ Some xs → All Good xs
  unfolding each
  each-good n [] xs e =
      let q : (let l : List X = [] in l) ≡ xs = some_is _ _ e in
      subst (All Good) q (All-nil Good)
  each-good zero (a ∷ b) xs e =
      absurd (let never : (let o : Option (List X) = None in o) ≡ Some xs = e in cc)
  each-good (suc n) (a ∷ b) xs e =
      let u = bind_some (p Der (a ∷ b)) _ xs e in
      let v = bind_some (each n p Der u.0.1) _ xs u.2 in
      let q : (let l : List X = u.0.0 ∷ v.0 in l) ≡ xs = some_is _ _ v.2 in
      subst (All Good) q
      (All-cons Good u.0.0 v.0 (good (a ∷ b) u.0.0 u.0.1 u.1) (each-good n u.0.1 v.0 v.1))

  pub all-good : (b : List ℕ) (xs : List X) → all_of p Der b ≡ Some xs → All Good xs
  unfolding all_of
  all-good b xs e = each-good _ b xs e

  pub entries-good : (b : List ℕ) → HoldEntries p b → All Good (entries_of p b)
  entries-good b h =
      let same : entries_of p b ≡ h.0 = rw h.1 refl in
      subst (All Good) (sym same) (all-good b h.0 h.1)

pub tested-good : {X : Type 0} (test : X → Bool) (p : Parser X) (b : List ℕ) (x : X) (r : List ℕ)
    → tested test p Der b ≡ Some (x, r) → test x ≡ true
unfolding tested
tested-good {X} test p b x r e =
    let u = bind_some (p Der b) _ (x, r) e in
    let t = guarded (test u.0.0) u.0 (x, r) u.2 in
    subst (λ (v : X × List ℕ). test v.0 ≡ true) t.1 t.0

fields-good : (b : List ℕ) (f : File) (r : List ℕ) → file_fields_at Der b ≡ Some (f, r)
    → IsFileName (name_of f)
unfolding file_fields_at
fields-good b f r e =
    let u = bind_some (file_name_at Der b) _ (f, r) e in
    let v = bind_some (hash_at Der u.0.1) _ (f, r) u.2 in
    let q : (let t : File × List ℕ = (record { file = u.0.0; hash = v.0.0 }, v.0.1) in t) ≡ (f, r) =
    some_is _ _ v.2 in
    subst (λ (t : File × List ℕ). IsFileName (name_of t.0)) q
    ((name-decides u.0.0).0 (tested-good is_file_name ia5_at b u.0.0 u.0.1 u.1))

whole-is : {X : Type 0} (o : Option (X × List ℕ)) (x : X) → whole o ≡ Some x
    → (r : List ℕ) × (o ≡ Some (x, r))
whole-is None x e = absurd cc
whole-is {X} (Some (y, [])) x e =
    ([], ap (λ (t : X). (let o : Option (X × List ℕ) = Some (t, []) in o)) (some_is y x e))
whole-is (Some (y, b ∷ r)) x e = absurd cc

-- what stands in a SEQUENCE
pub in-sequence : {X : Type 0} (p : Parser X) (b : List ℕ) (x : X) (r : List ℕ)
    → sequence_at p Der b ≡ Some (x, r)
    → (c : List ℕ) × (s : List ℕ) × (p Der c ≡ Some (x, s))
in-sequence {X} p b x r e =
    let u = bind_some (value_at SEQUENCE Der b) _ (x, r) e in
    let v = bind_some (whole (p Der u.0.0)) _ (x, r) u.2 in
    let q : (let t : X × List ℕ = (v.0, u.0.1) in t) ≡ (x, r) = some_is _ _ v.2 in
    let w = whole-is (p Der u.0.0) v.0 v.1 in (
      u.0.0,
      w.0,
      subst (λ (t : X × List ℕ). (let o : Option (X × List ℕ) = Some (t.0, w.0) in
          p Der u.0.0 ≡ o)) q w.1,
    )

file-good : (b : List ℕ) (f : File) (r : List ℕ) → file_at Der b ≡ Some (f, r)
    → IsFileName (name_of f)
file-good b f r e =
    let c = in-sequence file_fields_at b f r e in
    fields-good c.0 f c.1 c.2

pub files-named : (b : List ℕ) → HoldEntries file_at b
    → All (λ (f : File). IsFileName (name_of f)) (entries_of file_at b)
files-named b h = entries-good file_at (λ f. IsFileName (name_of f)) file-good b h
