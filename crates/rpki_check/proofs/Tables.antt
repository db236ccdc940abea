-- Tables of files, one file after the other.
use Rattle.std.proofs.Common.{◌≡◌, ◌∙◌, ℕ, ◌+◌, List, [], ◌∷◌, ◌++◌, length, sym, subst, ap, refl}
use Rattle.std.proofs.Common.{append_assoc, length-append}
use Rattle.std.proofs.lemmas.List.{append-nil}
use Rattle.std.specs.List.{flat_map}
use Rattle.rpki_check.specs.Files.{IsPushed, IsTable, Named, entries_at, entry_at, file_octets}
use Rattle.rpki_check.specs.declared.files.Entry.{Entry}
use Rattle.rpki_check.specs.declared.files.Table.{Table}

-- The table has the files that come before these among all of them.
pub record IsPart (t : Table) (left all : List Named) : Type 0 where
  pub rows : t.rows.items ++ entries_at (length t.octets.items) left ≡ entries_at 0 all
  pub octets : t.octets.items ++ flat_map file_octets left ≡ flat_map file_octets all

-- an empty table has none
pub none-yet : (t : Table) (left all : List Named) → left ≡ all → t.rows.items ≡ []
    → t.octets.items ≡ [] → IsPart t left all
none-yet t left all s e f = subst (λ (fs : List Named). IsPart t fs all) (sym s) (record {
  rows =
      subst (λ (rs : List Entry). rs ++ entries_at (length t.octets.items) all ≡ entries_at 0 all)
      (sym e) (ap (λ (os : List ℕ). entries_at (length os) all) f);
  octets =
      subst (λ (os : List ℕ). os ++ flat_map file_octets all ≡ flat_map file_octets all) (sym f) refl;
})

-- one file more
pub one-file : (old new : Table) (f : Named) (before left all : List Named) → before ≡ f ∷ left
    → IsPart old before all → IsPushed old new f → IsPart new left all
one-file old new f before left all e h p =
    let part : IsPart old (f ∷ left) all = subst (λ (fs : List Named). IsPart old fs all) e h in
    let n = length old.octets.items in
    let long : length new.octets.items ≡ n + length (file_octets f) =
    ap length p.octets ∙ length-append old.octets.items (file_octets f) in
    record {
      rows =
          ap (λ (rs : List Entry). rs ++ entries_at (length new.octets.items) left) p.row
          ∙ (ap (λ (k : ℕ). (old.rows.items ++ entry_at n f ∷ []) ++ entries_at k left) long
          ∙ (append_assoc old.rows.items (entry_at n f ∷ [])
          (entries_at (n + length (file_octets f)) left) ∙ part.rows));
      octets =
          ap (λ (os : List ℕ). os ++ flat_map file_octets left) p.octets
          ∙ (append_assoc old.octets.items (file_octets f) (flat_map file_octets left)
          ∙ part.octets);
    }

-- the whole table
pub all-files : (t : Table) (left all : List Named) → left ≡ [] → IsPart t left all → IsTable t all
all-files t left all e h =
    let part : IsPart t [] all = subst (λ (fs : List Named). IsPart t fs all) e h in
    record {
      rows = sym (append-nil t.rows.items) ∙ part.rows;
      octets = sym (append-nil t.octets.items) ∙ part.octets;
    }
