-- The files of a manifest are looked at one by one, until one has the name of an earlier one. Below
-- one folder, the URIs of two files are the same where their names are.
use Rattle.std.proofs.Common.{◌≡◌, inl, inr, ℕ, List, [], ◌∷◌, ◌++◌, ◌<◌, Contains, map, length}
use Rattle.std.proofs.Common.{Bool, Bor, true, false, cond, get_or, refl, sym, subst, ap, ◌∙◌}
use Rattle.std.proofs.Common.{append_assoc, arith, true≢false}
use Rattle.std.specs.Prelude.{◌↔◌, ◌≢◌, All, AllPairs, IsTrue, codes, nat_eq}
use Rattle.std.specs.BTreeSet.{BTreeSet, Updates}
use Rattle.std.specs.List.{ends_with}
use Rattle.std.specs.Str.{bytes_eq}
use Rattle.std.proofs.lemmas.List.{append-nil, append_cancel_left, get_or-map, length-map}
use Rattle.std.proofs.lemmas.List.{map-append}
use Rattle.std.proofs.lemmas.List.Elements.{All-contains, Contains-get_or}
use Rattle.std.proofs.lemmas.List.Elements.{Contains-append_left, Contains-append_right}
use Rattle.std.proofs.lemmas.List.Quantifiers.{all_pairs_push}
use Rattle.std.proofs.lemmas.Map.Text.{is_eq-slice_cmp}
use Rattle.std.proofs.lemmas.Slice.Eq.{bytes_eq-Decides}
use Rattle.rpki_basics.proofs.OctetSets.{order, has_octets, slice}
use Rattle.rpki_basics.specs.Uri.{join_text}
use Rattle.rpki_files.specs.Manifest.Files.{File, name_of}
use Rattle.rpki_files.specs.Manifest.Uris.{UriAndHash, uri_of, uris_of}
use Rattle.rpki_files.specs.Name.{IsFileName}
use Rattle.rpki_relying_party.specs.Lacks.{IsFirstRepeated}
use Rattle.rpki_relying_party.specs.Point.{AreOnce}
use Rattle.rpki_relying_party.proofs.Lists.{nothing, contains-first, contains-mapped}
use Rattle.rpki_relying_party.proofs.Lists.{mapped-from, push-cases}

abbrev entry : List ℕ → List ℕ → File
entry name hash = record { file = name; hash = hash }

-- The files that are left come after others, of which no two have one name; these are in the set.
pub record AreNew (set : BTreeSet (Bor (List ℕ))) (all left : List File) : Type 0 where
  pub before : List File
  pub splits : all ≡ before ++ left
  pub once : AllPairs (λ f g. name_of f ≢ name_of g) before
  pub met : (k : List ℕ) → IsTrue (has_octets set k) ↔ Contains (map name_of before) k

pub none-met : (set : BTreeSet (Bor (List ℕ))) (all left : List File) → left ≡ all
    → set.keys ≡ [] → AreNew set all left
none-met set all left e empty = record {
  before = [];
  splits = sym e;
  once = λ i j d l m. absurd (omega (arith, m));
  met = λ k. (λ t. absurd (true≢false (sym t ∙ none k)), λ w. absurd (nothing k w));
}
  where
    none : (k : List ℕ) → has_octets set k ≡ false
    none k = subst (λ (ks : List (Bor (List ℕ))). has_octets (record { keys = ks }) k ≡ false)
        (sym empty) refl

module _ (folder : List ℕ) where
  -- below one folder, one URI is that of one name
  pub one-name : (a b : List ℕ) → join_text folder a ≡ join_text folder b → a ≡ b
  one-name a b = by (ends_with nat_eq folder (codes "/"))
    where
      by : (t : Bool) → cond t (folder ++ a) (folder ++ (codes "/" ++ a))
          ≡ cond t (folder ++ b) (folder ++ (codes "/" ++ b)) → a ≡ b
      by true e = append_cancel_left folder a b e
      by false e = append_cancel_left (codes "/") a b
          (append_cancel_left folder (codes "/" ++ a) (codes "/" ++ b) e)

  uris-once : (files : List File) → AllPairs (λ f g. name_of f ≢ name_of g) files
      → AreOnce (uris_of folder files)
  uris-once files once i j d l m same =
      once i j none l n (one-name (name_of (get_or files i none)) (name_of (get_or files j none))
      (sym (at i (omega (arith, l, n))) ∙ (same ∙ at j n)))
    where
      none : File
      none = record { file = []; hash = [] }

      n : j < length files
      n = omega (arith, m, length-map files (uri_of folder))

      at : (k : ℕ) → k < length files
          → (get_or (uris_of folder files) k d).0 ≡ join_text folder (name_of (get_or files k none))
      at k h = ap (λ (f : UriAndHash). f.0) (get_or-map (uri_of folder) files k none d h)

  pub all-met : (set : BTreeSet (Bor (List ℕ))) (all left : List File) → AreNew set all left
      → left ≡ [] → AreOnce (uris_of folder all)
  all-met set all left h e = subst (λ (l : List File). AreOnce (uris_of folder l))
      (sym (h.splits ∙ (ap (λ (l : List File). h.before ++ l) e ∙ append-nil h.before)))
      (uris-once h.before h.once)

  module _ (set : BTreeSet (Bor (List ℕ))) (all left rest : List File) (key : Bor (List ℕ))
      (hash : List ℕ) (h : AreNew set all left)
      (e : left ≡ entry key.now hash ∷ rest) where
    abbrev x : File
    x = entry key.now hash

    in-order : all ≡ h.before ++ x ∷ rest
    in-order = h.splits ∙ ap (λ (l : List File). h.before ++ l) e

    -- it is a file of the manifest
    pub named : All (λ f. IsFileName (name_of f)) all → IsFileName key.now
    named n = All-contains (λ (f : File). IsFileName (name_of f)) all x n
        (subst (λ (l : List File). Contains l x) (sym in-order)
        (Contains-append_right h.before (x ∷ rest) x (contains-first x rest)))

    -- it was met before
    pub met-twice : has_octets set key.now ≡ true
        → IsFirstRepeated (uris_of folder all) (join_text folder key.now)
    met-twice was =
        let first = mapped-from name_of h.before key.now ((h.met key.now).0 was) in
        record {
          before = uris_of folder h.before;
          file = uri_of folder x;
          after = uris_of folder rest;
          order = ap (λ (l : List File). uris_of folder l) in-order
              ∙ map-append (uri_of folder) h.before (x ∷ rest);
          named = refl;
          repeats = subst (λ (n : List ℕ). Contains (map (λ (u : UriAndHash). u.0)
              (uris_of folder h.before)) (join_text folder n)) (first.2)
              (contains-mapped (λ (u : UriAndHash). u.0) (uris_of folder h.before)
              (uri_of folder (first.0))
              (contains-mapped (uri_of folder) h.before (first.0) (first.1)));
          once = uris-once h.before h.once;
        }

    -- one more was met
    module _ (new : BTreeSet (Bor (List ℕ))) (u : Updates order set new key true) where
      has-new : (k : List ℕ) (b : Bool) → bytes_eq key.now k ≡ b
          → has_octets new k ≡ cond b true (has_octets set k)
      has-new k b f = u.0 (slice k)
          ∙ ap (λ (t : Bool). cond t true (has_octets set k)) (is_eq-slice_cmp key.now k ∙ f)

      abbrev names : List (List ℕ)
      names = map name_of h.before

      mapped : map name_of (h.before ++ x ∷ []) ≡ names ++ key.now ∷ []
      mapped = map-append name_of h.before (x ∷ [])

      met-now : (k : List ℕ) (b : Bool) → bytes_eq key.now k ≡ b
          → IsTrue (has_octets new k) ↔ Contains (names ++ key.now ∷ []) k
      met-now k true f = (
        λ t. Contains-append_right names (key.now ∷ []) k
            (0, omega arith, (bytes_eq-Decides key.now k).0 f),
        λ w. has-new k true f,
      )
      met-now k false f = (
        λ t. Contains-append_left names (key.now ∷ []) k
            ((h.met k).0 (sym (has-new k false f) ∙ t)),
        λ w. elim (push-cases names key.now k w) [
          | inl there ↦ has-new k false f ∙ (h.met k).1 there
          | inr same ↦ absurd (true≢false (sym ((bytes_eq-Decides key.now k).1 (sym same)) ∙ f))
        ],
      )

      pub one-met : has_octets set key.now ≡ false → AreNew new all rest
      one-met fresh = record {
        before = h.before ++ x ∷ [];
        splits = in-order ∙ sym (append_assoc h.before (x ∷ []) rest);
        once = all_pairs_push (λ (a b : File). name_of a ≢ name_of b) h.before x h.once
            (λ k d l same. true≢false (sym ((h.met key.now).1
            (subst (λ (n : List ℕ). Contains names n) same
            (contains-mapped name_of h.before (get_or h.before k d)
            (Contains-get_or h.before k d l)))) ∙ fresh));
        met = λ k. subst (λ (l : List (List ℕ)). IsTrue (has_octets new k) ↔ Contains l k)
            (sym mapped) (met-now k (bytes_eq key.now k) refl);
      }
