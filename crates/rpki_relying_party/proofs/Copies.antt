-- Reads of folders.
use Rattle.std.proofs.Common.{◌≡◌, ◌<◌, ◌∙◌, ℕ, List, [], ◌∷◌, ◌++◌, Bool, true, false}
use Rattle.std.proofs.Common.{sym, ap, subst, arith, length, get_or, Option, Some, None}
use Rattle.std.proofs.Common.{option_map, min, Result, append_assoc, codes}
use Rattle.std.proofs.lemmas.Bool.{eqb-true}
use Rattle.std.proofs.lemmas.List.{length-take, take_all}
use Rattle.std.proofs.lemmas.List.Sums.{split_at_first, passes_at_first}
use Rattle.std.specs.Io.Take.{take_limit, take_inner, take_remaining}
use Rattle.std.specs.List.{position_or_len, before_first, after_first}
use Rattle.std.specs.Prelude.{IfSome, IfOk, take, if◌then◌else◌}
use Rattle.std.specs.declared.alloc.AllocError.{AllocError}
use Rattle.std.specs.declared.io.traits.Take.{Take}
use Rattle.rpki_relying_party.specs.Fetches.{IsFetched}
use Rattle.rpki_relying_party.specs.Folders.{path_below, FindsBelow, FindsIn, file_name, is_kept}
use Rattle.rpki_relying_party.specs.Names.{is_slash, anchor_name, path_of}
use Rattle.rpki_relying_party.specs.declared.copy.Fetched.{Fetched}
use Rattle.rpki_relying_party.specs.declared.copy.NoFile.{NoFile}

-- the name of the file of a URI
module _ (finds : List ℕ → Result (List ℕ) NoFile → Type 0) (name uri : List ℕ) (most : ℕ)
    (r : Result Fetched AllocError) where
  named : (n : List ℕ) → n ≡ file_name name uri → IfOk r (IsFetched (FindsBelow finds n) most)
      → IfOk r (IsFetched (FindsIn finds name uri) most)
  named n e h = subst (λ (m : List ℕ). IfOk r (IsFetched (FindsBelow finds m) most)) e h

  pub of-kept : is_kept uri ≡ true
      → IfOk r (IsFetched (FindsBelow finds (anchor_name name uri)) most)
      → IfOk r (IsFetched (FindsIn finds name uri) most)
  of-kept e h = named (anchor_name name uri)
      (ap (λ (b : Bool). if b then anchor_name name uri else path_of uri) (sym e)) h

  pub of-path : is_kept uri ≡ false → IfOk r (IsFetched (FindsBelow finds (path_of uri)) most)
      → IfOk r (IsFetched (FindsIn finds name uri) most)
  of-path e h = named (path_of uri)
      (ap (λ (b : Bool). if b then anchor_name name uri else path_of uri) (sym e)) h

-- one more part of a name is put to a path
pub part-more : (path longer part rest others : List ℕ)
    → position_or_len is_slash rest < length rest → part ≡ before_first is_slash rest
    → others ≡ after_first is_slash rest → longer ≡ path_below path part
    → path_below longer others ≡ path_below path rest
part-more path longer part rest others l first second e =
    let slash : get_or rest (position_or_len is_slash rest) 0 ≡ 0x2f =
    eqb-true _ 0x2f (passes_at_first is_slash rest 0 l) in
    let cut : rest ≡ part ++ (0x2f ∷ others) =
    rw (first, second) (split_at_first is_slash rest 0 l
    ∙ ap (λ (x : ℕ). before_first is_slash rest ++ x ∷ after_first is_slash rest) slash) in
    rw e (append_assoc path (codes "/" ++ part) (codes "/" ++ others)
    ∙ ap (λ (t : List ℕ). path ++ (codes "/" ++ t)) (sym cut))

whole : (read : Option (List ℕ)) (limit : ℕ) (items : List ℕ) → length items < limit
    → IfSome (option_map (take limit) read) (λ xs. items ≡ xs) → IfSome read (λ xs. items ≡ xs)
whole None limit items l h = tt
whole (Some xs) limit items l h =
    let short : length items ≡ min limit (length xs) = ap length h ∙ length-take limit xs in
    h ∙ take_all limit xs (omega (arith, l, short))

-- a reader gave all, where it gave less than it may
pub all-read : {R : Type 0} (remaining : R → Option (List ℕ)) (t : Take R) (reader : R)
    (old items : List ℕ) → take_inner t ≡ reader → old ≡ [] → length items < take_limit t
    → IfSome (take_remaining remaining t) (λ xs. items ≡ old ++ xs)
    → IfSome (remaining reader) (λ xs. items ≡ xs)
all-read {R} remaining t reader old items e none l h =
    subst (λ (r : R). IfSome (remaining r) (λ xs. items ≡ xs)) e
    (whole (remaining (take_inner t)) (take_limit t) items l
    (subst (λ (o : List ℕ). IfSome (take_remaining remaining t) (λ xs. items ≡ o ++ xs)) none h))
