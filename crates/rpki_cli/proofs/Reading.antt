-- Which files are read, and the first that can't be.
use Rattle.std.proofs.Common.{◌≡◌, ◌+◌, ◌<◌, ℕ, List, [], ◌∷◌, ◌++◌, length, get_or, take, Option}
use Rattle.std.proofs.Common.{Result, Ok, Err, Bor, arith, subst, sym, ap, ◌∙◌}
use Rattle.std.proofs.lemmas.List.{append_assoc, length-map, get_or-map, take_more}
use Rattle.rpki_cli.specs.Store.{Told, Names, IsRead, AreReadTo, IsFirstUnreadable, AreSomeRead}
use Rattle.rpki_cli.specs.Store.{NoneIsUnreadable}
use Rattle.rpki_cli.specs.Words.{texts}
use Rattle.rpki_cli.specs.declared.store.Reason.{Reason}
use Rattle.rpki_cli.specs.declared.store.StoreError.{StoreError}
use Rattle.rpki_cli.specs.declared.store.StoreError.TheVariants.{Unreadable}

text-at : (names : List (Bor (List ℕ))) (i : ℕ) (d : Bor (List ℕ)) (e : List ℕ) → i < length names
    → get_or (texts names) i e ≡ (get_or names i d).now
text-at names i d e l = get_or-map (λ (w : Bor (List ℕ)). w.now) names i d e l

-- one more of the names is asked for
pub one-more : (names : List (Bor (List ℕ))) (i : ℕ) (d : Bor (List ℕ)) (old before new : Names)
    → i < length names → before ≡ old ++ take i (texts names)
    → new ≡ before ++ (get_or names i d).now ∷ [] → new ≡ old ++ take (i + 1) (texts names)
one-more names i d old before new l b n =
    let name = (get_or names i d).now in
    let all = texts names in
    let there : i < length all = omega (arith, l, length-map names (λ (w : Bor (List ℕ)). w.now)) in
    n ∙ ap (λ (ns : Names). ns ++ name ∷ []) b ∙ append_assoc old (take i all) (name ∷ [])
    ∙ ap (λ (x : List ℕ). old ++ (take i all ++ x ∷ [])) (sym (text-at names i d [] l))
    ∙ ap (λ (ns : Names). old ++ ns) (sym (take_more all i [] there))

none-before : (told : Told) (names : List (List ℕ)) (i : ℕ) (files : List (List ℕ))
    → length files ≡ i → AreReadTo told names i files → NoneIsUnreadable told names i
none-before told names i [] e h k d why l t = absurd (omega (arith, e, l))
none-before told names i (f ∷ fs) e h k d why l t =
    subst (λ (x : Option (Result (List ℕ) Reason)). IsRead x (Ok (get_or (f ∷ fs) k f))) t
    (h k d f l)

pub first-unreadable : (told now : Told) (error : StoreError) (reason : Reason)
    (names : List (Bor (List ℕ))) (i : ℕ)
    (d : Bor (List ℕ)) (files : List (List ℕ)) (old new : Names) → i < length names
    → length files ≡ i
    → AreReadTo told (texts names) i files
    → now ≡ told → error ≡ Unreadable reason → IsRead (now (get_or names i d).now) (Err error)
    → new ≡ old ++ take (i + 1) (texts names)
    → IsFirstUnreadable told (texts names) old new (get_or names i d).now reason
first-unreadable told now error reason names i d files old new l e h same is r n = record {
  place = i;
  there = omega (arith, l, length-map names (λ (w : Bor (List ℕ)). w.now));
  named = λ x. text-at names i d x l;
  unreadable = subst (λ (x : StoreError). IsRead (told (get_or names i d).now) (Err x)) is
      (subst (λ (t : Told). IsRead (t (get_or names i d).now) (Err error)) same r);
  before = none-before told (texts names) i files e h;
  reads = n;
}

pub some-read : (told : Told) (names : List (Bor (List ℕ))) (i : ℕ) (files : List (List ℕ))
    (old new : Names)
    → i < length names → length files ≡ i → AreReadTo told (texts names) i files
    → new ≡ old ++ take (i + 1) (texts names) → AreSomeRead told (texts names) old new
some-read told names i files old new l e h n = record {
  place = i;
  there = omega (arith, l, length-map names (λ (w : Bor (List ℕ)). w.now));
  before = none-before told (texts names) i files e h;
  reads = n;
}
