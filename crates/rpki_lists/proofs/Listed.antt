-- Entries that are written one after the other are read.
use Rattle.std.proofs.Common.{◌≡◌, ℕ, List, [], All, Option, Some, None}
use Rattle.std.proofs.Common.{refl, ap, subst, sym, ◌∙◌}
use Rattle.std.specs.List.{flat_map}
use Rattle.std.proofs.lemmas.List.{append-nil}
use Rattle.rpki_basics.specs.declared.build.BuildError.{BuildError}
use Rattle.rpki_basics.specs.declared.build.BuildError.TheVariants as error
use Rattle.rpki_basics.specs.declared.build.BuildFault.{BuildFault}
use Rattle.rpki_der.specs.declared.mode.Mode.{Mode}
use Rattle.rpki_der.specs.declared.mode.Mode.TheVariants.{Der}
use Rattle.rpki_der.specs.Form.Law.{TagSet, IsPart, nothing}
use Rattle.rpki_der.specs.Read.Parse.{Parser, ◌>>=◌, all_of, all_at}
use Rattle.rpki_der.proofs.Form.Words.{all-items}
use Rattle.rpki_der.proofs.Reading.Lengths.{some_is}
use Rattle.rpki_der.proofs.Writing.Leaves.{items-written}
use Rattle.rpki_faults.specs.Checks.{Check, AllHold}
use Rattle.rpki_lists.specs.Entries.{HoldEntries, entries_of, or_empty}
use Rattle.rpki_lists.specs.Built.{IsNotBuilt}

module _ {X : Type 0} where
  all-read : (o : Option (List X)) (xs : List X)
      → ◌>>=◌ {B = List X × List ℕ} o (λ ys. Some (ys, [])) ≡ Some (xs, []) → o ≡ Some xs
  all-read None xs e = absurd cc
  all-read (Some ys) xs e =
      ap (λ (t : List X × List ℕ). Some t.0) (some_is (ys, []) (xs, []) e)

-- what is written of entries is read as these entries
pub entries-read : {X : Type 0} {first : TagSet} {p : Parser X}
    {G : Mode → List ℕ → X → Type 0} → IsPart first nothing p G → (f : X → List ℕ) (xs : List X)
    → All (λ x. G Der (f x) x) xs → all_of p Der (flat_map f xs) ≡ Some xs
entries-read {X} {first} {p} {G} part f xs h =
    let octets : List ℕ = flat_map f xs in
    let items = items-written (G Der) f xs h in
    all-read (all_of p Der octets) xs
    (subst (λ (o : List ℕ). all_at p Der o ≡ Some (xs, [])) (append-nil octets)
    (((all-items part).exact Der).complete octets xs [] refl items))

-- octets that are these hold these entries
pub entries-held : {X : Type 0} (p : Parser X) (octets written : List ℕ) (xs : List X)
    → octets ≡ written → all_of p Der written ≡ Some xs
    → HoldEntries p octets × (entries_of p octets ≡ xs)
entries-held {X} p octets written xs same read =
    let e : all_of p Der octets ≡ Some xs = rw same read in
    ((xs, e), ap (λ (o : Option (List X)). or_empty o) e)

-- ---- what is answered

-- what was found is what is held
pub found-held : {X : Type 0} (p : Parser X) (octets source : List ℕ) (list : List X)
    → source ≡ octets → all_of p Der source ≡ Some list → list ≡ entries_of p octets
found-held {X} p octets source list same found =
    sym (ap (λ (o : Option (List X)). or_empty o)
    (subst (λ (b : List ℕ). all_of p Der b ≡ Some list) same found))

-- entries that are held are found
pub held-found : {X : Type 0} (p : Parser X) (octets source : List ℕ) → source ≡ octets
    → HoldEntries p octets → all_of p Der source ≡ None → ⊥
held-found {X} p octets source same h none =
    let e : all_of p Der octets ≡ None =
    subst (λ (b : List ℕ). all_of p Der b ≡ None) same none in
    let never : (let o : Option (List X) = None in o) ≡ Some h.0 = sym e ∙ h.1 in cc

-- where each check holds, what else is wrong is why it is not built
pub not-built : (checks : List (Check BuildFault)) (long other : Type 0) (e : BuildError)
    → AllHold checks → (long → other) → IsNotBuilt [] long e → IsNotBuilt checks other e
not-built checks long other (error.Fault fault) held f h = absurd h
not-built checks long other error.TooLong held f h = (held, f h.1)
not-built checks long other error.Memory held f h = tt

-- what is short is not built for want of memory alone
pub only-memory : (long : Type 0) (e : BuildError) → (long → ⊥) → IsNotBuilt [] long e
    → e ≡ error.Memory
only-memory long (error.Fault fault) short h = absurd h
only-memory long error.TooLong short h = absurd (short h.1)
only-memory long error.Memory short h = refl
