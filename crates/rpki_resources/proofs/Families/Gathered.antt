-- The values of entries are gathered exactly where each family has one at most.
use Rattle.std.proofs.Common.{◌≡◌, ◌≢◌, List, [], ◌∷◌, length, Option, Some, None}
use Rattle.std.proofs.Common.{inl, inr, refl, sym, ap, subst, arith}
use Rattle.std.specs.Prelude.{All}
use Rattle.std.proofs.lemmas.List.Elements.{All-nil, All-cons, All-head, All-tail}
use Rattle.std.proofs.lemmas.List.Kept.{AllPairs-cons}
use Rattle.rpki_der.proofs.Reading.Lengths.{some_is}
use Rattle.rpki_der.specs.Form.Keyed.{AreDistinct, Keyed}
use Rattle.rpki_resources.specs.declared.by_family.ByFamily.{ByFamily}
use Rattle.rpki_resources.specs.declared.by_family.FamilyEntry.{FamilyEntry}
use Rattle.rpki_resources.specs.declared.family.AddressFamily.{AddressFamily}
use Rattle.rpki_resources.specs.declared.family.AddressFamily.TheVariants.{Ipv4, Ipv6}
use Rattle.rpki_resources.specs.Family.Form.{afi}
use Rattle.rpki_resources.specs.Families.Form.{afi_of, IsValueOf, AreEntries}
use Rattle.rpki_resources.specs.Families.Read.{gathered, with_value}
use Rattle.rpki_der.proofs.Form.Keyed.{any-here, any-cases, none-nil, none-both, pairs-head}
use Rattle.rpki_der.proofs.Form.Keyed.{pairs-tail, any-there}

-- ---- what stands for a family

pub same-family : (a b : AddressFamily) → afi a ≡ afi b → a ≡ b
same-family Ipv4 Ipv4 e = refl
same-family Ipv4 Ipv6 e = absurd cc
same-family Ipv6 Ipv4 e = absurd cc
same-family Ipv6 Ipv6 e = refl

four-six : afi Ipv4 ≢ afi Ipv6
four-six e = absurd cc

six-four : afi Ipv6 ≢ afi Ipv4
six-four e = absurd cc

module _ {X : Type 0} where
  -- an entry of this family and value
  abbrev entry : AddressFamily → X → FamilyEntry X
  entry family x = record { family = family; value = x }

  -- an entry of another family
  abbrev Other : AddressFamily → FamilyEntry X → Type 0
  Other family e = afi_of e ≢ afi family

  -- the entry of the family says x
  abbrev Says : AddressFamily → X → FamilyEntry X → Type 0
  Says family x e = (afi_of e ≡ afi family) × IsValueOf e x

  -- what stands for a family, where there was something, or not, before these entries
  abbrev Stands : AddressFamily → Option X → List (FamilyEntry X) → Option X → Type 0
  Stands family None entries found = Keyed afi_of IsValueOf entries (afi family) found
  Stands family (Some y) entries found = (found ≡ Some y) × All (Other family) entries

  abbrev Adds : Option X → Option X → List (FamilyEntry X) → ByFamily X → Type 0
  Adds v4 v6 entries values = AreDistinct afi_of entries × Stands Ipv4 v4 entries values.v4
      × Stands Ipv6 v6 entries values.v6

  -- one of the family comes first
  stands-one : (family : AddressFamily) (x : X) (entries : List (FamilyEntry X)) (found : Option X)
      → Stands family (Some x) entries found → Stands family None (entry family x ∷ entries) found
  stands-one family x entries found h =
      subst (λ (o : Option X). Stands family None (entry family x ∷ entries) o) (sym h.0)
      (any-here (Says family x) (entry family x) entries (refl, refl))

  one-stands : (family : AddressFamily) (x : X) (entries : List (FamilyEntry X)) (found : Option X)
      → All (Other family) entries → Stands family None (entry family x ∷ entries) found
      → Stands family (Some x) entries found
  one-stands family x entries None others h =
      absurd (All-head (Other family) (entry family x) entries h refl)
  one-stands family x entries (Some y) others h =
      elim (any-cases (Says family y) (entry family x) entries h) [
        | inl k ↦ (ap (λ (z : X). (let o : Option X = Some z in o)) (sym k.1), others)
        | inr k ↦ absurd (none-both (Says family y) (Other family) entries
            (λ e s n. n s.0) k others)
      ]

  -- one of another family comes first
  stands-later : (family : AddressFamily) (e : FamilyEntry X) (before : Option X)
      (entries : List (FamilyEntry X)) (found : Option X) → Other family e
      → Stands family before entries found
      → Stands family before (e ∷ entries) found
  stands-later family e (Some y) entries found other h =
      (h.0, All-cons (Other family) e entries other h.1)
  stands-later family e None entries None other h = All-cons (Other family) e entries other h
  stands-later family e None entries (Some y) other h = any-there (Says family y) e entries h

  later-stands : (family : AddressFamily) (e : FamilyEntry X) (before : Option X)
      (entries : List (FamilyEntry X)) (found : Option X) → Other family e
      → Stands family before (e ∷ entries) found
      → Stands family before entries found
  later-stands family e (Some y) entries found other h =
      (h.0, All-tail (Other family) e entries h.1)
  later-stands family e None entries None other h = All-tail (Other family) e entries h
  later-stands family e None entries (Some y) other h =
      elim (any-cases (Says family y) e entries h) [
        | inl k ↦ absurd (other k.0)
        | inr k ↦ k
      ]

  -- there are no entries
  at-end : (family : AddressFamily) (before : Option X) → Stands family before [] before
  at-end family None = All-nil (Other family)
  at-end family (Some y) = (refl, All-nil (Other family))

  end-at : (family : AddressFamily) (before found : Option X) → Stands family before [] found
      → before ≡ found
  end-at family (Some y) found h = sym h.0
  end-at family None None h = refl
  end-at family None (Some y) h = absurd (none-nil (Says family y) h)

  none-pairs : AreDistinct {I = FamilyEntry X} afi_of []
  none-pairs = λ i j d lt le. absurd (omega (arith, le))

  -- one more entry, of a family that the others are not
  distinct-more : (family : AddressFamily) (x : X) (entries : List (FamilyEntry X))
      → AreDistinct afi_of entries
      → All (Other family) entries → AreDistinct afi_of (entry family x ∷ entries)
  distinct-more family x entries d others =
      AllPairs-cons (λ a b. afi_of a ≢ afi_of b) (entry family x) entries
      (λ k e lt same. others k e lt (sym same)) d

  less-distinct : (family : AddressFamily) (x : X) (entries : List (FamilyEntry X))
      → AreDistinct afi_of (entry family x ∷ entries)
      → AreDistinct afi_of entries × All (Other family) entries
  less-distinct family x entries d = (
    pairs-tail (λ a b. afi_of a ≢ afi_of b) (entry family x) entries d,
    λ k e lt same. pairs-head (λ a b. afi_of a ≢ afi_of b) (entry family x) entries d k e lt
        (sym same),
  )

  sound-more : (family : AddressFamily) (x : X) (entries : List (FamilyEntry X))
      → ((v4 v6 : Option X) (values : ByFamily X)
      → gathered (record { v4 = v4; v6 = v6 }) entries ≡ Some values → Adds v4 v6 entries values)
      → (v4 v6 : Option X) (values : ByFamily X)
      → gathered (record { v4 = v4; v6 = v6 }) (entry family x ∷ entries) ≡ Some values
      → Adds v4 v6 (entry family x ∷ entries) values
  unfolding gathered
  sound-more Ipv4 x entries ih None v6 values e =
      let h = ih (Some x) v6 values e in (
        distinct-more Ipv4 x entries h.0 h.1.1,
        stands-one Ipv4 x entries values.v4 h.1,
        stands-later Ipv6 (entry Ipv4 x) v6 entries values.v6 four-six h.2,
      )
  sound-more Ipv4 x entries ih (Some y) v6 values e = absurd cc
  sound-more Ipv6 x entries ih v4 None values e =
      let h = ih v4 (Some x) values e in (
        distinct-more Ipv6 x entries h.0 h.2.1,
        stands-later Ipv4 (entry Ipv6 x) v4 entries values.v4 six-four h.1,
        stands-one Ipv6 x entries values.v6 h.2,
      )
  sound-more Ipv6 x entries ih v4 (Some y) values e = absurd cc

  gathered-sound : (entries : List (FamilyEntry X)) (v4 v6 : Option X) (values : ByFamily X)
      → gathered (record { v4 = v4; v6 = v6 }) entries ≡ Some values → Adds v4 v6 entries values
  unfolding gathered
  gathered-sound [] v4 v6 values e =
      let q : (let t : ByFamily X = record { v4 = v4; v6 = v6 } in t) ≡ values = some_is _ _ e in (
        none-pairs,
        subst (λ (t : ByFamily X). Stands Ipv4 v4 [] t.v4) q (at-end Ipv4 v4),
        subst (λ (t : ByFamily X). Stands Ipv6 v6 [] t.v6) q (at-end Ipv6 v6),
      )
  gathered-sound (e ∷ entries) v4 v6 values h =
      sound-more e.family e.value entries (λ a b c k. gathered-sound entries a b c k) v4 v6 values h

  complete-more : (family : AddressFamily) (x : X) (entries : List (FamilyEntry X))
      → ((v4 v6 : Option X) (values : ByFamily X) → Adds v4 v6 entries values
      → gathered (record { v4 = v4; v6 = v6 }) entries ≡ Some values)
      → (v4 v6 : Option X) (values : ByFamily X) → Adds v4 v6 (entry family x ∷ entries) values
      → gathered (record { v4 = v4; v6 = v6 }) (entry family x ∷ entries) ≡ Some values
  unfolding gathered
  complete-more Ipv4 x entries ih None v6 values h =
      let d = less-distinct Ipv4 x entries h.0 in
      ih (Some x) v6 values (
        d.0,
        one-stands Ipv4 x entries values.v4 d.1 h.1,
        later-stands Ipv6 (entry Ipv4 x) v6 entries values.v6 four-six h.2,
      )
  complete-more Ipv4 x entries ih (Some y) v6 values h =
      absurd (All-head (Other Ipv4) (entry Ipv4 x) entries h.1.1 refl)
  complete-more Ipv6 x entries ih v4 None values h =
      let d = less-distinct Ipv6 x entries h.0 in
      ih v4 (Some x) values (
        d.0,
        later-stands Ipv4 (entry Ipv6 x) v4 entries values.v4 six-four h.1,
        one-stands Ipv6 x entries values.v6 d.1 h.2,
      )
  complete-more Ipv6 x entries ih v4 (Some y) values h =
      absurd (All-head (Other Ipv6) (entry Ipv6 x) entries h.2.1 refl)

  gathered-complete : (entries : List (FamilyEntry X)) (v4 v6 : Option X) (values : ByFamily X)
      → Adds v4 v6 entries values → gathered (record { v4 = v4; v6 = v6 }) entries ≡ Some values
  unfolding gathered
  gathered-complete [] v4 v6 values h =
      let p : v4 ≡ values.v4 = end-at Ipv4 v4 values.v4 h.1 in
      let q : v6 ≡ values.v6 = end-at Ipv6 v6 values.v6 h.2 in
      λ i. Some (record { v4 = p i; v6 = q i })
  gathered-complete (e ∷ entries) v4 v6 values h =
      complete-more e.family e.value entries (λ a b c k. gathered-complete entries a b c k)
      v4 v6 values h

  -- one more entry
  pub gathered-more : (values more : ByFamily X) (family : AddressFamily) (x : X)
      (entries : List (FamilyEntry X)) → with_value family x values ≡ Some more
      → gathered values (entry family x ∷ entries) ≡ gathered more entries
  unfolding gathered
  gathered-more values more family x entries e = rw e refl

  -- one that is a second of its family
  pub gathered-none : (values : ByFamily X) (family : AddressFamily) (x : X)
      (entries : List (FamilyEntry X)) → with_value family x values ≡ None
      → gathered values (entry family x ∷ entries) ≡ None
  unfolding gathered
  gathered-none values family x entries e = rw e refl

  pub gathered-end : (values : ByFamily X) (entries : List (FamilyEntry X))
      → length entries ≡ 0 → gathered values entries ≡ Some values
  unfolding gathered
  gathered-end values [] e = refl
  gathered-end values (x ∷ entries) e = absurd (omega (arith, e))

  -- the values of all entries
  pub entries-sound : (entries : List (FamilyEntry X)) (values : ByFamily X)
      → gathered (record { v4 = None; v6 = None }) entries ≡ Some values
      → AreEntries entries values
  entries-sound entries values e = let h = gathered-sound entries None None values e in
      record { distinct = h.0; v4 = h.1; v6 = h.2 }

  pub entries-complete : (entries : List (FamilyEntry X)) (values : ByFamily X)
      → AreEntries entries values
      → gathered (record { v4 = None; v6 = None }) entries ≡ Some values
  entries-complete entries values h =
      gathered-complete entries None None values (h.distinct, h.v4, h.v6)
