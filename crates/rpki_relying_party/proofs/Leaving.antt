-- Places that were left unread are counted, and refused.
use Rattle.std.proofs.Common.{◌≡◌, ◌⊎◌, inl, inr, ℕ, ◌+◌, ◌<◌, ◌^◌, Bool, true, false, cond}
use Rattle.std.proofs.Common.{List, []}
use Rattle.std.proofs.Common.{◌∷◌, ◌++◌, Option, None, Some, Contains, String, BTreeMap}
use Rattle.std.proofs.Common.{length, take}
use Rattle.std.proofs.Common.{get_or, unwrap_or, refl, sym, subst, ap, ◌∙◌, arith}
use Rattle.std.specs.Prelude.{◌&&◌, bytes_eq}
use Rattle.std.specs.BTreeMap.{get_by_text}
use Rattle.std.specs.Map.{update}
use Rattle.std.specs.Option.{option_eq}
use Rattle.std.proofs.lemmas.List.{take_more, length-take}
use Rattle.std.proofs.lemmas.List.Elements.{Contains-append_left, Contains-append_right}
use Rattle.std.proofs.lemmas.List.Sums.{sum_by_more, count_by-le-length}
use Rattle.std.proofs.lemmas.Slice.Eq.{bytes_eq-Decides}
use Rattle.rpki_relying_party.specs.Runs.{lister_of, is_same, is_left, left_under}
use Rattle.rpki_relying_party.specs.Runs.{IsRefusalFor, KeepsAll, count_for}
use Rattle.rpki_relying_party.specs.Walk.{Left}
use Rattle.rpki_relying_party.specs.declared.found.Finding.{Finding}
use Rattle.rpki_relying_party.specs.declared.found.Found.{Found}
use Rattle.rpki_relying_party.specs.declared.place.Place.{Place}
use Rattle.rpki_relying_party.specs.declared.walk.Why.{Why}
use Rattle.rpki_relying_party.proofs.Lists.{contains-first, push-cases}

-- ---- counting

-- one more is kept for a URI
pub one-more : {Y : Type 0} (old new : BTreeMap (String Y) ℕ) (uri : List ℕ)
    → ((other : List ℕ) → get_by_text new other
    ≡ update bytes_eq (get_by_text old) uri (Some (count_for old uri + 1)) other)
    → (other : List ℕ) → count_for new other ≡ count_for old other + cond (bytes_eq uri other) 1 0
one-more old new uri sets other =
    ap (λ (o : Option ℕ). unwrap_or o 0) (sets other) ∙ by (bytes_eq uri other) refl
  where
    by : (b : Bool) → bytes_eq uri other ≡ b
        → unwrap_or (cond b (Some (count_for old uri + 1)) (get_by_text old other)) 0
        ≡ count_for old other + cond b 1 0
    by true e = ap (λ (u : List ℕ). count_for old u + 1) ((bytes_eq-Decides uri other).0 e)
    by false e = omega arith

module _ (u : Left Place) (why : Why) where
  -- a place that was left for this is one of those of the CA that listed it
  pub counts-one : (at : List ℕ) → is_same u.why why ≡ true → lister_of u.place ≡ Some at
      → (uri : List ℕ) → is_left why uri u ≡ bytes_eq at uri
  counts-one at same lister uri =
      ap (λ (b : Bool). b && option_eq bytes_eq (lister_of u.place) (Some uri)) same
      ∙ ap (λ (o : Option (List ℕ)). option_eq bytes_eq o (Some uri)) lister

  -- any other is none
  pub counts-none : (is_same u.why why ≡ false) ⊎ (lister_of u.place ≡ None) → (uri : List ℕ)
      → is_left why uri u ≡ false
  counts-none (inl other) uri =
      ap (λ (b : Bool). b && option_eq bytes_eq (lister_of u.place) (Some uri)) other
  counts-none (inr none) uri =
      ap (λ (o : Option (List ℕ)). is_same u.why why && option_eq bytes_eq o (Some uri)) none
      ∙ no (is_same u.why why)
    where
      no : (b : Bool) → (b && false) ≡ false
      no true = refl
      no false = refl

  pub more-counted : (old new : List ℕ → ℕ) (at : List ℕ) → is_same u.why why ≡ true
      → lister_of u.place ≡ Some at
      → ((other : List ℕ) → new other ≡ old other + cond (bytes_eq at other) 1 0)
      → (uri : List ℕ) → new uri ≡ old uri + cond (is_left why uri u) 1 0
  more-counted old new at same lister one uri =
      one uri ∙ ap (λ (b : Bool). old uri + cond b 1 0) (sym (counts-one at same lister uri))

  pub same-counted : (old : List ℕ → ℕ) → (is_same u.why why ≡ false) ⊎ (lister_of u.place ≡ None)
      → (uri : List ℕ) → old uri ≡ old uri + cond (is_left why uri u) 1 0
  same-counted old h uri =
      same ∙ ap (λ (b : Bool). old uri + cond b 1 0) (sym (counts-none h uri))
    where
      same : old uri ≡ old uri + 0
      same = omega arith

module _ (unread : List (Left Place)) (i : ℕ) (why : Why) (counts : List ℕ → ℕ)
    (so-far : (uri : List ℕ) → counts uri ≡ left_under (take i unread) why uri) where
  -- as many were counted as were looked at, at most
  pub counts-fit : i + 1 < 2 ^ 64 → (uri : List ℕ) → counts uri + 1 < 2 ^ 64
  counts-fit short uri = omega (
    arith,
    so-far uri,
    count_by-le-length (is_left why uri) (take i unread),
    length-take i unread,
    short,
  )

  -- one place more is counted
  pub counts-next : i < length unread → (u : Left Place) → u ≡ get_or unread i u
      → (new : List ℕ → ℕ)
      → ((uri : List ℕ) → new uri ≡ counts uri + cond (is_left why uri u) 1 0)
      → (uri : List ℕ) → new uri ≡ left_under (take (i + 1) unread) why uri
  counts-next within u e new more uri =
      more uri ∙ ap (λ (n : ℕ). n + one u) (so-far uri)
      ∙ ap (λ (v : Left Place). left_under (take i unread) why uri + one v) e
      ∙ sym (sum_by_more one unread i u within)
    where
      one : Left Place → ℕ
      one v = cond (is_left why uri v) 1 0

-- ---- refusing

-- what is kept by the one, and then by the other
keeps-both : (P Q R : Finding → Type 0) (a b c : Found) → KeepsAll P a b → KeepsAll Q b c
    → ((x : Finding) → R x → P x ⊎ Q x) → ((x : Finding) → P x → R x) → ((x : Finding) → Q x → R x)
    → KeepsAll R a c
keeps-both P Q R a b c p q split left right = record {
  stays = λ x h. q.stays x (p.stays x h);
  kept = λ x r. elim (split x r) [
    | inl one ↦ q.stays x (p.kept x one)
    | inr two ↦ q.kept x two
  ];
  lists = λ x l. elim (q.lists x l) [
    | inl before ↦ elim (p.lists x before) [
      | inl old ↦ inl old
      | inr one ↦ inr (left x one)
    ]
    | inr two ↦ inr (right x two)
  ];
}

-- the refusals for those of these places, where so many are counted
abbrev pub IsSeen : (Why → List ℕ → ℕ) → List (Left Place) → Finding → Type 0
IsSeen counts seen x = (u : Left Place) × Contains seen u × IsRefusalFor counts u x

-- one place more is refused
pub seen-next : (counts : Why → List ℕ → ℕ) (unread : List (Left Place)) (i : ℕ)
    → i < length unread → (u : Left Place) → u ≡ get_or unread i u → (first old new : Found)
    → KeepsAll (IsSeen counts (take i unread)) first old → KeepsAll (IsRefusalFor counts u) old new
    → KeepsAll (IsSeen counts (take (i + 1) unread)) first new
seen-next counts unread i within u e first old new before one = subst
    (λ (l : List (Left Place)). KeepsAll (IsSeen counts l) first new)
    (sym (take_more unread i u within
    ∙ ap (λ (v : Left Place). seen ++ v ∷ []) (sym e)))
    (keeps-both (IsSeen counts seen) (IsRefusalFor counts u) (IsSeen counts (seen ++ u ∷ []))
    first old new before one
    (λ x p. elim (push-cases seen u (p.0) (p.1)) [
      | inl there ↦ inl (p.0, there, p.2)
      | inr same ↦ inr (subst (λ (v : Left Place). IsRefusalFor counts v x) same (p.2))
    ])
    (λ x p. (p.0, Contains-append_left seen (u ∷ []) (p.0) (p.1), p.2))
    (λ x p. (u, Contains-append_right seen (u ∷ []) u (contains-first u []), p)))
  where
    seen : List (Left Place)
    seen = take i unread
