-- Names of plain segments.
use Rattle.std.proofs.Common.{◌≡◌, ℕ, List, [], ◌∷◌, Bool, true, false, refl, All, length, codes}
use Rattle.std.proofs.Common.{arith, sym, ◌↔◌, IsTrue}
use Rattle.std.proofs.lemmas.Bool.{and_parts, and_from}
use Rattle.std.proofs.lemmas.Bool.Decides.{Decides-eqb}
use Rattle.std.proofs.lemmas.List.Elements.{All-nil, All-cons, All-head, All-tail}
use Rattle.std.proofs.lemmas.Slice.Eq.{bytes_eq-Decides}
use Rattle.std.specs.List.{list_all, slice_split}
use Rattle.std.specs.Prelude.{◌==◌, bytes_eq, not, ◌&&◌}
use Rattle.rpki_relying_party.specs.Names.{IsPlain, IsBelow, is_slash}

-- whether a segment is plain
abbrev pub is_plain : List ℕ → Bool
is_plain segment = not (length segment == 0)
    && (not (bytes_eq segment (codes ".")) && not (bytes_eq segment (codes "..")))

both : (b : Bool) → not b ≡ true → b ≡ true → ⊥
both true n e = absurd cc
both false n e = absurd cc

neither : (b : Bool) → (b ≡ true → ⊥) → not b ≡ true
neither true n = absurd (n refl)
neither false n = refl

no-length : (s : List ℕ) → s ≡ [] → (length s == 0) ≡ true
no-length [] e = refl
no-length (o ∷ s) e = absurd cc

empty : (s : List ℕ) → (length s == 0) ≡ true → s ≡ []
empty [] e = refl
empty (o ∷ s) e =
    let none : length (o ∷ s) ≡ 0 = (Decides-eqb (length (o ∷ s)) 0).0 e in
    absurd (omega (arith, none))

pub plain : (s : List ℕ) → is_plain s ≡ true → IsPlain s
plain s h =
    let a = and_parts (not (length s == 0)) _ h in
    let b = and_parts (not (bytes_eq s (codes "."))) _ a.1 in (
      λ e. both (length s == 0) a.0 (no-length s e),
      λ e. both (bytes_eq s (codes ".")) b.0 ((bytes_eq-Decides s (codes ".")).1 e),
      λ e. both (bytes_eq s (codes "..")) b.1 ((bytes_eq-Decides s (codes "..")).1 e),
    )

pub is-plain : (s : List ℕ) → IsPlain s → is_plain s ≡ true
is-plain s h =
    and_from _ _ (neither (length s == 0) (λ e. h.0 (empty s e)))
    (and_from _ _
    (neither (bytes_eq s (codes ".")) (λ e. h.1 ((bytes_eq-Decides s (codes ".")).0 e)))
    (neither (bytes_eq s (codes "..")) (λ e. h.2 ((bytes_eq-Decides s (codes "..")).0 e))))

-- each segment is plain where that is found of all
pub all-plain : (ss : List (List ℕ)) → list_all is_plain ss ≡ true → All IsPlain ss
all-plain [] h = All-nil IsPlain
all-plain (s ∷ ss) h =
    let p = and_parts (is_plain s) (list_all is_plain ss) h in
    All-cons IsPlain s ss (plain s p.0) (all-plain ss p.1)

-- it is found of all where each is
pub found-plain : (ss : List (List ℕ)) → All IsPlain ss → list_all is_plain ss ≡ true
found-plain [] h = refl
found-plain (s ∷ ss) h =
    and_from _ _ (is-plain s (All-head IsPlain s ss h)) (found-plain ss (All-tail IsPlain s ss h))

never : false ≡ true → ⊥
never e = absurd cc

differ : (b : Bool) → false ≡ b → b ≡ true → ⊥
differ true e f = absurd cc
differ false e f = absurd cc

refuted : (b : Bool) → (b ≡ true → ⊥) → false ≡ b
refuted true n = absurd (n refl)
refuted false n = refl

-- two tests of one property agree
pub same-plain : (s : List ℕ) (b : Bool) → IsTrue b ↔ IsPlain s → b ≡ is_plain s
same-plain s true h = sym (is-plain s (h.0 refl))
same-plain s false h = refuted (is_plain s) (λ e. never (h.1 (plain s e)))

-- a segment is found to be plain
pub plain-found : (s : List ℕ) (b : Bool) → b ≡ is_plain s → IsTrue b ↔ IsPlain s
plain-found s true e = (λ t. plain s (sym e), λ h. refl)
plain-found s false e = (λ t. absurd (never t), λ h. absurd (differ (is_plain s) e (is-plain s h)))

-- a name is found to lead to a file below a folder
pub below-found : (name : List ℕ) (b : Bool) → b ≡ list_all is_plain (slice_split is_slash name)
    → IsTrue b ↔ IsBelow name
below-found name true e = (λ t. all-plain (slice_split is_slash name) (sym e), λ h. refl)
below-found name false e = (
  λ t. absurd (never t),
  λ h. absurd (differ (list_all is_plain (slice_split is_slash name)) e
      (found-plain (slice_split is_slash name) h)),
)
