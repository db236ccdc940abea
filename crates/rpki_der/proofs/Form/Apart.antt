-- What follows from the tags that a part may begin with.
use Rattle.std.proofs.Common.{◌≡◌, ◌≢◌, ℕ, true, false, List, [], ◌∷◌, ◌++◌, inl, inr, refl}
use Rattle.std.proofs.Common.{sym, ap, ◌∙◌, eq-eqb}
use Rattle.std.specs.Prelude.{not, ◌||◌, ◌==◌}
use Rattle.std.proofs.Math.Bool.{or_assoc, or-true}
use Rattle.std.proofs.lemmas.Bool.{eqb-true, ne_eqb, and_parts, or_parts, or_cases, or_left}
use Rattle.std.proofs.lemmas.Bool.{not-true}
use Rattle.rpki_der.specs.Read.Parse.{is_next}
use Rattle.rpki_der.specs.Form.Law.{TagSet, every, only, is, or, is_one_of, has, NoneNext}
use Rattle.rpki_der.specs.Form.Law.{StartsIn, Starts, are_apart}

one-of-both : (a b : List ℕ) (tag : ℕ)
    → is_one_of (a ++ b) tag ≡ (is_one_of a tag || is_one_of b tag)
one-of-both [] b tag = refl
one-of-both (t ∷ a) b tag =
    rw (one-of-both a b tag) (sym (or_assoc (t == tag) (is_one_of a tag) (is_one_of b tag)))

-- what is in neither set
pub in-neither : (a b : TagSet) (tag : ℕ) → has (or a b) tag ≡ false
    → (has a tag ≡ false) × (has b tag ≡ false)
in-neither every b tag e = absurd cc
in-neither (only x) every tag e = absurd cc
in-neither (only x) (only y) tag e =
    or_parts (is_one_of x tag) (is_one_of y tag) (sym (one-of-both x y tag) ∙ e)

-- what is in the first, or in the second
pub in-left : (a b : TagSet) (tag : ℕ) → has a tag ≡ true → has (or a b) tag ≡ true
in-left every b tag e = refl
in-left (only x) every tag e = refl
in-left (only x) (only y) tag e = one-of-both x y tag
    ∙ or_left (is_one_of x tag) (is_one_of y tag) e

pub in-right : (a b : TagSet) (tag : ℕ) → has b tag ≡ true → has (or a b) tag ≡ true
in-right every b tag e = refl
in-right (only x) every tag e = refl
in-right (only x) (only y) tag e = one-of-both x y tag ∙ (rw e (or-true (is_one_of x tag)))

-- nothing is next
none-at-all : (o : List ℕ) → ((tag : ℕ) → is_next tag o ≡ false) → o ≡ []
none-at-all [] h = refl
none-at-all (t ∷ o) h = let both : true ≡ false = sym (eq-eqb t t refl) ∙ h t in absurd cc

-- where no other tag than one in first is next, none of these is
pub none-next : (apart first : TagSet) → are_apart apart first ≡ true → (o : List ℕ)
    → ((tag : ℕ) → has first tag ≡ false → is_next tag o ≡ false) → NoneNext apart o
none-next (only []) first e o h = tt
none-next (only (tag ∷ tags)) first e o h =
    let p = and_parts (not (has first tag)) (are_apart (only tags) first) e in
    (h tag (not-true (has first tag) p.0), none-next (only tags) first p.1 o h)
none-next every every e o h = absurd cc
none-next every (only []) e o h = none-at-all o (λ tag. h tag refl)
none-next every (only (tag ∷ tags)) e o h = absurd cc

pub none-at-end : (apart : TagSet) → NoneNext apart []
none-at-end every = refl
none-at-end (only []) = tt
none-at-end (only (tag ∷ tags)) = (refl, none-at-end (only tags))

other-tag : (first : TagSet) (t tag : ℕ) → has first t ≡ true → has first tag ≡ false → t ≢ tag
other-tag first t tag there out e = let both : true ≡ false = sym there ∙ ap (has first) e ∙ out in
    absurd cc

-- a tag that is not in first is not next
pub not-next : (first : TagSet) (o r : List ℕ) (tag : ℕ) → StartsIn first o → has first tag ≡ false
    → is_next tag (o ++ r) ≡ false
not-next first o r tag s out = rw s.2 (ne_eqb s.0 tag (other-tag first s.0 tag s.3 out))

pub starts-next : (first apart : TagSet) (o r : List ℕ) (tag : ℕ) → Starts first apart o
    → has first tag ≡ false → is_next tag r ≡ false → is_next tag (o ++ r) ≡ false
starts-next first (only []) o r tag s out e = not-next first o r tag s out
starts-next first (only (t ∷ ts)) o r tag (inl s) out e = rw s e
starts-next first (only (t ∷ ts)) o r tag (inr s) out e = not-next first o r tag s out
starts-next first every o r tag (inl s) out e = rw s e
starts-next first every o r tag (inr s) out e = not-next first o r tag s out

-- what is there starts so
pub starts-as : (a b apart : TagSet) (o : List ℕ)
    → ((tag : ℕ) → has a tag ≡ true → has b tag ≡ true) → Starts a apart o → Starts b apart o
starts-as a b (only []) o f s = (s.0, s.1, s.2, f s.0 s.3)
starts-as a b (only (t ∷ ts)) o f (inl s) = inl s
starts-as a b (only (t ∷ ts)) o f (inr s) = inr (s.0, s.1, s.2, f s.0 s.3)
starts-as a b every o f (inl s) = inl s
starts-as a b every o f (inr s) = inr (s.0, s.1, s.2, f s.0 s.3)

-- what starts with this tag alone has it next
pub starts-is : (tag : ℕ) (o : List ℕ) → StartsIn (is tag) o → (t : List ℕ) × (o ≡ tag ∷ t)
starts-is tag o s = (
  s.1,
  s.2 ∙ ap (λ (t : ℕ). t ∷ s.1) (elim (or_cases (tag == s.0) false s.3) [
    | inl e ↦ sym (eqb-true tag s.0 e)
    | inr e ↦ absurd cc
  ]),
)
