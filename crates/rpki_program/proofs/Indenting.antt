-- Texts whose lines are indented.
use Rattle.std.proofs.Common.{◌≡◌, ◌∙◌, ◌<◌, ℕ, suc, List, [], ◌∷◌, ◌++◌, Bool, true, false, refl}
use Rattle.std.proofs.Common.{sym, ap, arith, length, get_or, append_assoc, Result, Ok, Err, Global}
use Rattle.std.proofs.lemmas.Bool.{eqb-true, eqb-false}
use Rattle.std.proofs.lemmas.List.{append-nil, length-take-le, get_or-take}
use Rattle.std.proofs.lemmas.List.Sums.{split_at_first, fails_before_first, passes_at_first}
use Rattle.std.specs.List.{position_or_len, before_first, after_first}
use Rattle.std.specs.Prelude.{◌==◌, codes, String, string_bytes}
use Rattle.std.specs.declared.alloc.AllocError.{AllocError}
use Rattle.rpki_show.specs.Grows.{Grows}
use Rattle.rpki_program.specs.Verify.Entry.{indented, spaces_after}

-- whether an octet is a line feed
abbrev pub is_feed : ℕ → Bool
is_feed b = b == 10

spaces-none : (c : ℕ) (rest : List ℕ) → is_feed c ≡ false → spaces_after c rest ≡ []
spaces-none c [] h = refl
spaces-none c (d ∷ rest) h = rw h refl

-- what has no line feed stays as it is
indented-line : (bs rest : List ℕ)
    → ((k d : ℕ) → k < length bs → is_feed (get_or bs k d) ≡ false)
    → indented (bs ++ rest) ≡ bs ++ indented rest
indented-line [] rest none = refl
indented-line (b ∷ bs) rest none =
    ap (λ (s : List ℕ). b ∷ (s ++ indented (bs ++ rest)))
    (spaces-none b (bs ++ rest) (none 0 b (omega arith)))
    ∙ ap (λ (l : List ℕ). b ∷ l)
    (indented-line bs rest (λ k d l. none (suc k) d (omega (arith, l))))

pub indented-last : (bs : List ℕ) → position_or_len is_feed bs ≡ length bs → indented bs ≡ bs
indented-last bs e =
    ap indented (sym (append-nil bs))
    ∙ indented-line bs [] (λ k d l. fails_before_first is_feed bs k d (omega (arith, l, e)))
    ∙ append-nil bs

no-feed : (bs : List ℕ) → position_or_len is_feed bs < length bs → (k d : ℕ)
    → k < length (before_first is_feed bs) → is_feed (get_or (before_first is_feed bs) k d) ≡ false
no-feed bs l k d b =
    let n = position_or_len is_feed bs in
    let short : length (before_first is_feed bs) ≡ position_or_len is_feed bs =
    length-take-le n bs (omega (arith, l)) in
    let there : k < position_or_len is_feed bs = omega (arith, b, short) in
    ap is_feed (get_or-take n bs k d there) ∙ fails_before_first is_feed bs k d there

-- a text is cut at its first line feed
indented-cut : (bs : List ℕ) → position_or_len is_feed bs < length bs
    → indented bs ≡ before_first is_feed bs
    ++ 10 ∷ (spaces_after 10 (after_first is_feed bs) ++ indented (after_first is_feed bs))
indented-cut bs l =
    let feed : get_or bs (position_or_len is_feed bs) 0 ≡ 10 =
    eqb-true _ 10 (passes_at_first is_feed bs 0 l) in
    ap indented (split_at_first is_feed bs 0 l
    ∙ ap (λ (x : ℕ). before_first is_feed bs ++ x ∷ after_first is_feed bs) feed)
    ∙ indented-line (before_first is_feed bs) (10 ∷ after_first is_feed bs) (no-feed bs l)

-- one more line is appended, and spaces where others follow
pub line-more : (old text line rest others more : List ℕ)
    → position_or_len is_feed rest < length rest → line ≡ before_first is_feed rest
    → others ≡ after_first is_feed rest → more ≡ spaces_after 10 others
    → text ≡ ((old ++ line) ++ codes "\n") ++ more
    → text ++ indented others ≡ old ++ indented rest
line-more old text line rest others more l first second third t =
    let cut : indented rest ≡ line ++ 10 ∷ (more ++ indented others) =
    rw (first, third, second) (indented-cut rest l) in
    rw (t, cut) (simp append_assoc)

pub spaces-some : (others : List ℕ) → (length others == 0) ≡ false
    → codes "  " ≡ spaces_after 10 others
spaces-some [] h = absurd (eqb-false 0 0 h refl)
spaces-some (d ∷ rest) h = refl

pub spaces-end : (others : List ℕ) → (length others == 0) ≡ true → [] ≡ spaces_after 10 others
spaces-end [] h = refl
spaces-end (d ∷ rest) h =
    let none : length (d ∷ rest) ≡ 0 = eqb-true (length (d ∷ rest)) 0 h in
    absurd (omega (arith, none))

-- a text that grows by what is left has grown by all
pub grown : (result : Result (Unit {0}) AllocError) (old text new : String Global)
    (octets all : List ℕ) → Grows result text new octets
    → string_bytes text ++ octets ≡ string_bytes old ++ all → Grows result old new all
grown (Ok done) old text new octets all h e = h ∙ e
grown (Err e) old text new octets all h f = h
