-- Octets after a value, in a form each member of which is one value.
use Rattle.std.proofs.Common.{◌≡◌, List, [], ◌++◌, ℕ, sym, ap, subst, ◌∙◌, append_assoc}
use Rattle.std.proofs.lemmas.List.{append-nil}
use Rattle.rpki_der.specs.declared.mode.Mode.{Mode}
use Rattle.rpki_der.specs.Grammar.{Front, HasNoFront, Value}
use Rattle.rpki_der.specs.Read.Parse.{any_at}
use Rattle.rpki_der.proofs.Reading.Exact.{exact-any}
use Rattle.rpki_der.proofs.Reading.Unique.{unique}
use Rattle.rpki_der.specs.Form.After.{LeavesOctetsAfter}

module _ {X : Type 0} (mode : Mode) (form : List ℕ → X → Type 0)
    (one : (o : List ℕ) (x : X) → form o x → (tag : ℕ) × (c : List ℕ) × Value mode o tag c)
  where
    left-after : (octets more : List ℕ) (x : X) (rest : List ℕ) → Front form octets x rest
        → Front form (octets ++ more) x (rest ++ more)
    left-after octets more x rest f =
        (f.0, ap (λ (o : List ℕ). o ++ more) f.1 ∙ append_assoc f.0 rest more, f.2)

    whole-value : (octets contents more : List ℕ) (tag : ℕ) (x : X) (rest : List ℕ)
        → Value mode octets tag contents → Front form (octets ++ more) x rest
        → form octets x × (rest ≡ more)
    whole-value octets contents more tag x rest value f =
        let v = one f.0 x f.2 in
        let same = unique (any_at mode) (λ o (w : ℕ × List ℕ). Value mode o w.0 w.1)
        (exact-any mode) f.0 octets (v.0, v.1) (tag, contents) rest more v.2 value (sym f.1) in
        (subst (λ (o : List ℕ). form o x) same.0 f.2, same.2)

    still-none : (octets contents more : List ℕ) (tag : ℕ) → Value mode octets tag contents
        → HasNoFront form octets → HasNoFront form (octets ++ more)
    still-none octets contents more tag value none x rest f = none x [] (
      octets,
      sym (append-nil octets),
      (whole-value octets contents more tag x rest value f).0,
    )

    pub leaves-after : LeavesOctetsAfter mode form
    leaves-after = record { left = left-after; whole = whole-value; refused = still-none }
