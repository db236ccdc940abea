-- What the words of a form read takes an octet at least.
use Rattle.std.proofs.Common.{◌≡◌, ℕ, ◌<◌, List, length, Option, Some, None, subst, sym}
use Rattle.std.specs.Prelude.{Bool, true, false, if◌then◌else◌}
use Rattle.rpki_der.specs.declared.mode.Mode.{Mode}
use Rattle.rpki_der.specs.Read.Parse.{Parser, optional, tested}
use Rattle.rpki_der.specs.Form.Made.{made, choice_at, or_read}
use Rattle.rpki_der.proofs.Reading.Lengths.{bind_some, some_is}
use Rattle.rpki_der.proofs.Reading.Many.{optional-some}
use Rattle.rpki_der.proofs.Reading.Skips.{Takes}
use Rattle.rpki_der.proofs.Form.Words.{optional-none}

pub takes-made : {X Y : Type 0} (f : X → Y) (p : Parser X) (mode : Mode) → Takes (p mode)
    → Takes (made f p mode)
takes-made {X} {Y} f p mode takes = record {
  at = λ b y r h.
      let s = bind_some (p mode b) _ (y, r) h in
      let q : (let t : Y × List ℕ = (f s.0.0, s.0.1) in t) ≡ (y, r) = some_is _ _ s.2 in
      subst (λ (t : Y × List ℕ). length t.1 < length b) q (takes.at b s.0.0 s.0.1 s.1);
}

pub takes-tested : {X : Type 0} (test : X → Bool) (p : Parser X) (mode : Mode) → Takes (p mode)
    → Takes (tested test p mode)
unfolding tested
takes-tested {X} test p mode takes = record {
  at = λ b x r h.
      let s = bind_some (p mode b) _ (x, r) h in
      passed (test s.0.0) b s.0 x r (takes.at b s.0.0 s.0.1 s.1) s.2;
}
  where
    passed : (t : Bool) (b : List ℕ) (u : X × List ℕ) (x : X) (r : List ℕ) → length u.1 < length b
        → (if t then Some u else None) ≡ Some (x, r) → length r < length b
    passed true b u x r l e =
        subst (λ (t : X × List ℕ). length t.1 < length b) (some_is u (x, r) e) l
    passed false b u x r l e = absurd cc

pub takes-choice : {X : Type 0} (tag : ℕ) (p q : Parser X) (mode : Mode) → Takes (p mode)
    → Takes (q mode)
    → Takes (choice_at tag p q mode)
takes-choice {X} tag p q mode one two = record {
  at = λ b x r h. let u = bind_some (optional tag p mode b) _ (x, r) h in either b x r u.0 u.1 u.2;
}
  where
    either : (b : List ℕ) (x : X) (r : List ℕ) (u : Option X × List ℕ)
        → optional tag p mode b ≡ Some u
        → or_read u.0 u.1 (q mode u.1) ≡ Some (x, r) → length r < length b
    either b x r (Some y, s) e h =
        let same : (let t : X × List ℕ = (y, s) in t) ≡ (x, r) = some_is _ _ h in
        subst (λ (t : X × List ℕ). length t.1 < length b) same
        (one.at b y s (optional-some tag p mode b y s e))
    either b x r (None, s) e h =
        let same : b ≡ s = (optional-none tag p mode b s e).1 in
        subst (λ (t : List ℕ). length r < length t) (sym same) (two.at s x r h)
