-- Texts whose end is taken off.
use Rattle.std.proofs.Common.{◌≡◌, ◌≤◌, ◌-◌, ◌∙◌, ℕ, List, Bool, true, false, refl, sym, ap}
use Rattle.std.proofs.Common.{length, take, arith, None, subst}
use Rattle.std.specs.Prelude.{◌==◌, if◌then◌else◌}
use Rattle.std.specs.List.{ends_with}
use Rattle.std.specs.Str.{IsCharBoundary}
use Rattle.std.specs.Str.Pattern.{FindsTextSuffix, StripsSuffix}
use Rattle.std.proofs.lemmas.Str.Pattern.{ends_text}
use Rattle.rpki_relying_party.specs.Names.{without_end}

-- what is chosen where a text ends so, and where it does not
chosen : (b : Bool) (a d : List ℕ) → b ≡ true → (if b then a else d) ≡ a
chosen true a d e = refl
chosen false a d e = absurd cc

left : (b : Bool) (a d : List ℕ) → b ≡ false → (if b then a else d) ≡ d
left true a d e = absurd cc
left false a d e = refl

-- all of it, where it has no such end
pub kept : (end s : List ℕ) → FindsTextSuffix end s None → s ≡ without_end end s
kept end s h = sym (left (ends_with (λ a b. a == b) s end) _ s (sym (ends_text false end s h)))

-- without its end
pub cut : (end s x : List ℕ) → StripsSuffix (FindsTextSuffix end) s x → x ≡ without_end end s
cut end s x h =
    let fits : h.0 ≤ length s = omega (arith, h.3) in
    h.2 ∙ ap (λ (n : ℕ). take (length s - n) s) h.1.0
    ∙ sym (chosen (ends_with (λ a b. a == b) s end) _ s
    (sym (ends_text true end s (
      h.0,
      h.1,
      fits,
      subst (λ (n : ℕ). IsCharBoundary s (length s - n)) (sym h.1.0) h.1.2,
    ))))
