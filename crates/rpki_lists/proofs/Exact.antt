-- A list of entries is read exactly where each entry is.
use Rattle.std.proofs.Common.{◌≡◌, ℕ, List, [], ◌++◌, Option, Some, None, refl, sym, ◌∙◌}
use Rattle.rpki_der.specs.Tags.{SEQUENCE}
use Rattle.rpki_der.specs.declared.mode.Mode.{Mode}
use Rattle.rpki_der.specs.declared.mode.Mode.TheVariants.{Der}
use Rattle.rpki_der.specs.Read.Parse.{Parser, ◌>>=◌, value_at, whole, in_value, all_of, all_at}
use Rattle.rpki_der.specs.Read.Exact.{IsReading}
use Rattle.rpki_der.specs.Grammar.{Items}
use Rattle.rpki_der.specs.Form.Parts.{SequenceOf}
use Rattle.rpki_der.specs.Form.Law.{TagSet, IsPart, nothing, is}
use Rattle.rpki_der.proofs.Form.Words.{in-tag, all-items}
use Rattle.rpki_der.proofs.Reading.Unique.{reading, within-one}
use Rattle.rpki_lists.specs.Entries.{list_at}

-- what is read in DER whatever the mode
pub in-der : {X : Type 0} {first apart : TagSet} {p : Parser X} {G : Mode → List ℕ → X → Type 0}
    → IsPart first apart p G → IsPart first apart (λ _. p Der) (λ _. G Der)
in-der e = record {
  exact = λ _. record { sound = (e.exact Der).sound; complete = (e.exact Der).complete };
  starts = λ _. e.starts Der;
  relaxed = λ o x g. g;
}

-- another spelling of what reads
pub part-spelt : {X : Type 0} {first apart : TagSet} {p q : Parser X} {G : Mode → List ℕ → X
    → Type 0} → ((mode : Mode) (b : List ℕ) → q mode b ≡ p mode b) → IsPart first apart p G
    → IsPart first apart q G
part-spelt same e = record {
  exact = λ mode. record {
    sound = λ b x r bytes h. (e.exact mode).sound b x r bytes (sym (same mode b) ∙ h);
    complete = λ o x r er g. same mode (o ++ r) ∙ (e.exact mode).complete o x r er g;
  };
  starts = e.starts;
  relaxed = e.relaxed;
}

module _ {X : Type 0} (p : Parser X) where
  all-whole : (o : Option (List X)) (r : List ℕ)
      → ◌>>=◌ {B = List X × List ℕ} o (λ xs. Some (xs, r))
      ≡ ◌>>=◌ {B = List X × List ℕ} (whole (◌>>=◌ {B = List X × List ℕ} o (λ xs. Some (xs, []))))
      (λ xs. Some (xs, r))
  all-whole None r = refl
  all-whole (Some xs) r = refl

  list-spelt : (mode : Mode) (b : List ℕ)
      → list_at p mode b ≡ in_value SEQUENCE (λ _. all_at p Der) mode b
  list-spelt mode b = of (value_at SEQUENCE mode b)
    where
      of : (v : Option (List ℕ × List ℕ))
          → ◌>>=◌ {B = List X × List ℕ} v (λ v. all_of p Der v.0 >>= λ xs. Some (xs, v.1))
          ≡ ◌>>=◌ {B = List X × List ℕ} v (λ v. whole (all_at p Der v.0) >>= λ xs. Some (xs, v.1))
      of None = refl
      of (Some v) = all-whole (all_of p Der v.0) v.1

-- a SEQUENCE OF entries in DER
pub list-part : {X : Type 0} {first : TagSet} {p : Parser X} {G : Mode → List ℕ → X → Type 0}
    → IsPart first nothing p G
    → IsPart (is SEQUENCE) nothing (list_at p) (λ mode. SequenceOf mode (G Der))
list-part {X} {first} {p} {G} e =
    part-spelt (list-spelt p) (in-tag SEQUENCE (in-der (all-items e)))

pub list-reading : {X : Type 0} {first : TagSet} {p : Parser X} {G : Mode → List ℕ → X → Type 0}
    → IsPart first nothing p G → IsReading (list_at p) (λ mode. SequenceOf mode (G Der))
list-reading {X} {first} {p} {G} e =
    let part = list-part e in
    reading (list_at p) (λ mode. SequenceOf mode (G Der))
    (λ mode. record {
      sound = (part.exact mode).sound;
      complete =
          λ o xs r _ h. (part.exact mode).complete o xs r tt h;
    })
    part.relaxed (within-one SEQUENCE (λ _ c xs. Items (G Der) c xs))
