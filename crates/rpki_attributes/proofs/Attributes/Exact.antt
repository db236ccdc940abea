-- A signed attribute is read exactly: a line for each field.
use Rattle.std.proofs.Common.{◌≡◌, ℕ, Bool, true, false, cond, List, []}
use Rattle.std.proofs.Common.{refl, sym, ◌∙◌, inl, inr}
use Rattle.std.specs.Prelude.{Decides, ◌⊎◌}
use Rattle.std.proofs.lemmas.Bool.Decides.{Decides-or}
use Rattle.std.proofs.lemmas.Slice.Eq.{bytes_eq-Decides}
use Rattle.rpki_der.specs.Numbers.{MAX_DEPTH}
use Rattle.rpki_der.specs.declared.mode.Mode.{Mode}
use Rattle.rpki_der.specs.Grammar.{ListOf, Skipped}
use Rattle.rpki_der.specs.Form.Law.{TagSet, every, nothing, is, IsPart}
use Rattle.rpki_der.specs.Read.Parse.{Parser, optional}
use Rattle.rpki_der.specs.Tags.{SEQUENCE, SET}
use Rattle.rpki_der.proofs.Form.Fields.{field, field-on, done, within}
use Rattle.rpki_der.proofs.Form.Kinds.{oid-part, contents-part, rest-part}
use Rattle.rpki_der.proofs.Form.Words.{part-as, make}
use Rattle.rpki_der.proofs.Reading.Many.{Shortens, in_value-shorter, optional-some}
use Rattle.rpki_attributes.specs.declared.attribute.OtherTypes.{OtherTypes}
use Rattle.rpki_attributes.specs.declared.attribute.OtherTypes.TheVariants.{Refuse, Skip}
use Rattle.rpki_attributes.specs.Attribute.{id_content_type, id_message_digest, id_signing_time}
use Rattle.rpki_attributes.specs.Attribute.{IsKnown, HasValues, AttributeForm}
use Rattle.rpki_attributes.specs.Attribute.Read.{is_known, others_at, values_at}
use Rattle.rpki_attributes.specs.Attribute.Read.{attribute_fields_at, attribute_at}

-- ---- what follows the type

-- what reads alike reads the same part
read-as : {X : Type 0} {first apart : TagSet} {p q : Parser X} {G : Mode → List ℕ → X → Type 0}
    → IsPart first apart p G → ((mode : Mode) (b : List ℕ) → q mode b ≡ p mode b)
    → IsPart first apart q G
read-as e same = record {
  exact = λ mode. record {
    sound = λ b x r bytes h. (e.exact mode).sound b x r bytes (sym (same mode b) ∙ h);
    complete = λ o x r er h. same mode _ ∙ (e.exact mode).complete o x r er h;
  };
  starts = e.starts;
  relaxed = e.relaxed;
}

skips : IsPart every every (others_at Skip)
    (λ mode o v. ListOf (Skipped mode MAX_DEPTH) o × (v ≡ []))
unfolding others_at
skips =
    read-as
    (part-as (make (λ _. (let none : List ℕ = [] in none)) rest-part)
    (λ mode o v h. (h.1, h.2)) (λ mode o v h. (tt, h.0, h.1)))
    (λ mode b. refl)

others-part : (others : OtherTypes)
    → IsPart every every (others_at others)
    (λ mode o v. (others ≡ Skip) × ListOf (Skipped mode MAX_DEPTH) o × (v ≡ []))
unfolding others_at
others-part Skip = part-as skips (λ mode o v h. (refl, h.0, h.1)) (λ mode o v h. (h.1, h.2))
others-part Refuse = record {
  exact = λ mode. record {
    sound = λ b x r bytes h. absurd cc;
    complete = λ o x r er h. absurd (never h.0);
  };
  starts = λ mode o x h. absurd (never h.0);
  relaxed = λ o x h. absurd (never h.0);
}
  where
    never : Refuse ≡ Skip → ⊥
    never e = cc

-- what may stand where only the end follows
wide : {X : Type 0} {first : TagSet} {p : Parser X} {G : Mode → List ℕ → X → Type 0}
    → IsPart first nothing p G → IsPart every every p G
wide e = record {
  exact = λ mode. record {
    sound = (e.exact mode).sound;
    complete = λ o x r er h. (e.exact mode).complete o x r tt h;
  };
  starts = λ mode o x h. let s = e.starts mode o x h in inr (s.0, s.1, s.2, refl);
  relaxed = e.relaxed;
}

-- one of two parts, by a test that was made before
by-test : {X P : Type 0} {first apart : TagSet} {p q : Parser X} {G H : Mode → List ℕ → X → Type 0}
    (t : Bool) → Decides t P → IsPart first apart p G → IsPart first apart q H
    → IsPart first apart (λ mode b. cond t (p mode b) (q mode b))
    (λ mode o x. (P × G mode o x) ⊎ ((P → ⊥) × H mode o x))
by-test {P = P} true d e f =
    let yes : P = d.0 refl in
    part-as e (λ mode o x h. inl (yes, h))
    (λ mode o x h. elim h [ inl k ↦ k.1 | inr k ↦ absurd (k.0 yes) ])
by-test {P = P} false d e f =
    let no : P → ⊥ = λ p. let both : false ≡ true = d.1 p in cc in
    part-as f (λ mode o x h. inr (no, h))
    (λ mode o x h. elim h [ inl k ↦ absurd (no k.0) | inr k ↦ k.1 ])

known-decides : (oid : List ℕ) → Decides (is_known oid) (IsKnown oid)
known-decides oid =
    Decides-or _ _ (bytes_eq-Decides oid id_content_type)
    (Decides-or _ _ (bytes_eq-Decides oid id_message_digest) (bytes_eq-Decides oid id_signing_time))

values-part : (others : OtherTypes) (oid : List ℕ)
    → IsPart every every (values_at others oid) (λ mode o v. HasValues others mode oid o v)
unfolding values_at
values-part others oid =
    read-as
    (part-as
    (by-test (is_known oid) (known-decides oid) (wide (contents-part SET)) (others-part others))
    (λ mode o v h. elim h [ inl k ↦ inl k | inr k ↦ inr (k.0, k.1.0, k.1.1, k.1.2) ])
    (λ mode o v h. elim h [ inl k ↦ inl k | inr k ↦ inr (k.0, (k.1, k.2, k.3)) ]))
    (λ mode b. refl)

-- ---- the attribute

pub attribute-part : (others : OtherTypes)
    → IsPart (is SEQUENCE) nothing (attribute_at others) (AttributeForm others)
unfolding attribute_fields_at
attribute-part others = within SEQUENCE (
    field (λ a. a.oid) oid-part (λ oid.
    field-on (λ type mode o v. HasValues others mode type o v) (λ a. a.oid) (λ a. a.values)
    (values-part others oid) (λ a k. k.1) (λ values.
    done (record { oid = oid; values = values }) ((tt, refl), refl)
    (λ a k i. record { oid = k.0.1 i; values = k.1 i })) refl) refl)

pub attribute-shortens : (others : OtherTypes) (mode : Mode)
    → Shortens (optional SEQUENCE (attribute_at others) mode)
attribute-shortens others mode = record {
  at = λ b x r h. in_value-shorter SEQUENCE (attribute_fields_at others) mode b x r
      (optional-some SEQUENCE (attribute_at others) mode b x r h);
}
