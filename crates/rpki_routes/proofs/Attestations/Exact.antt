-- ASPA contents are read exactly: a line for each field.
use Rattle.std.proofs.Common.{◌≡◌, ℕ, true, List, [], ◌∷◌, refl, sym, subst, ◌∙◌}
use Rattle.std.proofs.Common.{arith}
use Rattle.std.specs.Prelude.{not, ◌==◌, All}
use Rattle.std.proofs.lemmas.Bool.{eqb-true, eqb-false, not-true}
use Rattle.rpki_der.specs.declared.mode.Mode.{Mode}
use Rattle.rpki_der.specs.declared.mode.Mode.TheVariants.{Der}
use Rattle.rpki_der.specs.Tags.{INTEGER, SEQUENCE, context}
use Rattle.rpki_der.specs.Grammar.{Integer}
use Rattle.rpki_der.specs.Read.Parse.{in_value, primitive, this}
use Rattle.rpki_der.specs.Form.Law.{nothing, is, or, IsPart, AreParts}
use Rattle.rpki_der.specs.Form.Parts.{Sequence, SequenceOf, Explicit, sequence_at}
use Rattle.rpki_der.proofs.Form.Fields.{fixed, field-if, guard, done, within-if}
use Rattle.rpki_der.proofs.Form.Kinds.{u32-part, this-part}
use Rattle.rpki_der.proofs.Form.Words.{in-tag, pass, items-all, also, part-as}
use Rattle.rpki_lists.proofs.Exact.{list-part}
use Rattle.rpki_basics.specs.declared.limits.ProviderLimit.{ProviderLimit}
use Rattle.rpki_resources.specs.As.{IsAsn}
use Rattle.rpki_resources.specs.As.Form.{AsId}
use Rattle.rpki_routes.specs.Aspa.{Aspa, IsAttestation, AreProviders}
use Rattle.rpki_routes.specs.Aspa.Read.{in_order_at, providers_at, fields_at, has_one}
use Rattle.rpki_routes.specs.Aspa.Read.{after_provider, at_first}
use Rattle.rpki_lists.specs.Rules.{admits}
use Rattle.rpki_routes.proofs.Attestations.Providers.{in-order, some-one, not-is}

abbrev aspa : ℕ → List ℕ → Aspa
aspa customer providers = record { customer = customer; providers = providers }

aspa-same : (c d : ℕ) (ps qs : List ℕ) → c ≡ d → ps ≡ qs → aspa c ps ≡ aspa d qs
aspa-same c d ps qs e f = cc

-- ---- the parts

version : IsPart (is (context 0)) nothing (in_value (context 0) (primitive INTEGER (this 1)))
    (λ mode o _. Explicit 0 mode (λ c. Integer mode c 1) o)
version = in-tag (context 0) (this-part 1 (omega arith))

numbers : (mode : Mode) (o ps : List ℕ) → SequenceOf mode (AsId Der) o ps → All IsAsn ps
numbers mode o ps h = items-all (AsId Der) IsAsn (λ o n g. g.2.1) h.0 ps h.2

pub providers-part : (limit : ProviderLimit) (customer : ℕ)
    → IsPart (is SEQUENCE) nothing (providers_at limit customer)
    (λ mode o ps. SequenceOf mode (AsId Der) o ps × AreProviders limit customer ps)
unfolding in_order_at
providers-part limit customer =
    part-as
    (pass has_one
    (pass (admits after_provider (at_first limit customer)) (list-part u32-part)
    (in-order limit customer)) some-one)
    (λ mode o ps h. (
      h.0.0,
      record {
        set = record {
          some = h.1;
          most = h.0.1.most;
          ascending = h.0.1.ascending;
          alone = h.0.1.alone;
          numbers = numbers mode o ps h.0.0;
        };
        others = h.0.1.others;
      },
    ))
    (λ mode o ps h. (
      (
        h.0,
        record {
          most = h.1.set.most;
          ascending = h.1.set.ascending;
          others = h.1.others;
          alone = h.1.set.alone;
        },
      ),
      h.1.set.some,
    ))

-- ---- the record

tells : (limit : ProviderLimit) (a : Aspa) → IsAttestation limit a
    → AreProviders limit a.customer a.providers
tells limit a h = record { set = h.providers; others = h.others }

attested : (limit : ProviderLimit) (c : ℕ) (ps : List ℕ) → IsAsn c → not (c == 0) ≡ true
    → AreProviders limit c ps → IsAttestation limit (aspa c ps)
attested limit c ps number not-zero t = record {
  not_zero = λ z. eqb-false _ _ (not-true _ not-zero) z;
  number = number;
  providers = t.set;
  others = t.others;
}

fields : (limit : ProviderLimit)
    → AreParts (or (is (context 0)) (or (is INTEGER) (or (is SEQUENCE) nothing))) (fields_at limit)
    (λ mode a. (λ o. Explicit 0 mode (λ c. Integer mode c 1) o) ∷ (λ o. AsId mode o a.customer)
    ∷ (λ o. SequenceOf mode (AsId Der) o a.providers) ∷ []) (IsAttestation limit)
unfolding fields_at
fields limit =
    fixed version
    (field-if (λ a. a.customer) (also u32-part (λ mode o c g. g.2.1)) (λ a k. k.number)
    (λ c number. guard (not (c == 0))
    (λ a k. not-is _ (λ e. k.0.not_zero (sym k.1 ∙ eqb-true _ _ e)))
    (λ not-zero. field-if (λ a. a.providers) (providers-part limit c)
    (λ a k. subst (λ (n : ℕ). AreProviders limit n a.providers) (sym k.1) (tells limit a k.0))
    (λ ps t. done (aspa c ps) ((attested limit c ps number not-zero t, refl), refl)
    (λ a k. aspa-same _ _ _ _ k.0.1 k.1))
    refl)) refl) refl

-- the content, whose providers are in DER whatever the mode
pub aspa-part : (limit : ProviderLimit)
    → IsPart (is SEQUENCE) nothing (sequence_at (fields_at limit))
    (λ mode octets a. Sequence mode ((λ o. Explicit 0 mode (λ c. Integer mode c 1) o)
    ∷ (λ o. AsId mode o a.customer) ∷ (λ o. SequenceOf mode (AsId Der) o a.providers) ∷ [])
    octets × IsAttestation limit a)
aspa-part limit = within-if SEQUENCE (fields limit)
