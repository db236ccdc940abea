-- What a content is written as is in the grammar, and nothing else is.
use Rattle.std.proofs.Common.{◌≡◌, ℕ, ◌*◌, ◌^◌, ◌≤◌, ◌<◌, List, [], ◌∷◌, ◌++◌, length, refl, sym}
use Rattle.std.proofs.Common.{ap}
use Rattle.std.proofs.Common.{subst, ◌∙◌, arith, length-append}
use Rattle.std.specs.Prelude.{All}
use Rattle.std.proofs.lemmas.List.{append-nil}
use Rattle.rpki_der.specs.declared.mode.Mode.TheVariants.{Der}
use Rattle.rpki_der.specs.Grammar.{Within, Integer, IsBytes, Items}
use Rattle.rpki_der.specs.Tags.{SEQUENCE, context}
use Rattle.rpki_der.specs.Form.Parts.{Parts, Explicit, SequenceOf}
use Rattle.rpki_der.specs.Write.Written.{value_octets, number_octets, length_value_octets_le}
use Rattle.rpki_der.proofs.Reading.Exact.{IsBytes-left, IsBytes-right}
use Rattle.rpki_der.proofs.Reading.Scan.{tag-sound}
use Rattle.rpki_der.proofs.Writing.Leaves.{within-written, within-only, items-written, items-unique}
use Rattle.rpki_der.proofs.Writing.Lengths.{value-written}
use Rattle.rpki_der.proofs.Writing.Numbers.{length-number_octets}
use Rattle.rpki_der.proofs.Writing.Values.{number-in, number-written, number-unique}
use Rattle.rpki_resources.specs.As.{IsAsn}
use Rattle.rpki_resources.specs.As.Form.{AsId}
use Rattle.rpki_basics.specs.declared.limits.ProviderLimit.{ProviderLimit}
use Rattle.rpki_basics.specs.declared.limits.ProviderLimit.TheVariants.{Narrow, Wide}
use Rattle.rpki_basics.specs.Limits.{most_providers}
use Rattle.rpki_routes.specs.Aspa.{Aspa, IsAttestation, IsProviderSet}
use Rattle.rpki_routes.specs.Aspa.Form.{AspaForm}
use Rattle.rpki_routes.specs.Aspa.Written.{version_octets, providers_octets, aspa_contents}
use Rattle.rpki_routes.specs.Aspa.Written.{aspa_octets}

-- ---- how many octets there are

-- the widest limit
pub most-wide : (limit : ProviderLimit) → most_providers limit ≤ 16380
most-wide Narrow = omega arith
most-wide Wide = omega arith

pub length-providers_octets : (ps : List ℕ) → length (providers_octets ps) ≤ 11 * length ps
length-providers_octets [] = omega arith
length-providers_octets (p ∷ ps) =
    omega (
      arith,
      length-append (number_octets p) (providers_octets ps),
      length-number_octets p,
      length-providers_octets ps,
    )

length-version : length (version_octets) ≤ 17
length-version = omega
    (arith, length_value_octets_le (context 0) (number_octets 1), length-number_octets 1)

length-contents : (limit : ProviderLimit) (a : Aspa) → IsAttestation limit a
    → length (aspa_contents a) ≤ 180240
length-contents limit a h =
    let rest = number_octets a.customer ++ value_octets SEQUENCE (providers_octets a.providers) in
    omega (
      arith,
      most-wide limit,
      h.providers.most,
      length-append (version_octets) rest,
      length-append (number_octets a.customer)
          (value_octets SEQUENCE (providers_octets a.providers)),
      length-version,
      length-number_octets a.customer,
      length_value_octets_le SEQUENCE (providers_octets a.providers),
      length-providers_octets a.providers,
    )

pub short-octets : (limit : ProviderLimit) (a : Aspa) → IsAttestation limit a
    → length (aspa_octets a) < 2 ^ 32
short-octets limit a h = omega
    (arith, length_value_octets_le SEQUENCE (aspa_contents a), length-contents limit a h)

-- ---- a content is written

version-written : Within Der (context 0) (λ contents. Integer Der contents 1)
    (version_octets)
version-written = within-written (context 0) (λ contents. Integer Der contents 1) (number_octets 1)
    (tag-sound (context 0) refl) (omega (arith, length-number_octets 1))
    (number-written 1 (omega arith))

providers-written : (ps : List ℕ) → length ps ≤ 16380 → All IsAsn ps
    → Within Der SEQUENCE (λ list. Items (AsId Der) list ps)
    (value_octets SEQUENCE (providers_octets ps))
providers-written ps most h =
    within-written SEQUENCE (λ list. Items (AsId Der) list ps) (providers_octets ps)
    (tag-sound SEQUENCE refl)
    (omega (arith, most, length-providers_octets ps))
    (items-written (AsId Der) number_octets ps (λ i d l. number-in Der _ (h i d l)))

pub aspa-written : (limit : ProviderLimit) (a : Aspa) → IsAttestation limit a
    → AspaForm limit (aspa_octets a) a
aspa-written limit a h =
    let customer = number_octets a.customer in
    let providers = value_octets SEQUENCE (providers_octets a.providers) in
    let last : providers ≡ providers ++ [] = sym (append-nil providers) in
    let most : length a.providers ≤ 16380 =
    omega (arith, most-wide limit, h.providers.most) in
    let listed = providers-written a.providers most h.providers.numbers in (
      (
        aspa_contents a,
        value-written SEQUENCE (aspa_contents a) (tag-sound SEQUENCE refl)
            (omega (arith, length-contents limit a h)),
        (
          version_octets,
          customer ++ providers,
          refl,
          version-written,
          (
            customer,
            providers,
            refl,
            number-in Der a.customer h.number,
            (providers, [], last, listed, refl),
          ),
        ),
      ),
      h,
    )

-- ---- nothing else is in the grammar

asn-only : (o : List ℕ) (n : ℕ) → IsBytes o → AsId Der o n → o ≡ number_octets n
asn-only o n bytes h = number-unique o n bytes h.2.1 (h.0, h.1, h.2.0)

version-only : (o : List ℕ) → IsBytes o
    → Within Der (context 0) (λ contents. Integer Der contents 1) o
    → o ≡ version_octets
version-only o bytes h =
    within-only (context 0) (λ contents. Integer Der contents 1) o (number_octets 1) bytes
    (λ contents inner is. number-unique contents 1 inner (omega arith) is) h

providers-only : (o ps : List ℕ) → IsBytes o
    → Within Der SEQUENCE (λ list. Items (AsId Der) list ps) o
    → o ≡ value_octets SEQUENCE (providers_octets ps)
providers-only o ps bytes h =
    within-only SEQUENCE (λ list. Items (AsId Der) list ps) o (providers_octets ps) bytes
    (λ list. items-unique (AsId Der) number_octets asn-only list ps) h

abbrev Fields : List ℕ → Aspa → Type 0
Fields octets a = Parts (
    (λ o. Explicit 0 Der (λ c. Integer Der c 1) o)
    ∷ (λ o. AsId Der o a.customer)
    ∷ (λ o. SequenceOf Der (AsId Der) o a.providers)
    ∷ []) octets

fields-only : (a : Aspa) (c : List ℕ) → IsBytes c → Fields c a → c ≡ aspa_contents a
fields-only a c bytes h =
    let k = h.4 in
    let l = k.4 in
    let all : IsBytes (h.0 ++ h.1) = subst IsBytes h.2 bytes in
    let later : IsBytes (k.0 ++ k.1) = subst IsBytes k.2 (IsBytes-right h.0 h.1 all) in
    let last : IsBytes (l.0 ++ l.1) = subst IsBytes l.2 (IsBytes-right k.0 k.1 later) in
    let version = version-only h.0 (IsBytes-left h.0 h.1 all) h.3 in
    let customer = asn-only k.0 a.customer (IsBytes-left k.0 k.1 later) k.3 in
    let providers = providers-only l.0 a.providers (IsBytes-left l.0 l.1 last) l.3 in
    let end : k.1 ≡ l.0 = l.2 ∙ ap (λ (x : List ℕ). l.0 ++ x) l.4 ∙ append-nil l.0 in
    let two : h.1 ≡ number_octets a.customer
    ++ value_octets SEQUENCE (providers_octets a.providers) =
    k.2 ∙ ap (λ (x : List ℕ). x ++ k.1) customer
    ∙ ap (λ (x : List ℕ). number_octets a.customer ++ x) (end ∙ providers) in
    h.2 ∙ ap (λ (x : List ℕ). x ++ h.1) version ∙ ap (λ (x : List ℕ). version_octets ++ x) two

pub aspa-only : (limit : ProviderLimit) (o : List ℕ) (a : Aspa) → IsBytes o → AspaForm limit o a
    → o ≡ aspa_octets a
aspa-only limit o a bytes h =
    within-only SEQUENCE (λ c. Fields c a) o (aspa_contents a) bytes (fields-only a) h.0

-- a set of providers is one of the widest limit
pub set-wide : (limit : ProviderLimit) (ps : List ℕ) → IsProviderSet limit ps
    → IsProviderSet Wide ps
set-wide limit ps h = record {
  some = h.some;
  most = omega (arith, most-wide limit, h.most);
  ascending = h.ascending;
  alone = h.alone;
  numbers = h.numbers;
}

pub attestation-wide : (limit : ProviderLimit) (a : Aspa) → IsAttestation limit a
    → IsAttestation Wide a
attestation-wide limit a h = record {
  not_zero = h.not_zero;
  number = h.number;
  providers = set-wide limit a.providers h.providers;
  others = h.others;
}

pub attestation-narrow : (a : Aspa) → IsAttestation Wide a
    → length a.providers ≤ most_providers Narrow → IsAttestation Narrow a
attestation-narrow a h few = record {
  not_zero = h.not_zero;
  number = h.number;
  providers = record {
    some = h.providers.some;
    most = few;
    ascending = h.providers.ascending;
    alone = h.providers.alone;
    numbers = h.providers.numbers;
  };
  others = h.others;
}
