-- What a content names is read exactly.
use Rattle.std.proofs.Common.{ℕ, List, [], ◌∷◌, refl}
use Rattle.rpki_der.specs.Tags.{SEQUENCE, context}
use Rattle.rpki_der.specs.declared.mode.Mode.{Mode}
use Rattle.rpki_der.specs.Grammar.{Optional, Within}
use Rattle.rpki_der.specs.Read.Parse.{Parser}
use Rattle.rpki_der.specs.Form.Law.{nothing, is, IsPart}
use Rattle.rpki_der.specs.Form.Made.{Made}
use Rattle.rpki_der.specs.Form.Parts.{Explicit, Parts, sequence_at}
use Rattle.rpki_der.proofs.Form.Fields.{field, done, within}
use Rattle.rpki_der.proofs.Form.Words.{in-tag, pass, make, option, default}
use Rattle.rpki_resources.specs.Families.Read.{no_values}
use Rattle.rpki_resources.proofs.Addresses.Exact.{ip-part}
use Rattle.rpki_resources.proofs.Families.ByFamily.{families-part}
use Rattle.rpki_lists.specs.declared.named.Named.{Named}
use Rattle.rpki_lists.specs.Named.{Set, IpAddrBlocksForm, ResourceBlockForm, names_some, sets_of}
use Rattle.rpki_lists.specs.Named.{addresses_at, named_fields_at, sets_at}

pub addresses-part : IsPart (is (context 1)) (is (context 1)) addresses_at IpAddrBlocksForm
addresses-part = default (context 1) (in-tag (context 1) (families-part ip-part)) no_values

module _ (set_at : Parser Set) (form : Mode → List ℕ → Set → Type 0)
    (set-part : IsPart (is SEQUENCE) nothing set_at form) where
  named-part : IsPart (is SEQUENCE) nothing (sequence_at (named_fields_at set_at))
      (λ mode octets n. Within mode SEQUENCE (Parts (
      (λ o. Optional (λ c set. Explicit 0 mode (λ d. form mode d set) c) o n.asns)
      ∷ (λ o. IpAddrBlocksForm mode o n.addresses)
      ∷ [])) octets)
  unfolding named_fields_at
  named-part = within SEQUENCE (
      field (λ (n : Named). n.asns) (option (context 0) (in-tag (context 0) set-part)) (λ asns.
      field (λ (n : Named). n.addresses) addresses-part (λ addresses.
      done (record { asns = asns; addresses = addresses }) ((tt, refl), refl)
      (λ n k i. record { asns = k.0.1 i; addresses = k.1 i })) refl) refl)

  pub resource-block-part : IsPart (is SEQUENCE) nothing (sets_at set_at)
      (λ mode. Made sets_of (ResourceBlockForm form mode))
  resource-block-part = make sets_of (pass names_some named-part (λ n. (λ e. e, λ e. e)))
