-- Multi-signed objects are read exactly: a line for each field.
use Rattle.std.proofs.Common.{ℕ, List, [], refl, arith}
use Rattle.rpki_der.specs.Form.Law.{nothing, is, IsPart}
use Rattle.rpki_der.specs.Numbers.{MAX_DEPTH}
use Rattle.rpki_der.specs.Tags.{SEQUENCE, SET, context}
use Rattle.rpki_der.proofs.Form.Fields.{field, fixed, done, within}
use Rattle.rpki_der.proofs.Form.Kinds.{this-part, these-part, octets-part}
use Rattle.rpki_der.proofs.Form.Words.{in-tag, default, list-of}
use Rattle.rpki_basics.proofs.Algorithms.Parts.{digest-part}
use Rattle.rpki_certs.proofs.Certs.Exact.{cert-part}
use Rattle.rpki_crls.proofs.Crls.Exact.{crl-part}
use Rattle.rpki_sigobj.specs.Object.{id_signed_data, ContentForm}
use Rattle.rpki_sigobj.proofs.Objects.Exact.{signer-info-part}
use Rattle.rpki_multi.specs.Signer.{id_rta}
use Rattle.rpki_multi.specs.Multi.{MultiSigned, CrlsForm, MultiDataForm, MultiForm}
use Rattle.rpki_multi.specs.Multi.{content_fields_at, content_at, crls_at, data_fields_at, data_at}
use Rattle.rpki_multi.specs.Multi.{info_fields_at, multi_at}

content-part : IsPart (is SEQUENCE) nothing content_at (λ mode o c. ContentForm mode o (id_rta, c))
unfolding content_fields_at
content-part = within SEQUENCE (
    fixed (these-part id_rta (omega arith, omega arith)) (
    field (λ (c : List ℕ). c) (in-tag (context 0) (octets-part MAX_DEPTH)) (λ content.
    done content (tt, refl) (λ c k. k.1)) refl) refl)

crls-part : IsPart (is (context 1)) (is (context 1)) crls_at CrlsForm
crls-part = default (context 1) (list-of SEQUENCE crl-part (context 1)) []

data-part : IsPart (is SEQUENCE) nothing data_at MultiDataForm
unfolding data_fields_at
data-part = within SEQUENCE (
    fixed (this-part 3 (omega arith)) (
    fixed (in-tag SET digest-part) (
    field (λ (m : MultiSigned). m.content) content-part (λ content.
    field (λ (m : MultiSigned). m.certs) (list-of SEQUENCE cert-part (context 0)) (λ certs.
    field (λ (m : MultiSigned). m.crls) crls-part (λ crls.
    field (λ (m : MultiSigned). m.signers) (list-of SEQUENCE (signer-info-part id_rta) SET)
    (λ signers.
    done (record { content = content; certs = certs; crls = crls; signers = signers })
    ((((tt, refl), refl), refl), refl)
    (λ m k i. record {
      content = k.0.0.0.1 i;
      certs = k.0.0.1 i;
      crls = k.0.1 i;
      signers = k.1 i;
    })) refl) refl) refl) refl) refl) refl)

pub multi-part : IsPart (is SEQUENCE) nothing multi_at MultiForm
unfolding info_fields_at
multi-part = within SEQUENCE (
    fixed (these-part id_signed_data (omega arith, omega arith)) (
    field (λ (m : MultiSigned). m) (in-tag (context 0) data-part) (λ signed.
    done signed (tt, refl) (λ m k. k.1)) refl) refl)
