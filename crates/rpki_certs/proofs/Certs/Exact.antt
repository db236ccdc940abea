-- Certificates are read exactly: a line for each field.
use Rattle.std.proofs.Common.{ℕ, List, [], ◌∷◌, refl, sym, subst, arith}
use Rattle.rpki_der.specs.declared.mode.Mode.{Mode}
use Rattle.rpki_der.specs.Tags.{SEQUENCE, context}
use Rattle.rpki_der.specs.Grammar.{OctetsInBits}
use Rattle.rpki_der.specs.Form.Law.{nothing, is, IsPart}
use Rattle.rpki_der.specs.Form.Made.{WithOctets}
use Rattle.rpki_der.specs.Form.Parts.{Sequence, sequence_at}
use Rattle.rpki_der.proofs.Form.Fields.{field, fixed, done, within}
use Rattle.rpki_der.proofs.Form.Kinds.{this-part, u160-part, whole-part}
use Rattle.rpki_der.proofs.Form.Words.{part-as, make, keep, in-tag}
use Rattle.rpki_basics.specs.Algorithm.{CertAlgorithmForm}
use Rattle.rpki_basics.proofs.Algorithms.Parts.{cert-part as algorithm-part}
use Rattle.rpki_basics.proofs.Keys.Parts.{key-part}
use Rattle.rpki_basics.proofs.Names.Exact.{name-part}
use Rattle.rpki_basics.proofs.Times.Read.{time-part}
use Rattle.rpki_extensions.proofs.CertExtensions.Exact.{extensions-part}
use Rattle.rpki_certs.specs.Cert.{Contents, ValidityForm, TbsForm, CertForm}
use Rattle.rpki_certs.specs.Cert.{validity_fields_at, validity_at, tbs_fields_at, tbs_at}
use Rattle.rpki_certs.specs.Cert.{contents_at, certificate_of, cert_at}

validity-part : IsPart (is SEQUENCE) nothing validity_at ValidityForm
unfolding validity_fields_at
validity-part = within SEQUENCE (
    field (λ p. p.not_before) time-part (λ from.
    field (λ p. p.not_after) time-part (λ to.
    done (record { not_before = from; not_after = to }) ((tt, refl), refl)
    (λ p k i. record { not_before = k.0.1 i; not_after = k.1 i })) refl) refl)

tbs-part : IsPart (is SEQUENCE) nothing tbs_at TbsForm
unfolding tbs_fields_at
tbs-part = within SEQUENCE (
    fixed (in-tag (context 0) (this-part 2 (omega arith))) (
    field (λ t. t.serial_number) u160-part (λ serial.
    fixed algorithm-part (
    field (λ t. t.issuer) name-part (λ issuer.
    field (λ t. t.validity) validity-part (λ validity.
    field (λ t. t.subject) name-part (λ subject.
    field (λ t. t.key) key-part (λ key.
    field (λ t. t.extensions) (in-tag (context 3) extensions-part) (λ extensions.
    done (record {
      serial_number = serial;
      issuer = issuer;
      validity = validity;
      subject = subject;
      key = key;
      extensions = extensions;
    }) ((((((tt, refl), refl), refl), refl), refl), refl)
    (λ t k i. record {
      serial_number = k.0.0.0.0.0.1 i;
      issuer = k.0.0.0.0.1 i;
      validity = k.0.0.0.1 i;
      subject = k.0.0.1 i;
      key = k.0.1 i;
      extensions = k.1 i;
    })) refl) refl) refl) refl) refl) refl) refl) refl)

-- what stands in a certificate
abbrev pub ContentsForm : Mode → List ℕ → Contents → Type 0
ContentsForm mode octets c = Sequence mode (
    (λ o. WithOctets (TbsForm mode) o c.tbs c.signed)
    ∷ (λ o. CertAlgorithmForm mode o tt)
    ∷ (λ o. OctetsInBits mode o c.signature)
    ∷ []) octets

pub contents-part : IsPart (is SEQUENCE) nothing (sequence_at contents_at) ContentsForm
unfolding contents_at
contents-part = within SEQUENCE (
    field (λ c. (c.tbs, c.signed)) (keep tbs-part) (λ tbs.
    fixed algorithm-part (
    field (λ c. c.signature) whole-part (λ signature.
    done (record { tbs = tbs.0; signed = tbs.1; signature = signature }) ((tt, refl), refl)
    (λ c k i. record { tbs = (k.0.1 i).0; signed = (k.0.1 i).1; signature = k.1 i })) refl) refl)
    refl)

pub cert-part : IsPart (is SEQUENCE) nothing cert_at CertForm
cert-part = part-as (make certificate_of (keep contents-part))
    (λ mode o c h. subst (CertForm mode o) (sym h.2) (h.1.1, h.1.0))
    (λ mode o c h. (
      (record { tbs = c.tbs; signed = c.signed; signature = c.signature }, c.octets),
      (h.1, h.0),
      refl,
    ))
