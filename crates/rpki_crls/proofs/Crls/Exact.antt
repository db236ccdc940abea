-- Revocation lists are read exactly: a line for each field.
use Rattle.std.proofs.Common.{ℕ, List, [], ◌∷◌, refl, sym, subst, arith}
use Rattle.rpki_der.specs.declared.mode.Mode.{Mode}
use Rattle.rpki_der.specs.Tags.{SEQUENCE, context}
use Rattle.rpki_der.specs.Grammar.{OctetsInBits}
use Rattle.rpki_der.specs.Form.Law.{nothing, is, IsPart}
use Rattle.rpki_der.specs.Form.Made.{WithOctets}
use Rattle.rpki_der.specs.Form.Parts.{Sequence, sequence_at}
use Rattle.rpki_der.proofs.Form.Fields.{field, fixed, skipped, done, within}
use Rattle.rpki_der.proofs.Form.Kinds.{this-part, u160-part, whole-part, rest-part}
use Rattle.rpki_der.proofs.Form.Words.{part-as, make, keep, in-tag, option, default, list-of}
use Rattle.rpki_basics.specs.Algorithm.{CertAlgorithmForm}
use Rattle.rpki_basics.proofs.Algorithms.Parts.{cert-part as algorithm-part}
use Rattle.rpki_basics.proofs.Names.Exact.{name-part}
use Rattle.rpki_basics.proofs.Times.Read.{time-part}
use Rattle.rpki_crls.specs.Crl.{Contents, TbsForm, CrlForm, tbs_fields_at, tbs_at, contents_at}
use Rattle.rpki_crls.specs.Crl.{list_of, crl_at}
use Rattle.rpki_crls.specs.Entry.{
  CrlEntryForm,
  RevokedForm,
  crl_entry_fields_at,
  crl_entry_at,
  revoked_at,
}
use Rattle.rpki_crls.proofs.ListExtensions.Exact.{crl-extensions-part}

entry-part : IsPart (is SEQUENCE) nothing crl_entry_at CrlEntryForm
unfolding crl_entry_fields_at
entry-part = within SEQUENCE (
    field (λ serial. serial) u160-part (λ serial.
    skipped time-part (
    skipped (option SEQUENCE (in-tag SEQUENCE rest-part)) (
    done serial (tt, refl) (λ z k. k.1)) refl) refl) refl)

revoked-part : IsPart (is SEQUENCE) (is SEQUENCE) revoked_at RevokedForm
revoked-part = default SEQUENCE (list-of SEQUENCE entry-part SEQUENCE) []

tbs-part : IsPart (is SEQUENCE) nothing tbs_at TbsForm
unfolding tbs_fields_at
tbs-part = within SEQUENCE (
    fixed (this-part 1 (omega arith)) (
    fixed algorithm-part (
    field (λ t. t.issuer) name-part (λ issuer.
    field (λ t. t.this_update) time-part (λ this.
    field (λ t. t.next_update) time-part (λ next.
    field (λ t. t.revoked) revoked-part (λ revoked.
    field (λ t. t.extensions) (in-tag (context 0) crl-extensions-part) (λ extensions.
    done (record {
      issuer = issuer;
      this_update = this;
      next_update = next;
      revoked = revoked;
      extensions = extensions;
    }) (((((tt, refl), refl), refl), refl), refl)
    (λ t k i. record {
      issuer = k.0.0.0.0.1 i;
      this_update = k.0.0.0.1 i;
      next_update = k.0.0.1 i;
      revoked = k.0.1 i;
      extensions = k.1 i;
    })) refl) refl) refl) refl) refl) refl) refl)

-- what stands in a revocation list
abbrev pub ContentsForm : Mode → List ℕ → Contents → Type 0
ContentsForm mode octets c = Sequence mode (
    (λ o. WithOctets (TbsForm mode) o c.tbs c.signed)
    ∷ (λ o. CertAlgorithmForm mode o tt)
    ∷ (λ o. OctetsInBits mode o c.signature)
    ∷ []) octets

pub contents-part : IsPart (is SEQUENCE) nothing (sequence_at contents_at) ContentsForm
unfolding contents_at
contents-part = within SEQUENCE (
    field (λ c. (c.tbs, c.signed)) (keep tbs-part) (λ tbs.
    fixed algorithm-part (
    field (λ c. c.signature) whole-part (λ signature.
    done (record { tbs = tbs.0; signed = tbs.1; signature = signature }) ((tt, refl), refl)
    (λ c k i. record { tbs = (k.0.1 i).0; signed = (k.0.1 i).1; signature = k.1 i })) refl) refl)
    refl)

pub crl-part : IsPart (is SEQUENCE) nothing crl_at CrlForm
crl-part = part-as (make list_of (keep contents-part))
    (λ mode o c h. subst (CrlForm mode o) (sym h.2) (h.1.1, h.1.0))
    (λ mode o c h. (
      (record { tbs = c.tbs; signed = c.signed; signature = c.signature }, c.octets),
      (h.1, h.0),
      refl,
    ))
