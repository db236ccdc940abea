-- Revocation lists are read exactly, with the dates of their entries: a line for each field.
use Rattle.std.proofs.Common.{[], refl, arith}
use Rattle.rpki_der.specs.Tags.{SEQUENCE, context}
use Rattle.rpki_der.specs.Form.Law.{nothing, is, IsPart}
use Rattle.rpki_der.specs.Form.Parts.{sequence_at}
use Rattle.rpki_der.proofs.Form.Fields.{field, fixed, skipped, done, within}
use Rattle.rpki_der.proofs.Form.Kinds.{this-part, u160-part, whole-part, rest-part}
use Rattle.rpki_der.proofs.Form.Words.{in-tag, option, default, list-of}
use Rattle.rpki_basics.proofs.Algorithms.Parts.{cert-part as algorithm-part}
use Rattle.rpki_basics.proofs.Names.Exact.{name-part}
use Rattle.rpki_basics.proofs.Times.Read.{time-part}
use Rattle.rpki_crls.proofs.ListExtensions.Exact.{crl-extensions-part}
use Rattle.rpki_show.specs.Dated.{DatedEntryForm, DatedEntriesForm, DatedTbsForm, DatedForm}
use Rattle.rpki_show.specs.Dated.{entry_fields_at, entry_at, entries_at, tbs_fields_at, contents_at}
use Rattle.rpki_show.specs.Dated.{dated_at}

entry-part : IsPart (is SEQUENCE) nothing entry_at DatedEntryForm
unfolding entry_fields_at
entry-part = within SEQUENCE (
    field (λ e. e.serial) u160-part (λ serial.
    field (λ e. e.date) time-part (λ date.
    skipped (option SEQUENCE (in-tag SEQUENCE rest-part)) (
    done (record { serial = serial; date = date }) ((tt, refl), refl)
    (λ e k i. record { serial = k.0.1 i; date = k.1 i })) refl) refl) refl)

entries-part : IsPart (is SEQUENCE) (is SEQUENCE) entries_at DatedEntriesForm
entries-part = default SEQUENCE (list-of SEQUENCE entry-part SEQUENCE) []

tbs-part : IsPart (is SEQUENCE) nothing (sequence_at tbs_fields_at) DatedTbsForm
unfolding tbs_fields_at
tbs-part = within SEQUENCE (
    fixed (this-part 1 (omega arith)) (
    fixed algorithm-part (
    skipped name-part (
    field (λ d. d.this_update) time-part (λ this.
    field (λ d. d.next_update) time-part (λ next.
    field (λ d. d.revoked) entries-part (λ revoked.
    field (λ d. d.extensions) (in-tag (context 0) crl-extensions-part) (λ extensions.
    done (record {
      this_update = this;
      next_update = next;
      revoked = revoked;
      extensions = extensions;
    }) ((((tt, refl), refl), refl), refl)
    (λ d k i. record {
      this_update = k.0.0.0.1 i;
      next_update = k.0.0.1 i;
      revoked = k.0.1 i;
      extensions = k.1 i;
    })) refl) refl) refl) refl) refl) refl) refl)

pub dated-part : IsPart (is SEQUENCE) nothing dated_at DatedForm
unfolding contents_at
dated-part = within SEQUENCE (
    field (λ d. d) tbs-part (λ list.
    fixed algorithm-part (
    skipped whole-part (
    done list (tt, refl) (λ d k. k.1)) refl) refl) refl)
