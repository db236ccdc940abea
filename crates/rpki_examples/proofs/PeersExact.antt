-- Lists of peers are read exactly: a line for each field.
use Rattle.std.proofs.Common.{refl}
use Rattle.rpki_der.specs.Tags.{SEQUENCE, INTEGER, IA5_STRING}
use Rattle.rpki_der.specs.Form.Law.{nothing, is, IsPart}
use Rattle.rpki_der.specs.Form.Parts.{sequence_at}
use Rattle.rpki_der.proofs.Form.Fields.{field, done, within}
use Rattle.rpki_der.proofs.Form.Words.{list-of, option}
use Rattle.rpki_der.proofs.Form.Kinds.{u32-part, ia5-part}
use Rattle.rpki_examples.specs.Peers.{PeersForm, fields_at}

pub peers-part : IsPart (is SEQUENCE) nothing (sequence_at fields_at) PeersForm
unfolding fields_at
peers-part = within SEQUENCE (
    field (λ p. p.local) u32-part (λ local.
    field (λ p. p.note) (option IA5_STRING ia5-part) (λ note.
    field (λ p. p.peers) (list-of INTEGER u32-part SEQUENCE) (λ peers.
    done (record { local = local; note = note; peers = peers }) (((tt, refl), refl), refl)
    (λ p k i. record { local = k.0.0.1 i; note = k.0.1 i; peers = k.1 i })) refl) refl) refl)
