-- Keys are read exactly.
use Rattle.std.proofs.Common.{refl}
use Rattle.rpki_der.specs.Tags.{SEQUENCE}
use Rattle.rpki_der.specs.Form.Law.{nothing, is, IsPart}
use Rattle.rpki_der.proofs.Form.Fields.{field, fixed, done, within}
use Rattle.rpki_der.proofs.Form.Kinds.{whole-part}
use Rattle.rpki_basics.specs.Algorithm.{rsa_encryption}
use Rattle.rpki_basics.specs.Key.{KeyForm, key_fields_at, key_at}
use Rattle.rpki_basics.proofs.Algorithms.Parts.{named-part}

pub key-part : IsPart (is SEQUENCE) nothing key_at KeyForm
unfolding key_fields_at
key-part = within SEQUENCE (
    fixed (named-part rsa_encryption) (
    field (λ bits. bits) whole-part (λ bits. done bits (tt, refl) (λ z k. k.1)) refl) refl)
