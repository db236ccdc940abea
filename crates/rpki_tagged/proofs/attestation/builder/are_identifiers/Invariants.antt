use Rattle.std.proofs.Common.{◌≡◌, All, length, take}
use Rattle.rpki_basics.specs.Identifier.{identifier_length}
use Rattle.rpki_tagged.proofs.attestation.builder.are_identifiers.Given as goal

abbrev pub invariant-loop-key : goal.invariant-loop-key
invariant-loop-key l = All (λ id. length id ≡ identifier_length) (take l.key-index l.keys)
