use Rattle.std.proofs.Common.{◌≡◌, drop}
use Rattle.std.specs.Prelude.{map}
use Rattle.rpki_der.specs.Form.Keyed.{with_key}
use Rattle.rpki_signed.specs.Walk.{AtHand, at_hand}
use Rattle.rpki_signed.proofs.walk.is_held.Given as goal

abbrev pub invariant-loop-name : goal.invariant-loop-name
invariant-loop-name g l =
    with_key (λ (file : AtHand). file.0) l.entry.file.now
    (map (at_hand g.N.AsOctets.meaning g.O.AsOctets.meaning) (drop l.name-index l.files))
    ≡ with_key (λ (file : AtHand). file.0) l.entry.file.now
    (map (at_hand g.N.AsOctets.meaning g.O.AsOctets.meaning) l.files)
