use Rattle.std.proofs.Common.{List, map, ap, ◌∙◌, codes}
use Rattle.rpki_signed.specs.Walk.{AtHand}
use Rattle.rpki_show.proofs.Grown.{grown}
use Rattle.rpki_command.specs.Held.{held_text}
use Rattle.rpki_command.proofs.Holding.{hand-of}
use Rattle.rpki_command.proofs.walk.push_yes_held.Goals as goal

pub returns : goal.returns
returns g c = grown c.push_held.result c.args.text.now c.write.new.self c.push_held.new.text
    (codes "yes\n") _ _ c.in_ok-write.ensures.bytes c.push_held.ensures
    (ap (λ (hand : List AtHand). held_text (g.K.Crypto.digest_of c.args.crypto.now) hand
    c.args.content.now) (ap (map hand-of) c.deref.ensures.value ∙ c.in_ok-files.ensures))
