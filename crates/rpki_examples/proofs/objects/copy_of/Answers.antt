use Rattle.std.proofs.Common.{◌≡◌}
use Rattle.rpki_der.specs.declared.encode.EncodeError.TheVariants.{Memory}
use Rattle.rpki_examples.proofs.Answered.{of-either}
use Rattle.rpki_examples.proofs.objects.copy_of.Goals as goal

pub returns-clause-der : goal.returns-clause-der
returns-clause-der c = λ der.
    of-either (λ copy. copy ≡ c.args.object.now.object.octets) (λ e. e ≡ Memory)
    c.to_captured.result c.to_captured.ensures.octets (c.to_captured.ensures.der der)
