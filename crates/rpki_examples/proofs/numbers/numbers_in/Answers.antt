use Rattle.std.proofs.Common.{ℕ, List}
use Rattle.rpki_der.specs.declared.mode.Mode.TheVariants.{Der}
use Rattle.rpki_der.proofs.Form.Decoders.{decodes}
use Rattle.rpki_der.proofs.Form.Kinds.{u32-part}
use Rattle.rpki_lists.proofs.Exact.{list-part}
use Rattle.rpki_examples.proofs.numbers.numbers_in.Goals as goal

pub returns : goal.returns
returns c =
    decodes (list-part u32-part) Der c.args.octets (λ (l : List ℕ). l) c.read_front.result
    (rw c.as_slice.ensures at c.slices_hold_octets.ensures.octets) c.read_front.ensures
