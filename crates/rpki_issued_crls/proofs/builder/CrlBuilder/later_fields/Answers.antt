use Rattle.std.proofs.Common.{ap, ◌∙◌}
use Rattle.rpki_basics.specs.Time.Form.{time_octets}
use Rattle.rpki_issued_crls.specs.Lists.{UnsignedList}
use Rattle.rpki_issued_crls.proofs.builder.CrlBuilder.later_fields.Goals as goal

pub returns-clause-this_update : goal.returns-clause-this_update
returns-clause-this_update c =
    c.encode_ref.ensures.octets
    ∙ ap (λ (u : UnsignedList). time_octets u.this_update) c.self.view_is

pub returns-clause-next_update : goal.returns-clause-next_update
returns-clause-next_update c =
    c.encode_ref-2.ensures.octets
    ∙ ap (λ (u : UnsignedList). time_octets u.next_update) c.self.view_is
