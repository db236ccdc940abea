use Rattle.std.proofs.Common.{subst}
use Rattle.rpki_der.specs.Grammar.{IsBytes}
use Rattle.rpki_der.proofs.Reading.Calls.{reads-ok}
use Rattle.rpki_der.proofs.Reading.Exact.{IsBytes-left}
use Rattle.rpki_lists.specs.Named.{Sets, sets_at}
use Rattle.rpki_lists.proofs.Names.Facts.{resource-block-facts}
use Rattle.rpki_files.specs.Checklist.{NumbersForm, numbers_at}
use Rattle.rpki_files.proofs.Checklists.Exact.{sets-part}
use Rattle.rpki_files.proofs.checklist.read.take_fields.Goals as goal

pub invariant_of-result : goal.invariant_of-result
invariant_of-result c =
    let old = c.take_opt_constructed_if.new.self in
    let new = c.take_sets.new.cons in
    let sets : Sets = (
      c.in_ok-as_resources.as_resources,
      (c.in_ok-as_resources.v4_resources, c.in_ok-as_resources.v6_resources),
    ) in
    let r = reads-ok (λ (s : Sets). s) (sets_at numbers_at) old sets new
    c.in_ok-as_resources.ensures in
    let f =
    (sets-part.exact old.mode).sound old.rest sets new.rest c.holds_octets.ensures r.found in
    let octets : IsBytes f.0 =
    IsBytes-left f.0 new.rest (subst IsBytes f.1 c.holds_octets.ensures) in
    resource-block-facts NumbersForm old.mode f.0 sets octets f.2
