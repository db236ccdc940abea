use Rattle.std.proofs.Common.{◌≡◌, ◌++◌, ◌∷◌, ◌+◌, ◌-◌, [], true, false, take, drop, arith, ap, sym, ◌∙◌}
use Rattle.rpki_payloads.specs.Formats.Groups.{ends}
use Rattle.std.proofs.Common.{Vec, Global}
use Rattle.rpki_payloads.specs.declared.formats.groups.AspaGroup.{AspaGroup}
use Rattle.rpki_payloads.proofs.Rowed.{group_found, group_goes_on, rows_from}
use Rattle.rpki_payloads.proofs.formats.groups.groups_of.Goals as goal
use Rattle.rpki_payloads.proofs.formats.groups.groups_of.Goals.{then-ends+in_ok-push, else-ends}

pub loop-i-preserved : goal.loop-i-preserved
loop-i-preserved c =
    let rows = c.args.rows.now in
    let i = c.loop-i.i in
    let start = c.loop-i.start in
    let found = c.loop-i.found.items in
    let all = rows_from rows i in
    elim c.if-ends.branch [
      | then-ends+in_ok-push w ↦
          let end : ends (drop i rows) ≡ true = sym (ap ends all) ∙ sym c.ends.ensures ∙ w.if-ends.true in
          let items : c.if-ends.found.items ≡ found ++ take (i + 1 - start) (drop start rows) ∷ [] =
          ap (λ (f : Vec AspaGroup Global). f.items) w.found-is ∙ w.in_ok-push.ensures.items in
          let next : c.if-ends.start ≡ i + 1 = w.start-is in
          record {
            begun = omega arith;
            cut = rw next (group_found rows start i found _ _ c.loop-i.invariant.begun
                c.loop-i-test.true end c.loop-i.invariant.cut items);
          }
      | else-ends w ↦
          let end : ends (drop i rows) ≡ false = sym (ap ends all) ∙ sym c.ends.ensures ∙ w.if-ends.false in
          let items : c.if-ends.found.items ≡ found = ap (λ (f : Vec AspaGroup Global). f.items) w.found-is in
          let next : c.if-ends.start ≡ start = w.start-is in
          record {
            begun = omega arith;
            cut = rw next (group_goes_on rows start i found _ _ c.loop-i.invariant.begun
                c.loop-i-test.true end c.loop-i.invariant.cut items);
          }
    ]
