use Rattle.std.proofs.Common.{◌≡◌, ◌∷◌, [], ◌++◌, ℕ, List, rules, subst, sym}
use Rattle.std.proofs.lemmas.List.{take_all}
use Rattle.rpki_validation.specs.Grounds.{AreLists}
use Rattle.rpki_validation.specs.Revoked.{IsKeptList}
use Rattle.rpki_validation.proofs.Steps.{zip-more}
use Rattle.rpki_validation.proofs.grounds.lists_of.Goals as goal

pub loop-i-preserved : goal.loop-i-preserved
loop-i-preserved c =
    let l = c.loop-i in
    let items : c.push.new.self.items ≡ l.lists.items ++ c.in-Ok.list ∷ [] = search rules in
    rw items (zip-more IsKeptList c.args.octets.now l.lists.items l.i c.index-octets-i.result
    c.in-Ok.list c.loop-i-test.true l.invariant
    (subst (λ (o : List ℕ). IsKeptList o c.in-Ok.list) c.index-octets-i.is
    (c.in-Ok.ensures.decodes, c.in-Ok.ensures.mode)))

pub returns-in-Err-Malformed : goal.returns-in-Err-Malformed
returns-in-Err-Malformed c = record {
  one = c.index-octets-i.result;
  placed = record { there = c.loop-i-test.true; is = sym c.index-octets-i.is };
  none = rw c.in-Err-Malformed.field-0-is at c.in-Err-Malformed.ensures.decodes;
  before = c.loop-i.lists.items;
  are_lists = c.loop-i.invariant;
}

pub returns-in-Err-Content : goal.returns-in-Err-Content
returns-in-Err-Content c = record {
  one = c.index-octets-i.result;
  placed = record { there = c.loop-i-test.true; is = sym c.index-octets-i.is };
  none = rw c.in-Err-Content.field-0-is at c.in-Err-Content.ensures.decodes;
  before = c.loop-i.lists.items;
  are_lists = c.loop-i.invariant;
}

pub returns : goal.returns
returns c =
    let l = c.loop-i in
    subst (λ (os : List (List ℕ)). AreLists os l.lists.items)
    (take_all l.i c.args.octets.now c.loop-i-test.false) l.invariant
