use Rattle.std.proofs.Common.{Vec, Global}
use Rattle.std.proofs.lemmas.Result.{err_from_is_err_and}
use Rattle.rpki_der.specs.Read.Parse.{optional}
use Rattle.rpki_der.specs.Tags.{SEQUENCE}
use Rattle.rpki_der.proofs.Reading.Calls.{reads_shorter}
use Rattle.rpki_der.proofs.Reading.Loops.{so_far-more, so_far-end, so_far-err}
use Rattle.rpki_attributes.specs.Attribute.{Attribute}
use Rattle.rpki_attributes.specs.Attribute.Read.{attribute_at}
use Rattle.rpki_attributes.proofs.Attributes.Exact.{attribute-shortens}
use Rattle.rpki_attributes.proofs.list.take_list.Goals as goal

pub returns-in_err-attribute : goal.returns-in_err-attribute
returns-in_err-attribute c =
    let p = err_from_is_err_and c.from_residual.result c.from_residual.ensures.1 in
    rw (p.1, p.2)
    (so_far-err (optional SEQUENCE (attribute_at c.args.others)) (λ a. a)
    (λ (v : Vec Attribute Global). v.items) _ _ _ _ c.take_opt_attribute.new.cons
    c.loop-list.invariant c.in_err-attribute.ensures)

pub loop-list-preserved : goal.loop-list-preserved
loop-list-preserved c =
    rw c.in_ok-push.ensures.items
    (so_far-more (optional SEQUENCE (attribute_at c.args.others))
    (attribute-shortens c.args.others) (λ a. a) _ _ _ _ _ _ c.loop-list.invariant
    c.in_ok-attribute.ensures c.in-Some.is)

pub loop-list-smaller : goal.loop-list-smaller
loop-list-smaller c =
    reads_shorter (optional SEQUENCE (attribute_at c.args.others))
    (attribute-shortens c.args.others) (λ a. a) _ _ _ _ c.in_ok-attribute.ensures c.in-Some.is

pub returns : goal.returns
returns c =
    so_far-end (optional SEQUENCE (attribute_at c.args.others)) (λ a. a)
    (λ (v : Vec Attribute Global). v.items) _ _ _ c.loop-list.list _ c.loop-list.invariant
    c.in_ok-attribute.ensures c.in_default.is
