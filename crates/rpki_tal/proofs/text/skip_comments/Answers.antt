use Rattle.rpki_tal.proofs.LineFacts.{comment-more, comment-open}
use Rattle.rpki_tal.proofs.text.skip_comments.Goals as goal

pub returns-in-None : goal.returns-in-None
returns-in-None c =
    comment-open c.args.text.now c.comments.rest.now c.comments.invariant c.if-rest-ne35.false
    c.in-None.ensures.line

pub comments-preserved : goal.comments-preserved
comments-preserved c =
    comment-more c.args.text.now c.comments.rest.now _ c.in-Some.more.now c.comments.invariant
    c.if-rest-ne35.false c.in-Some.ensures.line
