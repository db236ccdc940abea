use Rattle.std.proofs.Common.{refl, ◌∙◌}
use Rattle.rpki_verdicts.specs.Listing.{good_lines}
use Rattle.rpki_verdicts.specs.Questions.{check_questions}
use Rattle.rpki_examples.proofs.Asked.{good-lines, good-read, good-answered}
use Rattle.rpki_examples.proofs.questions.is_listed_good.Goals as goal

pub unreachable-requires : goal.unreachable-requires
unreachable-requires g c =
    let verdict = g.C.Crypto.is_signed c.args.crypto.now in
    let made = c.in_ok-text.ensures in
    let asked = check_questions made.first made.others made.signed.signed in
    c.in-None.ensures (good_lines verdict asked)
    (good-lines verdict asked c.as_bytes.result.now (c.as_bytes.ensures.value ∙ made.whole)
    (c.lists_are_verdicts.ensures.lines verdict asked))

pub returns : goal.returns
returns g c =
    let verdict = g.C.Crypto.is_signed c.args.crypto.now in
    let made = c.in_ok-text.ensures in
    let asked = check_questions made.first made.others made.signed.signed in
    let law = c.lists_are_verdicts.ensures in
    let read = good-read verdict asked c.as_bytes.result.now c.in-Some.verdicts
    (c.as_bytes.ensures.value ∙ made.whole) (law.lines verdict asked) c.in-Some.ensures in (
      asked,
      record {
        first = made.first;
        others = made.others;
        signed = made.signed;
        certs = made.certs;
        front = made.front;
        whole = refl;
      },
      good-answered verdict asked c.args.key.now c.args.message.now c.args.signature.now
          (law.all verdict asked)
          (law.only verdict asked c.args.key.now c.args.message.now c.args.signature.now)
          c.in-Some.verdicts c.verify.result read c.verify.ensures,
    )
