use Rattle.std.proofs.Common.{string_bytes}
use Rattle.rpki_verdicts.specs.Questions.{Question}
use Rattle.rpki_verdicts.proofs.Unlisted.{unwritten}
use Rattle.rpki_verdicts.proofs.lines.push_good.Goals as goal

pub returns-in-Err : goal.returns-in-Err
returns-in-Err g c =
    let q : Question = record {
      key = c.args.key.now;
      message = c.args.message.now;
      signature = c.args.signature.now;
    } in
    unwritten (g.C.Crypto.is_signed c.args.crypto.now) q (string_bytes c.args.text.now)
    c.in-Err.error c.unless_memory.result c.in-Err.ensures c.unless_memory.ensures
