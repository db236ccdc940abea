use Rattle.std.proofs.Common.{◌∙◌, sym}
use Rattle.rpki_program.proofs.Paying.{timed-pays}
use Rattle.rpki_program.proofs.verify.run.listed_at.Goals as goal

pub returns-in-Some : goal.returns-in-Some
returns-in-Some g c =
    let made = c.new-folders in
    timed-pays g.Y.System.finds made.result.system.now c.args.system.now
    (g.S.Store.told c.args.store.now) c.args.request.now c.args.clock c.in-Some.moment
    made.result.max_file c.payloads.result made.ensures.system
    (made.ensures.max_file ∙ c.unwrap_or-max_file.ensures) (sym c.in-Some.ensures) c.payloads.ensures
