-- The loan of all paths writes back what the supply left.
use Rattle.std.proofs.Common.{◌≡◌, ◌++◌, Err, length, take, drop, sym, ap, ◌∙◌, subst, arith}
use Rattle.rpki_paths.specs.Supplied.{AnswersEach}
use Rattle.rpki_rta.specs.Begun.{Refuses, cert_of, supply_of_tal}
use Rattle.rpki_rta.specs.Faults.{supply_answer}
use Rattle.rpki_rta.proofs.Supplying.{answers-back, locator-memory}
use Rattle.rpki_rta.proofs.validation.Validation.supply_tal.Goals.{in-Ok, in-Err}
use Rattle.rpki_rta.proofs.validation.Validation.supply_tal.Goals as goal

pub returns-clause-answers : goal.returns-clause-answers
returns-clause-answers g c =
    let cert = cert_of g.C.Crypto.is_signed in
    let s = supply_of_tal c.args.tal.now in
    let refuses = Refuses g.C.Crypto.is_signed s in
    let paths = c.self.inside.paths in
    let new = c.supply_each.new.paths in
    let told : c.match-supply_each.result ≡ supply_answer c.supply_each.result =
    elim c.match-supply_each.branch [
      | in-Ok w ↦ w.result-is ∙ ap supply_answer (sym w.in-Ok.is)
      | in-Err w ↦ w.result-is ∙ ap Err w.of_supply.ensures ∙ ap supply_answer (sym w.in-Err.is)
    ] in
    record {
      of_rta = ap (λ v. v.rta) c.self.view_is;
      of_verdicts = ap (λ v. v.verdicts) c.self.view_is;
      answer = c.supply_each.result;
      each = subst (λ l. AnswersEach cert refuses s l
          (take paths.len (new ++ drop (length new) paths.items)) c.supply_each.result)
          (ap (λ v. v.paths) c.self.view_is)
          (answers-back cert refuses s paths.len paths.items c.as_mut_slice.result.now new
          c.supply_each.result c.as_mut_slice.ensures.value (omega (arith, paths.ok.0))
          c.supply_each.ensures);
      told = told;
    }

pub returns-clause-memory : goal.returns-clause-memory
returns-clause-memory g c =
    let told : c.match-supply_each.result ≡ supply_answer c.supply_each.result =
    elim c.match-supply_each.branch [
      | in-Ok w ↦ w.result-is ∙ ap supply_answer (sym w.in-Ok.is)
      | in-Err w ↦ w.result-is ∙ ap Err w.of_supply.ensures ∙ ap supply_answer (sym w.in-Err.is)
    ] in
    locator-memory g.C.Crypto.is_signed c.args.tal.now.key c.as_mut_slice.result.now
    c.supply_each.new.paths c.supply_each.result c.match-supply_each.result c.supply_each.ensures
    told
