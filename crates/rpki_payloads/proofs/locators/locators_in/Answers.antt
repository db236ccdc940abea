use Rattle.std.proofs.Common.{◌≡◌, ◌++◌, ◌∷◌, [], List, ℕ, rules, subst}
use Rattle.rpki_payloads.specs.Locators.{File, IsNamedLocator, IsNoLocator}
use Rattle.rpki_payloads.proofs.Locating.{one-bad}
use Rattle.rpki_payloads.proofs.Reporting.{run-more}
use Rattle.rpki_payloads.proofs.locators.locators_in.Goals as goal

pub returns-in-Err : goal.returns-in-Err
returns-in-Err c =
    one-bad c.args.files.now c.loop-word.word-index c.loop-word-item.result
    c.loop-word.locators.items c.in-Err.fault c.loop-word-test.true c.loop-word-item.is
    c.loop-word.invariant
    (subst (λ (o : List ℕ). IsNoLocator (c.loop-word-item.result.0, o) c.in-Err.fault)
    c.deref.ensures c.in-Err.ensures)

pub loop-word-preserved : goal.loop-word-preserved
loop-word-preserved c =
    let items : c.push.new.self.items ≡ c.loop-word.locators.items ++ c.in-Ok.one ∷ [] =
    search rules in
    rw items (run-more IsNamedLocator c.args.files.now c.loop-word.word-index
    c.loop-word-item.result c.loop-word.locators.items c.in-Ok.one c.loop-word-test.true
    c.loop-word.invariant
    (subst (λ (f : File). IsNamedLocator f c.in-Ok.one) c.loop-word-item.is
    (subst (λ (o : List ℕ). IsNamedLocator (c.loop-word-item.result.0, o) c.in-Ok.one)
    c.deref.ensures c.in-Ok.ensures)))
