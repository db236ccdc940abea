use Rattle.std.proofs.Common.{◌≡◌, ◌++◌, ◌∷◌, [], rules, subst}
use Rattle.rpki_payloads.specs.Party.{party_of}
use Rattle.rpki_payloads.specs.Outcomes.{IsOutcomeUnder}
use Rattle.rpki_payloads.specs.declared.locators.NamedLocator.{NamedLocator}
use Rattle.rpki_payloads.proofs.Reporting.{run-more}
use Rattle.rpki_payloads.proofs.party.run_all.Goals as goal

pub loop-one-preserved : goal.loop-one-preserved
loop-one-preserved g c =
    let items : c.push.new.self.items
    ≡ c.loop-one.outcomes.items ++ c.run_named.result ∷ [] = search rules in
    rw items
    (run-more (λ (x : NamedLocator). IsOutcomeUnder
    (party_of g.F.Folders.finds g.C.Crypto.digest_of g.C.Crypto.is_signed c.args.party.now)
    x.name.now x.locator) c.args.locators.now c.loop-one.one-index
    c.one-item.result c.loop-one.outcomes.items c.run_named.result c.loop-one-test.true
    c.loop-one.invariant
    (subst (λ (x : NamedLocator). IsOutcomeUnder
    (party_of g.F.Folders.finds g.C.Crypto.digest_of g.C.Crypto.is_signed c.args.party.now)
    x.name.now x.locator c.run_named.result) c.one-item.is
    c.run_named.ensures))
