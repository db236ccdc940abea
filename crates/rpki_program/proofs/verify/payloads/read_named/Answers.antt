use Rattle.std.proofs.Common.{◌+◌, ◌∙◌, List, subst, sym, take}
use Rattle.rpki_payloads.specs.Locators.{File}
use Rattle.rpki_program.specs.Verify.Payloads.{AreNamedFiles}
use Rattle.rpki_program.proofs.Paying.{named-more}
use Rattle.rpki_program.proofs.verify.payloads.read_named.Goals as goal

pub loop-i-preserved : goal.loop-i-preserved
loop-i-preserved g c =
    let l = c.loop-i in
    let told = g.S.Store.told c.args.store.now in
    record {
      same = c.read_one.ensures.same ∙ l.invariant.same;
      read =
          subst (λ (files : List File). AreNamedFiles told (take (l.i + 1) c.args.names.now) files)
          (sym c.in-Ok.ensures.items)
          (named-more (g.S.Store.told l.store) told c.args.names.now l.i _ l.files.items
          c.in_ok-octets.octets c.loop-i-test.true l.invariant.same l.invariant.read
          c.in_ok-octets.ensures.told);
    }
