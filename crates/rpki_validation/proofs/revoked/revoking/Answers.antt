use Rattle.std.proofs.Common.{List, subst, sym}
use Rattle.std.proofs.lemmas.List.{take_all}
use Rattle.std.proofs.lemmas.List.Elements.{All-more}
use Rattle.rpki_crls.specs.Crl.{KeptCrl}
use Rattle.rpki_validation.specs.Revoked.{IsUnrevoked, Revokes}
use Rattle.rpki_validation.proofs.Steps.{not-true}
use Rattle.rpki_validation.proofs.revoked.revoking.Goals as goal

pub loop-i-preserved : goal.loop-i-preserved
loop-i-preserved c =
    let P : KeptCrl → Type 0 = λ l.
    ¬ Revokes c.args.issuer.now.certificate c.args.cert.now.certificate l.list in
    All-more P c.args.lists.now c.loop-i.i c.index-lists-i.result c.loop-i-test.true
    c.loop-i.invariant
    (subst P c.index-lists-i.is (not-true c.revokes.result c.if-revokes.false c.revokes.ensures))

pub returns-then-revokes : goal.returns-then-revokes
returns-then-revokes c = record {
  list = c.index-lists-i.result;
  placed = record { there = c.loop-i-test.true; is = sym c.index-lists-i.is };
  revokes = c.revokes.ensures.0 c.if-revokes.true;
  first = c.loop-i.invariant;
}

pub returns : goal.returns
returns c =
    subst (λ (ls : List KeptCrl). IsUnrevoked ls c.args.issuer.now.certificate
    c.args.cert.now.certificate) (take_all c.loop-i.i c.args.lists.now c.loop-i-test.false)
    c.loop-i.invariant
