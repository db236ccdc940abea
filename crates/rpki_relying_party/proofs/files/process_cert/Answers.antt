use Rattle.std.proofs.Common.{ℕ, List, Ok, Err, subst}
use Rattle.std.proofs.lemmas.Result.{err_from_is_err_and}
use Rattle.rpki_relying_party.specs.Passes.{setting}
use Rattle.rpki_relying_party.specs.Under.{IsCaUnder}
use Rattle.rpki_relying_party.proofs.Judging.{child-judged, none-judged}
use Rattle.rpki_relying_party.proofs.files.process_cert.Goals as goal

pub returns-in_err-copy : goal.returns-in_err-copy
returns-in_err-copy g c =
    let p = err_from_is_err_and c.from_residual.result c.from_residual.ensures.1 in
    rw (p.1, p.2) tt

pub returns-in-Err : goal.returns-in-Err
returns-in-Err g c =
    let s = setting g.R.Repository.finds g.C.Crypto.digest_of g.C.Crypto.is_signed
    c.args.pass.now in
    let above = c.args.above.now in
    let list = above.list.now.crl.list in
    none-judged s above.ca.now list above.until above.manifest.now c.args.uri c.args.octets
    c.in-Err.error
    (subst (λ (o : List ℕ). IsCaUnder s.verdict s.now above.ca.now list o (Err c.in-Err.error))
    c.in_ok-copy.ensures.cases c.in-Err.ensures)
    c.args.findings.now.said.items c.refuse_cert.new.said.items c.args.findings.now.children.items
    c.args.room.now c.refuse_cert.result c.refuse_cert.ensures.memory c.refuse_cert.ensures.said

pub returns-in-Ok : goal.returns-in-Ok
returns-in-Ok g c =
    let s = setting g.R.Repository.finds g.C.Crypto.digest_of g.C.Crypto.is_signed
    c.args.pass.now in
    let above = c.args.above.now in
    let list = above.list.now.crl.list in
    child-judged s above.ca.now list above.until above.manifest.now c.args.uri c.args.octets
    c.in-Ok.ca
    (subst (λ (o : List ℕ). IsCaUnder s.verdict s.now above.ca.now list o (Ok c.in-Ok.ca))
    c.in_ok-copy.ensures.cases c.in-Ok.ensures)
    c.is_resource_cert.ensures c.cost_of-cost.result c.cost_of-cost.ensures
    c.args.findings.now.said.items c.args.findings.now.children.items c.put_child.new.children.items
    c.args.room.now c.put_child.new.room c.put_child.result c.put_child.ensures
