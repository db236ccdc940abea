use Rattle.std.proofs.Common.{List, ℕ, subst}
use Rattle.std.specs.Prelude.{◌≡◌, IfOk, string_bytes}
use Rattle.rpki_rsa.specs.Signature.{is_rsa_signature}
use Rattle.rpki_sigobj.specs.Object.{mode_of}
use Rattle.rpki_verdicts.specs.Lists.{IsListingOf}
use Rattle.rpki_program.proofs.Listed.{listed}
use Rattle.rpki_program.proofs.verify.verdicts.verdicts.Goals as goal

pub returns-in-Ok : goal.returns-in-Ok
returns-in-Ok g c =
    let r = c.args.request.now in
    let files = c.in-Ok.files in
    listed (g.S.Store.told c.args.store.now) r files c.in-Ok.ensures c.list.result
    (subst (λ (chain : List (List ℕ)). IfOk c.list.result (λ x. x.status ≡ 0 → IsListingOf
    (mode_of r.manner.strict) is_rsa_signature files.object files.anchor chain (string_bytes x.out)))
    c.deref.ensures.value c.list.ensures)
