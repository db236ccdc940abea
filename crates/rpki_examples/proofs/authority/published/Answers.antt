use Rattle.std.proofs.Common.{◌≡◌, ℕ, List, Ok, Err, subst, sym}
use Rattle.rpki_der.specs.declared.mode.Mode.TheVariants.{Der}
use Rattle.rpki_sigobj.specs.Signed.{whole_of}
use Rattle.rpki_signed.specs.Check.{Checks}
use Rattle.rpki_signed.specs.Exact.{IsExact}
use Rattle.rpki_examples.specs.Authority.{IsPublished, checking}
use Rattle.rpki_examples.specs.Received.{SaysOf}
use Rattle.rpki_examples.proofs.Published.{by-desk, faulty, only-memory, yes-published}
use Rattle.rpki_examples.proofs.authority.published.Goals as goal

pub returns-in-Err-checked-clause-passes : goal.returns-in-Err-checked-clause-passes
returns-in-Err-checked-clause-passes g c = λ passes unrevoked.
    let kind = g.T.Content.kind in
    let form = g.T.Content.form c.args.rule in
    let by = checking g.C.Crypto.digest_of g.C.Crypto.is_signed c.args.check.now in
    only-memory kind form by (whole_of c.args.object) c.requires passes unrevoked
    (Err c.in-Err-checked.error)
    (by-desk (λ d. Checks kind form Der (g.C.Crypto.digest_of d.crypto)
    (g.C.Crypto.is_signed d.crypto) d.issuer d.moment (SaysOf d.list)
    c.args.object.object.object.octets (Err c.in-Err-checked.error)) _ _ c.check.view_is
    (subst (λ (o : List ℕ). Checks kind form Der
    (g.C.Crypto.digest_of c.check.inside.crypto.now)
    (g.C.Crypto.is_signed c.check.inside.crypto.now) c.check.inside.issuer.now
    c.check.inside.moment (SaysOf c.check.inside.list.now.list) o (Err c.in-Err-checked.error))
    c.in-Ok.ensures.1 c.in-Err-checked.ensures.first))

pub returns-in-Err-checked-clause-refused : goal.returns-in-Err-checked-clause-refused
returns-in-Err-checked-clause-refused g c =
    let kind = g.T.Content.kind in
    let form = g.T.Content.form c.args.rule in
    let by = checking g.C.Crypto.digest_of g.C.Crypto.is_signed c.args.check.now in
    faulty kind form by (whole_of c.args.object) c.requires (Err c.in-Err-checked.error)
    (by-desk (λ d. Checks kind form Der (g.C.Crypto.digest_of d.crypto)
    (g.C.Crypto.is_signed d.crypto) d.issuer d.moment (SaysOf d.list)
    c.args.object.object.object.octets (Err c.in-Err-checked.error)) _ _ c.check.view_is
    (subst (λ (o : List ℕ). Checks kind form Der
    (g.C.Crypto.digest_of c.check.inside.crypto.now)
    (g.C.Crypto.is_signed c.check.inside.crypto.now) c.check.inside.issuer.now
    c.check.inside.moment (SaysOf c.check.inside.list.now.list) o (Err c.in-Err-checked.error))
    c.in-Ok.ensures.1 c.in-Err-checked.ensures.first))

pub returns-in-Ok-checked-clause-good : goal.returns-in-Ok-checked-clause-good
returns-in-Ok-checked-clause-good g c =
    let kind = g.T.Content.kind in
    let form = g.T.Content.form c.args.rule in
    let by = checking g.C.Crypto.digest_of g.C.Crypto.is_signed c.args.check.now in
    subst (λ (o : List ℕ). IsPublished kind form by c.args.object.content
    (λ s. s ≡ c.args.object.object.object.signed) o)
    (sym c.in-Ok.ensures.0)
    (yes-published kind form by (whole_of c.args.object) c.requires
    (Ok (c.in-Ok-checked.cert, c.in-Ok-checked.content))
    (by-desk (λ d. IsExact kind form Der (g.C.Crypto.digest_of d.crypto)
    (g.C.Crypto.is_signed d.crypto) d.issuer d.moment (SaysOf d.list)
    c.args.object.object.object.octets (Ok (c.in-Ok-checked.cert, c.in-Ok-checked.content)))
    _ _ c.check.view_is
    (subst (λ (o : List ℕ). IsExact kind form Der
    (g.C.Crypto.digest_of c.check.inside.crypto.now)
    (g.C.Crypto.is_signed c.check.inside.crypto.now) c.check.inside.issuer.now
    c.check.inside.moment (SaysOf c.check.inside.list.now.list) o
    (Ok (c.in-Ok-checked.cert, c.in-Ok-checked.content)))
    c.in-Ok.ensures.1 c.in-Ok-checked.ensures.exact)))
