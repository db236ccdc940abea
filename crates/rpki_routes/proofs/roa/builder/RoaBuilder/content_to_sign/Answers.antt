use Rattle.std.proofs.lemmas.Result.{IfErr-weaker, on_ok_weaker}
use Rattle.rpki_lists.specs.Built.{IsNotBuilt}
use Rattle.rpki_routes.specs.Roa.{IsRoa}
use Rattle.rpki_routes.specs.Roa.Built.{roa_checks}
use Rattle.rpki_routes.specs.Roa.Signed.{HasAddress, signed_checks}
use Rattle.rpki_routes.proofs.Origins.Signed.{empty-first, some-not-built}
use Rattle.rpki_routes.proofs.roa.builder.RoaBuilder.content_to_sign.Goals as goal

pub returns-then-is_empty-clause-refused : goal.returns-then-is_empty-clause-refused
returns-then-is_empty-clause-refused c =
    let none = c.is_empty.ensures.0 c.if-is_empty.true in
    empty-first c.args.self.now none.0 none.1

pub returns-clause-some : goal.returns-clause-some
returns-clause-some c =
    let some : HasAddress c.args.self.now = λ none.
    let e = c.is_empty.ensures.1 none in let f = c.if-is_empty.false in cc in
    on_ok_weaker c.to_attestation.result (λ (is : IsRoa c.args.self.now). some)
    c.to_attestation.ensures.roa

pub returns-clause-refused : goal.returns-clause-refused
returns-clause-refused c =
    let some : HasAddress c.args.self.now = λ none.
    let e = c.is_empty.ensures.1 none in let f = c.if-is_empty.false in cc in
    IfErr-weaker c.to_attestation.result (IsNotBuilt (roa_checks c.args.self.now) _)
    (IsNotBuilt (signed_checks c.args.self.now) _)
    (λ e h. some-not-built c.args.self.now _ e some h) c.to_attestation.ensures.refused
