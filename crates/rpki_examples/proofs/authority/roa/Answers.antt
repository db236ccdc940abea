use Rattle.std.proofs.Common.{ℕ, List, ap, subst, sym}
use Rattle.rpki_der.specs.declared.mode.Mode.TheVariants.{Der}
use Rattle.rpki_sigobj.specs.Signed.{KeptWhole, Whole, whole_of}
use Rattle.rpki_certs.specs.Validate.{Validated}
use Rattle.rpki_signing.specs.Built.{Settings, IsFit}
use Rattle.rpki_signing.specs.Content.{Passes}
use Rattle.rpki_signing.proofs.Answered.{counts-of}
use Rattle.rpki_routes.specs.Roa.{Roa}
use Rattle.rpki_routes.specs.Roa.Checks.{RoaCovered, roa_kind, route_origin_authz}
use Rattle.rpki_routes.specs.Roa.Signed.{IsBuiltRoa}
use Rattle.rpki_routes.specs.Roa.Written.{roa_octets}
use Rattle.rpki_examples.specs.Authority.{IsIssuedRoa, checking}
use Rattle.rpki_examples.proofs.Published.{faulty-as, published-as}
use Rattle.rpki_examples.proofs.Published.{roa-allowed, same-issuer, signed-fits}
use Rattle.rpki_examples.proofs.Published.{signed-unrevoked}
use Rattle.rpki_examples.proofs.authority.roa.Goals as goal

pub returns-in-Err-published-clause-passes : goal.returns-in-Err-published-clause-passes
returns-in-Err-published-clause-passes g c = λ takes timely covered allowed.
    let by = checking g.C.Crypto.digest_of g.C.Crypto.is_signed c.args.check.now in
    let may = g.S.Signer.may_sign c.args.signer.now in
    let made = g.S.Crypto.digest_of c.args.signer.now in
    let key : List ℕ = g.S.Signer.key_of c.args.signer.now c.args.key.now in
    let handed : Settings = c.args.told in
    let o : Whole Roa = whole_of c.in-Ok.object in
    let s = o.object.signed in
    let built : IsBuiltRoa o.content handed key (by.digest (roa_octets o.content)) s =
    subst (λ (r : Roa). IsBuiltRoa r handed key (by.digest (roa_octets r)) s)
    (sym c.in-Ok.ensures.content)
    (subst (λ (d : List ℕ). IsBuiltRoa c.args.content handed key d s)
    (takes.digests (roa_octets c.args.content)) c.in-Ok.ensures.built) in
    let told : Settings = built.told in
    let same = same-issuer _ _ c.check.view_is in
    let d : List ℕ = by.digest (roa_octets o.content) in
    c.in-Err-published.ensures.passes
    (subst (λ (v : Validated). Passes roa_kind Der by.digest by.verdict v by.moment o) same
    (c.built_roas_are_valid.ensures.passes by.digest by.verdict Der handed key o by.moment built
    (λ named. subst (λ (v : Validated). IsFit by.verdict told key s v by.moment) (sym same)
    (signed-fits may made by handed told key route_origin_authz (roa_octets o.content) d s
    timely takes (ap (λ (b : Settings). b.validity) built.claims.others)
    (ap (λ (b : Settings). b.signing_time) built.claims.others) c.in-Ok.ensures.signatures named
    (roa-allowed o.content handed told by.issuer.sets built.claims
    (subst (λ (r : Roa). RoaCovered r by.issuer.sets) (sym c.in-Ok.ensures.content) covered)
    allowed)))))
    (signed-unrevoked may made by handed told key route_origin_authz (roa_octets o.content) d s
    timely (ap (λ (b : Settings). b.serial_number) built.claims.others) built.built)

pub returns-in-Err-clause-cause : goal.returns-in-Err-clause-cause
returns-in-Err-clause-cause g c =
    counts-of (KeptWhole Roa) (List ℕ) _ _ c.in-Err.error c.in-Err.ensures.cause

pub returns-in-Ok-published-clause-good : goal.returns-in-Ok-published-clause-good
returns-in-Ok-published-clause-good g c =
    published-as roa_kind (checking g.C.Crypto.digest_of g.C.Crypto.is_signed c.args.check.now)
    c.in-Ok.object.content c.args.content c.in-Ok.object.object.object.signed
    (IsIssuedRoa (g.S.Signer.may_sign c.args.signer.now) (g.S.Signer.is_one_off c.args.signer.now)
    (g.S.Signer.key_of c.args.signer.now c.args.key.now) (g.S.Crypto.digest_of c.args.signer.now)
    c.args.content c.args.told) c.in-Ok.ensures.content (record {
      built = c.in-Ok.ensures.built;
      signatures = c.in-Ok.ensures.signatures;
      one_off = c.in-Ok.ensures.one_off;
    }) _ c.in-Ok-published.octets c.in-Ok-published.ensures.good

pub returns-in-Err-published-clause-refused : goal.returns-in-Err-published-clause-refused
returns-in-Err-published-clause-refused g c =
    faulty-as roa_kind (checking g.C.Crypto.digest_of g.C.Crypto.is_signed c.args.check.now)
    c.in-Ok.object.content c.args.content c.in-Ok.object.object.object.signed
    (IsIssuedRoa (g.S.Signer.may_sign c.args.signer.now) (g.S.Signer.is_one_off c.args.signer.now)
    (g.S.Signer.key_of c.args.signer.now c.args.key.now) (g.S.Crypto.digest_of c.args.signer.now)
    c.args.content c.args.told) c.in-Ok.ensures.content (record {
      built = c.in-Ok.ensures.built;
      signatures = c.in-Ok.ensures.signatures;
      one_off = c.in-Ok.ensures.one_off;
    }) c.in-Err-published.error c.in-Err-published.ensures.refused
