use Rattle.std.proofs.Common.{ℕ, List, ◌∷◌, [], refl, subst, sym}
use Rattle.rpki_der.specs.declared.mode.Mode.TheVariants.{Der}
use Rattle.rpki_resources.specs.As.Form.{only}
use Rattle.rpki_resources.specs.Blocks.{Covers}
use Rattle.rpki_sigobj.specs.Signed.{KeptWhole, Whole, whole_of}
use Rattle.rpki_certs.specs.Validate.{Validated}
use Rattle.rpki_signing.specs.Built.{Settings, IsFit}
use Rattle.rpki_signing.specs.Content.{Passes}
use Rattle.rpki_signing.proofs.Answered.{counts-of}
use Rattle.rpki_routes.specs.Aspa.{Aspa}
use Rattle.rpki_routes.specs.Aspa.Checks.{aspa_kind, ct_aspa}
use Rattle.rpki_routes.specs.Aspa.Signed.{IsBuiltAspa, claiming}
use Rattle.rpki_routes.specs.Aspa.Written.{aspa_octets}
use Rattle.rpki_examples.specs.Authority.{IsIssuedAspa, checking}
use Rattle.rpki_examples.proofs.Published.{faulty-as, published-as}
use Rattle.rpki_examples.proofs.Published.{aspa-allowed, same-issuer, signed-fits}
use Rattle.rpki_examples.proofs.Published.{signed-unrevoked}
use Rattle.rpki_examples.proofs.authority.aspa.Goals as goal

pub returns-in-Err-published-clause-passes : goal.returns-in-Err-published-clause-passes
returns-in-Err-published-clause-passes g c = λ takes timely covered.
    let by = checking g.C.Crypto.digest_of g.C.Crypto.is_signed c.args.check.now in
    let may = g.S.Signer.may_sign c.args.signer.now in
    let made = g.S.Crypto.digest_of c.args.signer.now in
    let key : List ℕ = g.S.Signer.key_of c.args.signer.now c.args.key.now in
    let handed : Settings = c.args.told in
    let o : Whole Aspa = whole_of c.in-Ok.object in
    let s = o.object.signed in
    let built : IsBuiltAspa c.args.limit o.content handed key (by.digest (aspa_octets o.content))
    s =
    subst (λ (a : Aspa). IsBuiltAspa c.args.limit a handed key (by.digest (aspa_octets a)) s)
    (sym c.in-Ok.ensures.content)
    (subst (λ (d : List ℕ). IsBuiltAspa c.args.limit c.args.content handed key d s)
    (takes.digests (aspa_octets c.args.content)) c.in-Ok.ensures.built) in
    let told : Settings = claiming o.content handed in
    let same = same-issuer _ _ c.check.view_is in
    let d : List ℕ = by.digest (aspa_octets o.content) in
    c.in-Err-published.ensures.passes
    (subst (λ (v : Validated). Passes aspa_kind Der by.digest by.verdict v by.moment o) same
    (c.built_aspas_are_valid.ensures.passes by.digest by.verdict Der c.args.limit handed key o
    by.moment built
    (λ named. subst (λ (v : Validated). IsFit by.verdict told key s v by.moment) (sym same)
    (signed-fits may made by handed told key ct_aspa (aspa_octets o.content) d s timely
    takes refl refl c.in-Ok.ensures.signatures named
    (aspa-allowed o.content handed by.issuer.sets
    (subst (λ (a : Aspa). Covers (λ (n : ℕ). n) by.issuer.sets.as_numbers (only a.customer ∷ []))
    (sym c.in-Ok.ensures.content) covered))))))
    (signed-unrevoked may made by handed told key ct_aspa (aspa_octets o.content) d s timely refl
    built.built)

pub returns-in-Err-clause-cause : goal.returns-in-Err-clause-cause
returns-in-Err-clause-cause g c =
    counts-of (KeptWhole Aspa) (List ℕ) _ _ c.in-Err.error c.in-Err.ensures.cause

pub returns-in-Ok-published-clause-good : goal.returns-in-Ok-published-clause-good
returns-in-Ok-published-clause-good g c =
    published-as aspa_kind (checking g.C.Crypto.digest_of g.C.Crypto.is_signed c.args.check.now)
    c.in-Ok.object.content c.args.content c.in-Ok.object.object.object.signed
    (IsIssuedAspa (g.S.Signer.may_sign c.args.signer.now) (g.S.Signer.is_one_off c.args.signer.now)
    (g.S.Signer.key_of c.args.signer.now c.args.key.now) (g.S.Crypto.digest_of c.args.signer.now)
    c.args.limit c.args.content c.args.told) c.in-Ok.ensures.content (record {
      built = c.in-Ok.ensures.built;
      signatures = c.in-Ok.ensures.signatures;
      one_off = c.in-Ok.ensures.one_off;
    }) _ c.in-Ok-published.octets c.in-Ok-published.ensures.good

pub returns-in-Err-published-clause-refused : goal.returns-in-Err-published-clause-refused
returns-in-Err-published-clause-refused g c =
    faulty-as aspa_kind (checking g.C.Crypto.digest_of g.C.Crypto.is_signed c.args.check.now)
    c.in-Ok.object.content c.args.content c.in-Ok.object.object.object.signed
    (IsIssuedAspa (g.S.Signer.may_sign c.args.signer.now) (g.S.Signer.is_one_off c.args.signer.now)
    (g.S.Signer.key_of c.args.signer.now c.args.key.now) (g.S.Crypto.digest_of c.args.signer.now)
    c.args.limit c.args.content c.args.told) c.in-Ok.ensures.content (record {
      built = c.in-Ok.ensures.built;
      signatures = c.in-Ok.ensures.signatures;
      one_off = c.in-Ok.ensures.one_off;
    }) c.in-Err-published.error c.in-Err-published.ensures.refused
