use Rattle.std.proofs.Common.{List, ℕ, refl, ◌∙◌}
use Rattle.rpki_issued.specs.Tbs.{tbs_of}
use Rattle.rpki_issued.proofs.Issued.{not-written, not-made-of, form-of, made-by, signed-by}
use Rattle.rpki_issued.proofs.Joined.{counts-unwritten}
use Rattle.rpki_issued.proofs.tbs.TbsCert.into_cert.Goals as goal

pub returns-in-Err-clause-refused : goal.returns-in-Err-clause-refused
returns-in-Err-clause-refused g c =
    rw c.signing_error_of.ensures
    (not-written _ (λ (m s : List ℕ). g.S.Signer.may_sign c.args.signer.now
    (g.S.Signer.key_of c.args.signer.now c.args.key.now) m s)
    c.args.self c.in-Err.fault c.in-Err.ensures.octets)

pub returns-in-Err-sign_and_join-clause-refused : goal.returns-in-Err-sign_and_join-clause-refused
returns-in-Err-sign_and_join-clause-refused g c =
    not-made-of (λ (m s : List ℕ). g.S.Signer.may_sign c.args.signer.now
    (g.S.Signer.key_of c.args.signer.now c.args.key.now) m s)
    c.args.self c.deref.result.now c.in-Err-sign_and_join.fault
    (c.deref.ensures.value ∙ c.in-Ok.ensures.octets.0)
    c.in-Err-sign_and_join.ensures.refused

pub read_back-requires : goal.read_back-requires
read_back-requires g c =
    form-of (tbs_of c.args.self) c.deref.result.now c.in-Ok-sign_and_join.joined.items
    (λ (s : List ℕ). g.S.Signer.may_sign c.args.signer.now
    (g.S.Signer.key_of c.args.signer.now c.args.key.now) c.deref.result.now s)
    c.in-Ok.ensures.can (c.deref.ensures.value ∙ c.in-Ok.ensures.octets.0)
    c.in-Ok-sign_and_join.ensures.joined

pub returns-in-Ok-read_back-clause-made : goal.returns-in-Ok-read_back-clause-made
returns-in-Ok-read_back-clause-made g c =
    made-by (tbs_of c.args.self) c.deref.result.now c.in-Ok-sign_and_join.joined.items
    (λ (s : List ℕ). g.S.Signer.may_sign c.args.signer.now
    (g.S.Signer.key_of c.args.signer.now c.args.key.now) c.deref.result.now s)
    c.in-Ok.ensures.can (c.deref.ensures.value ∙ c.in-Ok.ensures.octets.0)
    c.in-Ok-sign_and_join.ensures.joined
    c.in-Ok-read_back.cert.certificate c.in-Ok-read_back.ensures.certificate

pub returns-in-Ok-read_back-clause-signed : goal.returns-in-Ok-read_back-clause-signed
returns-in-Ok-read_back-clause-signed g c =
    signed-by (tbs_of c.args.self) c.deref.result.now c.in-Ok-sign_and_join.joined.items
    (λ (m s : List ℕ). g.S.Signer.may_sign c.args.signer.now
    (g.S.Signer.key_of c.args.signer.now c.args.key.now) m s)
    c.in-Ok.ensures.can (c.deref.ensures.value ∙ c.in-Ok.ensures.octets.0)
    c.in-Ok-sign_and_join.ensures.joined
    c.in-Ok-read_back.cert.certificate c.in-Ok-read_back.ensures.certificate

pub returns-in-Err-clause-cause : goal.returns-in-Err-clause-cause
returns-in-Err-clause-cause g c =
    rw c.signing_error_of.ensures (counts-unwritten (Unit {0}) _ _ _ c.in-Err.fault refl)
