use Rattle.std.proofs.Common.{List, ℕ, refl, ◌∙◌}
use Rattle.rpki_issued.proofs.Joined.{counts-unwritten}
use Rattle.rpki_issued_crls.specs.Lists.{name_of}
use Rattle.rpki_issued_crls.proofs.Issued.{not-written, not-issued-of, form-of, made-by, signed-by}
use Rattle.rpki_issued_crls.proofs.builder.CrlBuilder.issued.Goals as goal

pub returns-in-Err-clause-refused : goal.returns-in-Err-clause-refused
returns-in-Err-clause-refused g c =
    rw c.signing_error_of.ensures
    (not-written c.args.self (name_of c.args.info.now) _
    (λ (m s : List ℕ). g.S.Signer.may_sign c.args.signer.now
    (g.S.Signer.key_of c.args.signer.now c.args.key.now) m s)
    c.in-Err.fault c.in-Err.ensures.octets)

pub returns-in-Err-clause-cause : goal.returns-in-Err-clause-cause
returns-in-Err-clause-cause g c =
    rw c.signing_error_of.ensures (counts-unwritten (Unit {0}) _ _ _ c.in-Err.fault refl)

pub returns-in-Err-sign_and_join-clause-refused : goal.returns-in-Err-sign_and_join-clause-refused
returns-in-Err-sign_and_join-clause-refused g c =
    not-issued-of c.args.self (name_of c.args.info.now)
    (λ (m s : List ℕ). g.S.Signer.may_sign c.args.signer.now
    (g.S.Signer.key_of c.args.signer.now c.args.key.now) m s)
    c.deref.result.now c.in-Err-sign_and_join.fault
    (c.deref.ensures.value ∙ c.in-Ok.ensures.octets.0)
    c.in-Err-sign_and_join.ensures.refused

pub read_back-requires : goal.read_back-requires
read_back-requires g c =
    form-of c.args.self (name_of c.args.info.now) c.in-Ok.ensures.list c.in-Ok.ensures.issuer
    c.deref.result.now c.in-Ok-sign_and_join.joined.items
    (c.deref.ensures.value ∙ c.in-Ok.ensures.octets.0)
    (λ (s : List ℕ). g.S.Signer.may_sign c.args.signer.now
    (g.S.Signer.key_of c.args.signer.now c.args.key.now) c.deref.result.now s)
    c.in-Ok-sign_and_join.ensures.joined

pub returns-in-Ok-read_back-clause-made : goal.returns-in-Ok-read_back-clause-made
returns-in-Ok-read_back-clause-made g c =
    made-by c.args.self (name_of c.args.info.now) c.in-Ok.ensures.list c.in-Ok.ensures.issuer
    c.deref.result.now c.in-Ok-sign_and_join.joined.items
    (c.deref.ensures.value ∙ c.in-Ok.ensures.octets.0)
    (λ (s : List ℕ). g.S.Signer.may_sign c.args.signer.now
    (g.S.Signer.key_of c.args.signer.now c.args.key.now) c.deref.result.now s)
    c.in-Ok-sign_and_join.ensures.joined
    c.in-Ok-read_back.list.list c.in-Ok-read_back.ensures.list

pub returns-in-Ok-read_back-clause-signed : goal.returns-in-Ok-read_back-clause-signed
returns-in-Ok-read_back-clause-signed g c =
    signed-by c.args.self (name_of c.args.info.now) c.in-Ok.ensures.list c.in-Ok.ensures.issuer
    c.deref.result.now c.in-Ok-sign_and_join.joined.items
    (c.deref.ensures.value ∙ c.in-Ok.ensures.octets.0)
    (λ (m s : List ℕ). g.S.Signer.may_sign c.args.signer.now
    (g.S.Signer.key_of c.args.signer.now c.args.key.now) m s)
    c.in-Ok-sign_and_join.ensures.joined
    c.in-Ok-read_back.list.list c.in-Ok-read_back.ensures.list
