use Rattle.rpki_issued_crls.proofs.Issued.{made-under, signed-under, refused-under}
use Rattle.rpki_issued_crls.proofs.builder.CrlBuilder.into_crl.Goals as goal

pub returns-in-Ok-clause-made : goal.returns-in-Ok-clause-made
returns-in-Ok-clause-made g c =
    let may = g.S.Signer.may_sign c.get_key_info.new.self in
    let may' = g.S.Signer.may_sign c.args.signer.now in
    made-under c.args.self may may'
    (g.S.Signer.key_of c.get_key_info.new.self c.args.key.now)
    (g.S.Signer.key_of c.args.signer.now c.args.key.now) c.in-Ok.info c.issued-list.result
    c.in-Ok.ensures.key c.issued-list.ensures.made

pub returns-in-Ok-clause-signed : goal.returns-in-Ok-clause-signed
returns-in-Ok-clause-signed g c =
    let may = g.S.Signer.may_sign c.get_key_info.new.self in
    let may' = g.S.Signer.may_sign c.args.signer.now in
    signed-under c.args.self may may'
    (g.S.Signer.key_of c.get_key_info.new.self c.args.key.now)
    (g.S.Signer.key_of c.args.signer.now c.args.key.now) c.in-Ok.info c.issued-list.result
    c.in-Ok.ensures.key (λ k m s. (c.in-Ok.ensures.signs k m s).0)
    (c.in-Ok.ensures.keys c.args.key.now) c.issued-list.ensures.signed

pub returns-in-Ok-clause-refused : goal.returns-in-Ok-clause-refused
returns-in-Ok-clause-refused g c =
    let may = g.S.Signer.may_sign c.get_key_info.new.self in
    let may' = g.S.Signer.may_sign c.args.signer.now in
    refused-under c.args.self may may'
    (g.S.Signer.key_of c.get_key_info.new.self c.args.key.now)
    (g.S.Signer.key_of c.args.signer.now c.args.key.now) c.in-Ok.info c.issued-list.result
    c.in-Ok.ensures.key (λ k m s. (c.in-Ok.ensures.signs k m s).0)
    (c.in-Ok.ensures.keys c.args.key.now) c.issued-list.ensures.refused
