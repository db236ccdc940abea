use Rattle.std.proofs.Common.{ℕ, List}
use Rattle.rpki_examples.proofs.Published.{fit-anchor, no-anchor}
use Rattle.rpki_examples.proofs.authority.anchor.Goals as goal

pub returns-in-Ok-validate_ta_at-clause-made : goal.returns-in-Ok-validate_ta_at-clause-made
returns-in-Ok-validate_ta_at-clause-made g c = record {
  cert = c.in-Ok.cert;
  validated = c.in-Ok-validate_ta_at.ensures.1;
  made = c.in-Ok.ensures.made;
  signed = c.in-Ok.ensures.signed;
  good =
      ((c.valid_anchors.ensures (g.C.Crypto.is_signed c.args.crypto.now) c.in-Ok.cert.certificate
      c.args.now).0 c.in-Ok-validate_ta_at.ensures.0).1;
}

pub returns-in-Err-validate_ta_at-clause-refused : goal.returns-in-Err-validate_ta_at-clause-refused
returns-in-Err-validate_ta_at-clause-refused g c =
    let key : List ℕ = g.S.Signer.key_of c.args.signer.now c.args.key.now in
    no-anchor (g.S.Signer.may_sign c.args.signer.now) (g.C.Crypto.is_signed c.args.crypto.now)
    c.args.told key c.args.now c.in-Ok.cert.certificate c.in-Ok.ensures.made
    c.in-Ok.ensures.signed c.in-Err-validate_ta_at.fault c.in-Err-validate_ta_at.ensures

pub returns-in-Err-validate_ta_at-clause-passes : goal.returns-in-Err-validate_ta_at-clause-passes
returns-in-Err-validate_ta_at-clause-passes g c = λ fit.
    let key : List ℕ = g.S.Signer.key_of c.args.signer.now c.args.key.now in
    fit-anchor (g.S.Signer.may_sign c.args.signer.now) (g.C.Crypto.is_signed c.args.crypto.now)
    c.args.told key c.args.now c.in-Ok.cert.certificate c.in-Ok.ensures.made
    c.in-Ok.ensures.signed
    (c.valid_anchors.ensures (g.C.Crypto.is_signed c.args.crypto.now) c.in-Ok.cert.certificate
    c.args.now).1 fit c.in-Err-validate_ta_at.fault c.in-Err-validate_ta_at.ensures
