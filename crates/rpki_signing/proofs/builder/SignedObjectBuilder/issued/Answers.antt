use Rattle.std.proofs.Common.{List, ℕ, sym, subst}
use Rattle.std.proofs.lemmas.Result.{IfErr-weaker}
use Rattle.rpki_sigobj.specs.Object.{SignedData}
use Rattle.rpki_signing.specs.Built.{IsNotBuilt}
use Rattle.rpki_signing.specs.Written.{IsNotWritten}
use Rattle.rpki_issued.specs.Tbs.{IsNotSigned}
use Rattle.rpki_signing.specs.Built.{unsigned_of}
use Rattle.rpki_signing.proofs.Answered.{built-of, key-of, unwritten-unbuilt, signatures-of}
use Rattle.rpki_signing.proofs.Answered.{uncertified-unbuilt, written-as}
use Rattle.rpki_signing.proofs.builder.SignedObjectBuilder.issued.Goals as goal

pub returns-in-Ok-clause-refused : goal.returns-in-Ok-clause-refused
returns-in-Ok-clause-refused g c =
    let type : List ℕ = c.args.typed.now.content_type.now in
    let content : List ℕ = c.args.typed.now.content.now in
    let digest : List ℕ = g.S.Crypto.digest_of c.args.signer.now content in
    let issuer : List ℕ = g.S.Signer.key_of c.args.signer.now c.args.issuer_key.now in
    let said : SignedData = record {
      content_type = type;
      content = content;
      cert = c.in-Ok.cert.certificate;
      signer = record {
        sid = c.key_identifier-sid.result;
        attributes = c.args.once.attributes.attributes;
        signature = c.args.once.signature;
      };
    } in
    let may : List ℕ → List ℕ → List ℕ → Type 0 = g.S.Signer.may_sign c.args.signer.now in
    let once : List ℕ → Type 0 = g.S.Signer.is_one_off c.args.signer.now in
    IfErr-weaker c.object_of-object.result (IsNotWritten said)
    (IsNotBuilt may once c.args.self c.args.issuer.now type content digest)
    (λ e h. unwritten-unbuilt may once c.args.self c.args.issuer.now type content digest said e
    (built-of c.args.self c.args.issuer.now type content digest c.args.once.key
    c.key_identifier-sid.result c.args.once.attributes.attributes c.args.once.signature
    c.in-Ok.cert.certificate c.key_identifier-sid.ensures c.in-Ok.ensures.made
    c.requires.made)
    (subst once (sym (key-of c.args.self c.args.issuer.now c.args.once.key c.in-Ok.cert.certificate
    c.in-Ok.ensures.made)) c.requires.one_off)
    (signatures-of may c.args.self c.args.issuer.now issuer type content c.args.once.key
    c.key_identifier-sid.result c.args.once.attributes.attributes c.args.once.signature
    c.in-Ok.cert.certificate c.in-Ok.ensures.made c.requires.issuer
    c.requires.signed c.in-Ok.ensures.signed) h)
    c.object_of-object.ensures.refused

pub returns-in-Ok-clause-written : goal.returns-in-Ok-clause-written
returns-in-Ok-clause-written g c =
    let said : SignedData = record {
      content_type = c.args.typed.now.content_type.now;
      content = c.args.typed.now.content.now;
      cert = c.in-Ok.cert.certificate;
      signer = record {
        sid = c.key_identifier-sid.result;
        attributes = c.args.once.attributes.attributes;
        signature = c.args.once.signature;
      };
    } in
    written-as c.object_of-object.result said c.object_of-object.ensures.written

pub returns-in-Err-clause-refused : goal.returns-in-Err-clause-refused
returns-in-Err-clause-refused g c =
    let issuer : List ℕ = g.S.Signer.key_of c.args.signer.now c.args.issuer_key.now in
    let key : List ℕ = c.args.once.key in
    let may : List ℕ → List ℕ → List ℕ → Type 0 = g.S.Signer.may_sign c.args.signer.now in
    uncertified-unbuilt may (g.S.Signer.is_one_off c.args.signer.now) c.args.self
    c.args.issuer.now c.args.typed.now.content_type.now c.args.typed.now.content.now
    (g.S.Crypto.digest_of c.args.signer.now c.args.typed.now.content.now) key c.in-Err.fault (
      c.args.once.attributes.attributes,
      c.args.once.signature,
      c.requires.made,
      c.requires.one_off,
      c.requires.signed,
    )
    (subst (λ (i : List ℕ). IsNotSigned (may i) (unsigned_of c.args.self c.args.issuer.now key)
    c.in-Err.fault) (sym c.requires.issuer) c.in-Err.ensures.refused)
