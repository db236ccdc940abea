use Rattle.std.proofs.Common.{◌≡◌, length, subst}
use Rattle.rpki_der.specs.declared.mode.Mode.{Mode}
use Rattle.rpki_der.specs.declared.mode.Mode.TheVariants.{Der}
use Rattle.rpki_der.specs.Oid.{IsOid}
use Rattle.rpki_certs.specs.Cert.{CertForm}
use Rattle.rpki_sigobj.specs.Object.{SignedData}
use Rattle.rpki_signing.proofs.object.can_be_written.Goals as goal

pub returns : goal.returns
returns c = record {
  content_type =
      subst (λ (s : SignedData). IsOid s.content_type) c.p.view_is c.as_slice.ensures.valid;
  cert =
      subst (λ (s : SignedData). CertForm Der s.cert.octets s.cert) c.p.view_is
      (subst (λ (m : Mode). CertForm m c.p.inside.cert.now.certificate.octets
      c.p.inside.cert.now.certificate) c.p.invariant.0 c.encode_ref.ensures.written);
  sid = subst (λ (s : SignedData). length s.signer.sid ≡ 20) c.p.view_is c.as_slice-2.ensures.len;
  attributes = c.requires.form;
  type = c.requires.kind;
}
