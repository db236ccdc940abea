use Rattle.std.proofs.Common.{List, All, subst}
use Rattle.rpki_certs.specs.Cert.{KeptCertificate}
use Rattle.rpki_certs.specs.Cert.{IsKept as IsKeptCert}
use Rattle.rpki_crls.specs.Crl.{KeptCrl}
use Rattle.rpki_crls.specs.Crl.{IsKept as IsKeptCrl}
use Rattle.rpki_sigobj.specs.SignerInfo.{KeptSigner}
use Rattle.rpki_multi.specs.Attestation.{KeptWhole}
use Rattle.rpki_multi.specs.Multi.{AreKept}
use Rattle.rpki_multi.specs.Signer.{IsAttested}
use Rattle.rpki_multi.proofs.builder.RtaBuilder.carries_der.Goals as goal

pub returns-clause-kept : goal.returns-clause-kept
returns-clause-kept c =
    subst (λ (k : KeptWhole). AreKept k.signed) c.self.view_is (record {
      certs = subst (λ (l : List KeptCertificate). All IsKeptCert l) c.deref.ensures.value
          (c.are_in_der.ensures.kept c.if-not-are_in_der.false);
      crls = subst (λ (l : List KeptCrl). All IsKeptCrl l) c.deref-2.ensures.value
          (c.are_in_der-2.ensures.kept c.if-not-are_in_der-2.false);
      signers = subst (λ (l : List KeptSigner). All IsAttested l) c.deref-3.ensures.value
          (c.are_in_der-3.ensures.kept c.if-not-are_in_der-3.false);
    })
