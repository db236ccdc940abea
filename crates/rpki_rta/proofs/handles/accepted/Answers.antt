-- What handles say is what the attestation says.
use Rattle.std.proofs.Common.{◌≤◌, ◌+◌, map, ap, ◌∙◌, subst}
use Rattle.std.proofs.lemmas.Result.{err_from_is_err_and}
use Rattle.rpki_paths.specs.declared.acceptance.AcceptFault.TheVariants as why
use Rattle.rpki_paths.specs.Accepting.{AreAccepted, most_verdicts}
use Rattle.rpki_paths.specs.Pairing.{HasDistinctIds}
use Rattle.rpki_rta.specs.Begun.{cert_of}
use Rattle.rpki_rta.specs.Handles.{unchecked_view, crl_of, signer_of}
use Rattle.rpki_rta.proofs.Handling.{carried-here, good-here, heads-here, why-told}
use Rattle.rpki_rta.proofs.handles.accepted.Goals as goal

pub returns-in_err-handles-clause-why : goal.returns-in_err-handles-clause-why
returns-in_err-handles-clause-why g c =
    let p = err_from_is_err_and c.from_residual.result c.from_residual.ensures.1 in
    rw p.1 (why.Memory, tt, p.2)

pub returns-in-Ok-clause-good : goal.returns-in-Ok-clause-good
returns-in-Ok-clause-good g c =
    good-here g.C.Crypto.is_signed c.args.crypto.now c.args.now c.args.rta.now
    c.as_slice-3.result.now
    (ap (map unchecked_view) c.as_slice-3.ensures.value ∙ c.in_ok-handles.ensures.unchecked)
    c.in-Ok.ensures.good

pub returns-in-Ok-clause-accepted : goal.returns-in-Ok-clause-accepted
returns-in-Ok-clause-accepted g c =
    let says = g.C.Crypto.is_signed in
    let h = c.in_ok-handles.ensures in
    subst (λ a. AreAccepted (cert_of says) a c.in-Ok.paths.items)
    (carried-here says c.args.crypto.now c.args.now c.args.rta.now
    (g.C.Crypto.digest_of c.args.crypto.now) (record {
      subject_keys = c.as_slice.result;
      signers = c.as_slice-2.result;
      certs = c.as_slice-3.result;
      crls = c.as_slice-4.result;
      sets = c.attested_in.result;
    })
    (ap (map unchecked_view) c.as_slice-3.ensures.value ∙ h.unchecked)
    (c.as_slice.ensures.value ∙ h.keys)
    (ap (map (signer_of says)) c.as_slice-2.ensures.value ∙ h.signers)
    (ap (map (crl_of says)) c.as_slice-4.ensures.value ∙ h.lists)) c.in-Ok.ensures.accepted

pub returns-in-Ok-clause-heads : goal.returns-in-Ok-clause-heads
returns-in-Ok-clause-heads g c =
    heads-here g.C.Crypto.is_signed c.args.crypto.now c.args.now c.args.rta.now
    c.as_slice-3.result.now
    (ap (map unchecked_view) c.as_slice-3.ensures.value ∙ c.in_ok-handles.ensures.unchecked)
    c.in-Ok.paths.items c.in-Ok.ensures.heads

pub returns-in-Ok-clause-cost : goal.returns-in-Ok-clause-cost
returns-in-Ok-clause-cost g c =
    let says = g.C.Crypto.is_signed in
    let h = c.in_ok-handles.ensures in
    subst (λ a. HasDistinctIds a → c.accept.new.asked ≤ c.args.asked.now + most_verdicts a)
    (carried-here says c.args.crypto.now c.args.now c.args.rta.now
    (g.C.Crypto.digest_of c.args.crypto.now) (record {
      subject_keys = c.as_slice.result;
      signers = c.as_slice-2.result;
      certs = c.as_slice-3.result;
      crls = c.as_slice-4.result;
      sets = c.attested_in.result;
    })
    (ap (map unchecked_view) c.as_slice-3.ensures.value ∙ h.unchecked)
    (c.as_slice.ensures.value ∙ h.keys)
    (ap (map (signer_of says)) c.as_slice-2.ensures.value ∙ h.signers)
    (ap (map (crl_of says)) c.as_slice-4.ensures.value ∙ h.lists)) c.in-Ok.ensures.cost

pub returns-clause-why : goal.returns-clause-why
returns-clause-why g c =
    let says = g.C.Crypto.is_signed in
    let h = c.in_ok-handles.ensures in
    let certs = ap (map unchecked_view) c.as_slice-3.ensures.value ∙ h.unchecked in
    let digest = g.C.Crypto.digest_of c.args.crypto.now in
    let same =
    carried-here says c.args.crypto.now c.args.now c.args.rta.now digest (record {
      subject_keys = c.as_slice.result;
      signers = c.as_slice-2.result;
      certs = c.as_slice-3.result;
      crls = c.as_slice-4.result;
      sets = c.attested_in.result;
    })
    certs (c.as_slice.ensures.value ∙ h.keys)
    (ap (map (signer_of says)) c.as_slice-2.ensures.value ∙ h.signers)
    (ap (map (crl_of says)) c.as_slice-4.ensures.value ∙ h.lists) in (
      c.in-Err.fault,
      why-told says c.args.crypto.now c.args.now c.args.rta.now c.as_slice-3.result.now certs
          digest _ same c.in-Err.fault c.in-Err.ensures.refused,
      c.of_acceptance.ensures,
    )
