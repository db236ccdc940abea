-- What certification paths see of handles.
use Rattle.rpki_basics.specs.Moment.{Moment}
use Rattle.rpki_certs.specs.Cert.{Certificate}
use Rattle.rpki_certs.specs.Verify.{Verdict}
use Rattle.rpki_paths.specs.Pairing.{Crl, Signer}
use Rattle.rpki_rta.specs.Carried.{seen_crl, seen_signer}
use Rattle.rpki_rta.specs.declared.carried.CarriedCrl.{CarriedCrl}
use Rattle.rpki_rta.specs.declared.unchecked.UncheckedCert.{UncheckedCert}
use Rattle.rpki_rta.specs.declared.signers.Signer.{Signer as Handle}

-- an unchecked certificate, the cryptography and the moment
abbrev pub unchecked_view : {C : Type 0} → UncheckedCert C → Certificate × (C × Moment)
unchecked_view x = (x.cert.now.certificate, (x.crypto.now, x.now.now))

-- what pairings see of the handle of a revocation list
abbrev pub crl_of : {C : Type 0} → (C → Verdict) → CarriedCrl C → Crl
crl_of says l = seen_crl (says l.crypto.now) l.crl.now.list

-- what pairings see of the handle of a signer
abbrev pub signer_of : {C : Type 0} → (C → Verdict) → Handle C → Signer
signer_of says s = seen_signer (says s.crypto.now) s.digest s.info.now.signer
