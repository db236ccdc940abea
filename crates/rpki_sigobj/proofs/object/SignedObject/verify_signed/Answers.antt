use Rattle.std.specs.Prelude.{◌++◌}
use Rattle.std.proofs.lemmas.Result.{err_from_is_err_and}
use Rattle.rpki_faults.specs.Checks.{◌as_faults_of◌}
use Rattle.rpki_faults.specs.declared.validation.ValidationError.TheVariants.{Memory}
use Rattle.rpki_faults.specs.declared.validation.ValidationError.TheVariants.{Inspection}
use Rattle.rpki_faults.specs.declared.validation.ValidationError.TheVariants.{Verification}
use Rattle.rpki_faults.proofs.Order.{hold-shown}
use Rattle.rpki_certs.proofs.Checking.{later-refuses, shown-refuses, shown-answers}
use Rattle.rpki_sigobj.specs.Verify.{signer_checks, content_checks, signature_checks}
use Rattle.rpki_sigobj.proofs.object.SignedObject.verify_signed.Goals as goal

pub returns-in_err-inspect_signer : goal.returns-in_err-inspect_signer
returns-in_err-inspect_signer g c =
    let p = err_from_is_err_and c.from_residual.result c.from_residual.ensures.1 in
    let s = c.args.self.now.object.signed in
    let digest = g.C.Crypto.digest_of c.args.crypto.now in
    let verdict = g.C.Crypto.is_signed c.args.crypto.now in
    rw (p.1, p.2) (shown-refuses Inspection Memory (signer_checks s)
    ((Verification as_faults_of content_checks digest s)
    ++ (Verification as_faults_of signature_checks verdict s)) _ c.in_err-inspect_signer.ensures)

pub returns-in_err-verify_content : goal.returns-in_err-verify_content
returns-in_err-verify_content g c =
    let r = c.from_residual-in_err-verify_content in
    let p = err_from_is_err_and r.result r.ensures.1 in
    let s = c.args.self.now.object.signed in
    let digest = g.C.Crypto.digest_of c.args.crypto.now in
    let verdict = g.C.Crypto.is_signed c.args.crypto.now in
    rw (p.1, p.2) (later-refuses Memory (Inspection as_faults_of signer_checks s)
    ((Verification as_faults_of content_checks digest s)
    ++ (Verification as_faults_of signature_checks verdict s)) _
    (hold-shown Inspection (signer_checks s) c.in_ok-inspect_signer.ensures)
    (shown-refuses Verification Memory (content_checks digest s)
    (Verification as_faults_of signature_checks verdict s) _ c.in_err-verify_content.ensures))

pub returns : goal.returns
returns g c =
    let s = c.args.self.now.object.signed in
    let digest = g.C.Crypto.digest_of c.args.crypto.now in
    let verdict = g.C.Crypto.is_signed c.args.crypto.now in
    shown-answers Inspection Memory (signer_checks s)
    ((Verification as_faults_of content_checks digest s)
    ++ (Verification as_faults_of signature_checks verdict s)) (λ _. Unit {0}) _
    c.in_ok-inspect_signer.ensures
    (shown-answers Verification Memory (content_checks digest s)
    (Verification as_faults_of signature_checks verdict s) (λ _. Unit {0}) _
    c.in_ok-verify_content.ensures c.verify_signature.ensures)
