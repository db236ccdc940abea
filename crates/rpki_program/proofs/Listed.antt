-- Lists of good signatures.
use Rattle.std.proofs.Common.{◌≡◌, Result, Ok, Err}
use Rattle.std.specs.Prelude.{IfOk, string_bytes}
use Rattle.std.specs.declared.alloc.AllocError.{AllocError}
use Rattle.rpki_cli.specs.Store.{Told}
use Rattle.rpki_rsa.specs.Signature.{is_rsa_signature}
use Rattle.rpki_sigobj.specs.Object.{mode_of}
use Rattle.rpki_verdicts.specs.Lists.{IsListingOf}
use Rattle.rpki_program.specs.Verify.Verdicts.{AreChecked, IsListReport}
use Rattle.rpki_program.specs.declared.verify.report.Report.{Report}
use Rattle.rpki_program.specs.declared.verify.request.VerdictsRequest.{VerdictsRequest}
use Rattle.rpki_program.specs.declared.verify.verdicts.CheckedFiles.{CheckedFiles}

-- what is listed of the files of a request is its list
pub listed : (told : Told) (r : VerdictsRequest) (files : CheckedFiles) → AreChecked told r files
    → (made : Result Report AllocError)
    → IfOk made (λ x. x.status ≡ 0 → IsListingOf (mode_of r.manner.strict) is_rsa_signature
    files.object files.anchor files.chain.items (string_bytes x.out))
    → IfOk made (λ x. IsListReport told r (string_bytes x.out) x.status)
listed told r files are (Ok x) h = λ e. record { files = files; are = are; list = h e }
listed told r files are (Err e) h = tt
