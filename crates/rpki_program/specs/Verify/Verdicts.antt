-- What a list of good signatures is.
use Rattle.std.specs.Prelude.{◌≡◌, ℕ, List, Ok}
use Rattle.rpki_cli.specs.Store.{IsRead, Told}
use Rattle.rpki_cli.specs.Words.{texts}
use Rattle.rpki_rsa.specs.Signature.{is_rsa_signature}
use Rattle.rpki_sigobj.specs.Object.{mode_of}
use Rattle.rpki_verdicts.specs.Lists.{IsListingOf}
use Rattle.rpki_program.specs.Verify.Inputs.{AreOctets}
use Rattle.rpki_program.specs.declared.verify.request.VerdictsRequest.{VerdictsRequest}
use Rattle.rpki_program.specs.declared.verify.verdicts.CheckedFiles.{CheckedFiles}

-- the octets of the files of a check, by what the store tells of them
pub record AreChecked (told : Told) (r : VerdictsRequest) (f : CheckedFiles) : Type 0 where
  pub object : IsRead (told r.object.now) (Ok f.object)
  pub anchor : IsRead (told r.ta.now) (Ok f.anchor)
  pub chain : AreOctets told (texts r.cas.items) f.chain.items

-- The text lists the good ones of the signatures that a check of the object of the request asks
-- about, under its certificates.
pub record IsList (told : Told) (r : VerdictsRequest) (text : List ℕ) : Type 0 where
  pub files : CheckedFiles
  pub are : AreChecked told r files
  pub list : IsListingOf (mode_of r.manner.strict) is_rsa_signature files.object files.anchor
      files.chain.items text

-- what is reported of such a request: where the status is 0, that list
abbrev pub IsListReport : Told → VerdictsRequest → List ℕ → ℕ → Type 0
IsListReport told r text status = status ≡ 0 → IsList told r text
