-- What is said of a file of a kind on the grounds of a question.
use Rattle.std.specs.Prelude.{◌≡◌, ℕ, List, Bool, true, false, Ok, Err, codes, string_bytes}
use Rattle.rpki_der.specs.declared.mode.Mode.{Mode}
use Rattle.rpki_der.specs.declared.mode.Mode.TheVariants.{Der}
use Rattle.rpki_certs.specs.Validate.{Validated}
use Rattle.rpki_crls.specs.Crl.{KeptCrl}
use Rattle.rpki_files.specs.Checklist.{ChecklistForm}
use Rattle.rpki_files.specs.Checklist.Checks.{checklist_kind}
use Rattle.rpki_files.specs.Manifest.{ManifestForm}
use Rattle.rpki_files.specs.Manifest.Checks.{manifest_kind}
use Rattle.rpki_multi.specs.Attestation.{KeptWhole}
use Rattle.rpki_routes.specs.Aspa.Checks.{aspa_kind}
use Rattle.rpki_routes.specs.Aspa.Form.{AspaForm}
use Rattle.rpki_routes.specs.Roa.Checks.{roa_kind}
use Rattle.rpki_routes.specs.Roa.Form.{RoaForm}
use Rattle.rpki_show.specs.Texts.Aspa.{aspa_text}
use Rattle.rpki_show.specs.Texts.Certificate.{certificate_text}
use Rattle.rpki_show.specs.Texts.Manifest.{manifest_text}
use Rattle.rpki_show.specs.Texts.Roa.{roa_text}
use Rattle.rpki_show.specs.Texts.Rsc.{rsc_text}
use Rattle.rpki_show.specs.Texts.Rta.{attestation_text}
use Rattle.rpki_show.specs.Texts.Tal.{tal_text}
use Rattle.rpki_show.specs.declared.texts.serial.Hexadecimal.TheVariants.{Plain}
use Rattle.rpki_sigobj.specs.Object.{mode_of}
use Rattle.rpki_sigobj.specs.Signed.Kind.{ObjectKind}
use Rattle.rpki_tal.specs.Tal.{Locator as Located}
use Rattle.rpki_validation.specs.Attestation.{IsGrantedOn}
use Rattle.rpki_validation.specs.Issuer.{IsNextCa}
use Rattle.rpki_validation.specs.Locator.{IsLocatorFound, is_memory_of_locator}
use Rattle.rpki_validation.specs.Object.{IsFoundOn}
use Rattle.rpki_validation.specs.Refusal.{is_memory, is_memory_at_ca}
use Rattle.rpki_validation.specs.RevocationList.{IsListFound, is_memory_of_list}
use Rattle.rpki_validation.specs.declared.grounds.Grounds.{Grounds}
use Rattle.rpki_validation.specs.declared.locator.LocatorFault.{LocatorFault}
use Rattle.rpki_validation.specs.declared.question.Question.{Question}
use Rattle.rpki_validation.specs.declared.refusal.CaFault.{CaFault}
use Rattle.rpki_validation.specs.declared.refusal.Refusal.{Refusal}
use Rattle.rpki_validation.specs.declared.revocation_list.ListFault.{ListFault}
use Rattle.rpki_program.specs.declared.verify.check.judged.Judged.{Judged}
use Rattle.rpki_program.specs.declared.verify.check.judged.Judged.TheVariants.{No, Yes}
use Rattle.rpki_program.specs.declared.verify.request.FileKind.{FileKind}
use Rattle.rpki_program.specs.declared.verify.request.FileKind.TheVariants.{Aspa, Attestation}
use Rattle.rpki_program.specs.declared.verify.request.FileKind.TheVariants.{Certificate, Checklist}
use Rattle.rpki_program.specs.declared.verify.request.FileKind.TheVariants.{Locator, Manifest, Roa}
use Rattle.rpki_program.specs.declared.verify.request.FileKind.TheVariants.{RevocationList}

-- whether it is a yes
abbrev pub is_yes : Judged → Bool
is_yes (Yes lines) = true
is_yes (No cause) = false

-- Of a signed object: a yes where the octets begin with a good one, with the lines of its content,
-- and a no where they are refused, and not for want of memory (`IsFoundOn`).
abbrev pub IsJudgedAs : {X : Type 0} → ObjectKind X → (List ℕ → X → Type 0) → (X → List ℕ) → Mode
    → Grounds → List ℕ → Judged → Type 0
IsJudgedAs {X} kind form lines mode g octets (Yes text) = (x : X)
    × IsFoundOn kind form mode g octets (Ok x) × (string_bytes text ≡ lines x)
IsJudgedAs kind form lines mode g octets (No cause) = (refusal : Refusal)
    × IsFoundOn kind form mode g octets (Err refusal) × (is_memory refusal ≡ false)

-- of an attestation
abbrev pub IsRtaJudged : Grounds → List ℕ → Judged → Type 0
IsRtaJudged g octets (Yes text) = (k : KeptWhole)
    × IsGrantedOn g octets (Ok k) × (string_bytes text ≡ attestation_text k.content)
IsRtaJudged g octets (No cause) = (refusal : Refusal)
    × IsGrantedOn g octets (Err refusal) × (is_memory refusal ≡ false)

-- of a certificate: whether it is that of a CA under the issuer, and no list revokes it
abbrev pub IsCaJudged : Grounds → List ℕ → Judged → Type 0
IsCaJudged g octets (Yes text) = (v : Validated)
    × IsNextCa g.lists.items g.moment g.issuer octets (Ok v)
    × (string_bytes text ≡ certificate_text v.cert.certificate)
IsCaJudged g octets (No cause) = (fault : CaFault)
    × IsNextCa g.lists.items g.moment g.issuer octets (Err fault) × (is_memory_at_ca fault ≡ false)

-- of a revocation list: whether it is the current one of the issuer
abbrev pub IsListJudged : Grounds → List ℕ → Judged → Type 0
IsListJudged g octets (Yes text) = (k : KeptCrl)
    × IsListFound g octets (Ok k) × (string_bytes text ≡ codes "crl\n")
IsListJudged g octets (No cause) = (fault : ListFault)
    × IsListFound g octets (Err fault) × (is_memory_of_list fault ≡ false)

-- of a locator: whether the certificate of the trust anchor has its key
abbrev pub IsLocatorJudged : Question → List ℕ → Judged → Type 0
IsLocatorJudged q octets (Yes text) = (l : Located)
    × IsLocatorFound q.anchor.now octets (Ok l) × (string_bytes text ≡ tal_text l.uris l.key)
IsLocatorJudged q octets (No cause) = (fault : LocatorFault)
    × IsLocatorFound q.anchor.now octets (Err fault) × (is_memory_of_locator fault ≡ false)

-- Of a file of a kind.
abbrev pub IsJudged : Question → Grounds → FileKind → List ℕ → Judged → Type 0
IsJudged q g Roa octets j =
    IsJudgedAs roa_kind RoaForm roa_text (mode_of q.manner.strict) g octets j
IsJudged q g Aspa octets j =
    IsJudgedAs aspa_kind (AspaForm q.manner.limit) aspa_text (mode_of q.manner.strict) g octets j
IsJudged q g Manifest octets j = IsJudgedAs manifest_kind (ManifestForm q.manner.names Der)
    (manifest_text Plain) (mode_of q.manner.strict) g octets j
IsJudged q g Checklist octets j =
    IsJudgedAs checklist_kind (ChecklistForm Der) rsc_text (mode_of q.manner.strict) g octets j
IsJudged q g Attestation octets j = IsRtaJudged g octets j
IsJudged q g Certificate octets j = IsCaJudged g octets j
IsJudged q g RevocationList octets j = IsListJudged g octets j
IsJudged q g Locator octets j = IsLocatorJudged q octets j
