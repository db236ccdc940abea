-- Kinds of files, and what says them.
use Rattle.std.specs.Prelude.{◌≡◌, ℕ, List, ◌++◌, Option, None, Some, map, codes}
use Rattle.std.specs.Char.{to_ascii_lowercase}
use Rattle.rpki_program.specs.declared.verify.request.FileKind.{FileKind}
use Rattle.rpki_program.specs.declared.verify.request.FileKind.TheVariants.{Roa, Aspa, Manifest}
use Rattle.rpki_program.specs.declared.verify.request.FileKind.TheVariants.{Checklist, Attestation}
use Rattle.rpki_program.specs.declared.verify.request.FileKind.TheVariants.{Certificate}
use Rattle.rpki_program.specs.declared.verify.request.FileKind.TheVariants.{RevocationList, Locator}

-- the word of each kind
abbrev pub kind_word : FileKind → List ℕ
kind_word Roa = codes "roa"
kind_word Aspa = codes "aspa"
kind_word Manifest = codes "manifest"
kind_word Checklist = codes "rsc"
kind_word Attestation = codes "rta"
kind_word Certificate = codes "certificate"
kind_word RevocationList = codes "crl"
kind_word Locator = codes "tal"

-- What the names of the files of each kind end with: what the registry "RPKI Repository Name
-- Schemes" has (RFC 6481, section 7.2; for checklists RFC 9323); and for attestations and locators,
-- which are not in it, what is in use.
abbrev pub extension : FileKind → List ℕ
extension Roa = codes ".roa"
extension Aspa = codes ".asa"
extension Manifest = codes ".mft"
extension Checklist = codes ".sig"
extension Attestation = codes ".rta"
extension Certificate = codes ".cer"
extension RevocationList = codes ".crl"
extension Locator = codes ".tal"

-- The name is that of a file of this kind: it ends with what the names of the kind do, in any case.
-- That the case does not count, where the registry has lower case, is this project's own rule.
pub record IsNameOf (name : List ℕ) (kind : FileKind) : Type 0 where
  pub stem : List ℕ
  pub ending : List ℕ
  pub parts : name ≡ stem ++ ending
  pub kind_of : map to_ascii_lowercase ending ≡ extension kind

-- the kind of a file: the one that is given, or else the one that its name says
abbrev pub IsKindOf : Option FileKind → List ℕ → FileKind → Type 0
IsKindOf (Some given) name kind = kind ≡ given
IsKindOf None name kind = IsNameOf name kind
