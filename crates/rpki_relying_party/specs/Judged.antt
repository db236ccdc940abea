-- What comes of reading the files that a manifest lists.
use Rattle.std.specs.Prelude.{◌≡◌, ℕ, List, Result}
use Rattle.rpki_crls.specs.Crl.{RevocationList}
use Rattle.rpki_basics.specs.Moment.{Moment}
use Rattle.rpki_certs.specs.Validate.{Validated}
use Rattle.rpki_files.specs.Manifest.Uris.{UriAndHash}
use Rattle.rpki_relying_party.specs.Costs.{listing_cost, ReadCosts, HeldCosts}
use Rattle.rpki_relying_party.specs.Costs.{FileCosts, FileStarts, FilesCost, FilesLost, FilesStart}
use Rattle.rpki_relying_party.specs.Lacks.{IsLostFile, WhyNoFiles}
use Rattle.rpki_relying_party.specs.Outcome.{IsOutcome, AppendsBoth}
use Rattle.rpki_relying_party.specs.Setting.{Setting}
use Rattle.rpki_relying_party.specs.Tells.{KindTells, FileTells, FilesTell}
use Rattle.rpki_relying_party.specs.declared.cause.Cause.{Cause}
use Rattle.rpki_relying_party.specs.declared.cause.Stop.{Stop}
use Rattle.rpki_relying_party.specs.declared.files.Findings.{Findings}
use Rattle.rpki_relying_party.specs.declared.found.Finding.{Finding}
use Rattle.rpki_relying_party.specs.declared.kind.ListedKind.{ListedKind}
use Rattle.rpki_relying_party.specs.declared.place.Place.{Place}

-- What comes of a part of the reading of files, at these costs: what is told is put at the ends of
-- what was.
abbrev pub IsTold : (ℕ → Type 0) → (List Finding → List Place → Type 0) → (ℕ → Type 0)
    → (Cause → ℕ → Type 0) → Findings → Findings → ℕ → ℕ → Result (Unit {0}) Stop → Type 0
IsTold Starts Tells Costs Why told told2 room left result = IsOutcome Starts
    (λ _ n. AppendsBoth Tells told.said.items told2.said.items told.children.items
    told2.children.items × Costs n) Why room left result

-- What comes of the octets of a file that are judged by this kind.
abbrev pub IsJudged : Setting → Validated → RevocationList → Moment → List ℕ → List ℕ → List ℕ
    → ListedKind → Findings → Findings → ℕ → ℕ → Result (Unit {0}) Stop → Type 0
IsJudged s ca list until under uri octets kind told told2 room left result =
    IsTold (HeldCosts s ca list kind octets) (KindTells s ca list until under uri octets kind)
    (HeldCosts s ca list kind octets) (λ cause n. ⊥) told told2 room left result

-- Why the file refuses the point, and what is spent on it then.
abbrev pub WhyLost : Setting → Validated → List ℕ → List ℕ → UriAndHash → Cause → ℕ → Type 0
WhyLost s ca list_uri under file cause n = (¬ (file.0 ≡ list_uri)) × IsLostFile s file cause
    × ReadCosts s (listing_cost ca under (file.0)) (file.0) n

-- What comes of a listed file.
abbrev pub IsFileRead : Setting → Validated → List ℕ → RevocationList → Moment → List ℕ → UriAndHash
    → Findings → Findings → ℕ → ℕ → Result (Unit {0}) Stop → Type 0
IsFileRead s ca list_uri list until under file told told2 room left result =
    IsTold (FileStarts s ca list_uri list under file)
    (FileTells s ca list_uri list until under file) (FileCosts s ca list_uri list under file)
    (WhyLost s ca list_uri under file) told told2 room left result

-- What comes of one file after the other.
abbrev pub AreFilesRead : Setting → Validated → List ℕ → RevocationList → Moment → List ℕ
    → List UriAndHash → Findings → Findings → ℕ → ℕ → Result (Unit {0}) Stop → Type 0
AreFilesRead s ca list_uri list until under files told told2 room left result =
    IsTold (FilesStart s ca list_uri list under files)
    (FilesTell s ca list_uri list until under files) (FilesCost s ca list_uri list under files)
    (λ cause n. WhyNoFiles s files list_uri cause × FilesLost s ca list_uri list under files n)
    told told2 room left result
