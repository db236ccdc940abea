-- Attestations with the dates of the entries of the revocation lists that they carry
-- (draft-michaelson-rpki-rta, section 3).
use Rattle.std.specs.Prelude.{ℕ, List}
use Rattle.std.specs.List.{AllZip}
use Rattle.rpki_crls.specs.Crl.{RevocationList}
use Rattle.rpki_der.specs.declared.mode.Mode.{Mode}
use Rattle.rpki_multi.specs.Attestation.{Whole, KeptWhole, RtaForm, whole_of}
use Rattle.rpki_show.specs.Dated.{DatedForm, DatedList}

-- an attestation, and the revocation lists that it carries, with the dates of their entries
pub record DatedWhole : Type 0 where
  pub rta : Whole
  pub lists : List DatedList

-- There are as many lists with dates as revocation lists, and each says what the octets of the one
-- in its place say.
abbrev pub AreDated : Mode → List RevocationList → List DatedList → Type 0
AreDated mode = AllZip (λ (l : RevocationList) (d : DatedList). DatedForm mode l.octets d)

-- A multi-signed attestation, and what its revocation lists say with the dates of their entries.
abbrev pub DatedRtaForm : Mode → List ℕ → DatedWhole → Type 0
DatedRtaForm mode octets r = RtaForm mode octets r.rta × AreDated mode r.rta.signed.crls r.lists

-- such an attestation, with the modes that its parts were read in, and its lists
pub record KeptDated : Type 0 where
  pub rta : KeptWhole
  pub lists : List DatedList

-- an attestation with its dated lists, without the modes
abbrev pub dated_of : KeptDated → DatedWhole
dated_of k = record { rta = whole_of k.rta; lists = k.lists }
