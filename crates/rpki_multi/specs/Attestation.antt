-- Multi-signed attestations (draft-michaelson-rpki-rta).
use Rattle.std.specs.Prelude.{ℕ, List}
use Rattle.rpki_der.specs.declared.mode.Mode.{Mode}
use Rattle.rpki_der.specs.declared.mode.Mode.TheVariants.{Der}
use Rattle.rpki_der.specs.Form.Made.{Begins}
use Rattle.rpki_tagged.specs.Attestation.{Attestation, AttestationForm}
use Rattle.rpki_multi.specs.Multi.{MultiSigned, KeptMulti, MultiForm, AreIn, multi_of}

-- a multi-signed object, and what its content says
pub record Whole : Type 0 where
  pub signed : MultiSigned
  pub content : Attestation

-- an attestation, with the modes that its parts were read in
pub record KeptWhole : Type 0 where
  pub signed : KeptMulti
  pub content : Attestation

-- the object and what its content says, without the modes
abbrev pub whole_of : KeptWhole → Whole
whole_of k = record { signed = multi_of k.signed; content = k.content }

-- A multi-signed attestation as an object: a multi-signed object, whose content's octets begin with
-- what the content says, which is in DER (draft-michaelson-rpki-rta, section 4). That octets may
-- follow it there is this project's own rule.
abbrev pub RtaForm : Mode → List ℕ → Whole → Type 0
RtaForm mode octets r =
    MultiForm mode octets r.signed × Begins (AttestationForm Der) r.signed.content r.content

-- All parts of the object are in DER, and its content's octets begin with what is kept as said by
-- them.
abbrev pub IsKeptRta : KeptWhole → Type 0
IsKeptRta k = AreIn Der k.signed × Begins (AttestationForm Der) k.signed.content k.content
