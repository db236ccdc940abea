-- The right to read octets for good can be had twice. Assumes `Logic`.
use Rattle.std.proofs.Common.{ℕ, List, []}
use seplogic.Ra.Ura.{Ura}
use base.Logic.{ent, sep}
use types.Logic.{Logic, sem}
use denote.Builtin.{u8}
use denote.SharingLaws.{contraction}
use denote.Plain.{uint_row_laws}
use denote.RawPtr.{Ptr, block_of, count_of}
use denote.Slice.{elements_shared, elements_shr_laws}
use mir.Syntax.{w8}
use Rattle.rpki_der.specs.StaticText.Owned.{shown_at}

module _ {M : Type 1} {𝓤 : Ura M} (𝓛 : Logic 𝓤) where
  pub shown_twice : (p : Ptr) (octets : List ℕ)
      → ent 𝓤 (sem 𝓛 (shown_at p octets)) (sep 𝓤 (sem 𝓛 (shown_at p octets)) (sem 𝓛 (shown_at p
      octets)))
  shown_twice p octets =
      contraction 𝓛 (elements_shared u8 octets (block_of p) (count_of p))
      (elements_shr_laws u8 (uint_row_laws w8) octets (block_of p) (count_of p)) []
