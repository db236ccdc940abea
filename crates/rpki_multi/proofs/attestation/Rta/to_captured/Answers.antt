use Rattle.std.proofs.Common.{◌≡◌, ◌⊎◌, ℕ, ◌<◌, ◌^◌, List, length, Err, refl, sym, subst, inl, inr}
use Rattle.std.proofs.Common.{ap, ◌∙◌}
use Rattle.rpki_der.specs.declared.mode.Mode.TheVariants.{Der}
use Rattle.rpki_der.specs.declared.encode.EncodeError.{EncodeError}
use Rattle.rpki_der.specs.declared.encode.EncodeError.TheVariants.{NotDer, TooLong, Io, Memory}
use Rattle.rpki_der.specs.Write.Encode.{Fits, IsBytesOf}
use Rattle.rpki_multi.specs.Attestation.{RtaForm, whole_of}
use Rattle.rpki_multi.specs.Multi.{KeptMulti, AreIn}
use Rattle.rpki_multi.specs.Written.{multi_contents, multi_octets}
use Rattle.rpki_multi.proofs.attestation.Rta.to_captured.Goals as goal

-- what is in DER is refused for its length or for want of memory alone
bytes-refused : (der short : Type 0) (octets : List ℕ) (e : EncodeError) → der
    → IsBytesOf der short octets (Err e)
    → (e ≡ Memory) ⊎ ((e ≡ TooLong) × ¬ (Fits short octets))
bytes-refused der short octets NotDer d h = absurd (h d)
bytes-refused der short octets TooLong d h = inr (refl, h)
bytes-refused der short octets Io d h = absurd h
bytes-refused der short octets Memory d h = inl refl

pub returns-in-Err-clause-refused : goal.returns-in-Err-clause-refused
returns-in-Err-clause-refused c =
    let signed : KeptMulti = c.encode_ref.result in
    subst (λ (k : KeptMulti). (c.in-Err.e ≡ Memory) ⊎ ((c.in-Err.e ≡ TooLong)
    × ¬ (Fits (length (multi_contents k) < 2 ^ 32) (multi_octets k)))) c.encode_ref.ensures.value
    (bytes-refused (AreIn Der signed) (length (multi_contents signed) < 2 ^ 32)
    (multi_octets signed) c.in-Err.e
    (subst (λ (k : KeptMulti). AreIn Der k) (sym c.encode_ref.ensures.value)
    c.encode_ref.ensures.mode)
    c.in-Err.ensures)

pub returns-in-Ok-from_vec-clause-written : goal.returns-in-Ok-from_vec-clause-written
returns-in-Ok-from_vec-clause-written c =
    let written = c.in-Ok.ensures in
    let octets = c.in-Ok-from_vec.ensures.ok ∙ written.0
    ∙ ap multi_octets c.encode_ref.ensures.value in
    subst (λ (o : List ℕ). RtaForm Der o (whole_of c.args.self.now)) (sym octets)
    (c.encode_ref.ensures.written
    (subst (λ (k : KeptMulti). length (multi_contents k) < 2 ^ 32) c.encode_ref.ensures.value
    written.2.0))
