-- Certificates that were read, beside their octets.
use Rattle.std.proofs.Common.{◌≡◌, ℕ, List, Option, Some, Result, Ok, refl, sym, subst}
use Rattle.std.specs.Prelude.{option_map}
use Rattle.rpki_der.specs.declared.mode.Mode.{Mode}
use Rattle.rpki_der.specs.declared.error.DecodeError.{DecodeError}
use Rattle.rpki_der.specs.Captured.{Kept}
use Rattle.rpki_der.specs.Grammar.{IsBytes}
use Rattle.rpki_der.specs.Form.Made.{with_octets}
use Rattle.rpki_der.specs.Form.Parts.{sequence_at}
use Rattle.rpki_der.specs.Read.Parse.{Parser, optional}
use Rattle.rpki_der.specs.Read.Reads.{Reads}
use Rattle.rpki_der.specs.Read.State.{State}
use Rattle.rpki_der.specs.Tags.{SEQUENCE}
use Rattle.rpki_der.proofs.Form.Words.{keep, option}
use Rattle.rpki_der.proofs.Reading.Calls.{reads-ok}
use Rattle.rpki_certs.specs.Cert.{Contents, KeptContents, CertForm, IsKept}
use Rattle.rpki_certs.specs.Cert.{contents_at, certificate_of}
use Rattle.rpki_certs.proofs.Certs.Exact.{ContentsForm, contents-part}

-- what was read and kept
abbrev pub read_of : KeptContents × Kept → Contents × List ℕ
read_of k = (k.0.contents, k.1.octets)

abbrev pub whole_at : Parser (Contents × List ℕ)
whole_at = with_octets (sequence_at contents_at)

-- what was read is a certificate
pub kept-of : (old : State) (contents : KeptContents) (k : Kept) (new : State) → IsBytes old.rest
    → (let r : Result (KeptContents × Kept) DecodeError = Ok (contents, k) in
    Reads read_of whole_at old r new)
    → k.mode ≡ old.mode
    → IsKept (record { certificate = certificate_of (contents.contents, k.octets); mode = k.mode })
kept-of old contents k new bytes reads mode =
    let r = reads-ok read_of whole_at old (contents, k) new reads in
    let f = ((keep contents-part).exact old.mode).sound old.rest
    (contents.contents, k.octets) new.rest bytes r.found in
    subst (λ (m : Mode). CertForm m k.octets (certificate_of (contents.contents, k.octets)))
    (sym mode)
    (refl, subst (λ (o : List ℕ). ContentsForm old.mode o contents.contents) (sym f.2.1) f.2.0)

-- what was read and kept, if there was one
abbrev pub opt_read_of : Option KeptContents × Kept → Option Contents × List ℕ
opt_read_of k = (option_map (λ (c : KeptContents). c.contents) k.0, k.1.octets)

abbrev pub opt_whole_at : Parser (Option Contents × List ℕ)
opt_whole_at = with_octets (optional SEQUENCE (sequence_at contents_at))

-- what was read where it may be next is a certificate
pub opt-kept-of : (old : State) (found : Option KeptContents) (contents : KeptContents)
    (k : Kept) (new : State) → found ≡ Some contents → IsBytes old.rest
    → (let r : Result (Option KeptContents × Kept) DecodeError = Ok (found, k) in
    Reads opt_read_of opt_whole_at old r new)
    → k.mode ≡ old.mode
    → IsKept (record { certificate = certificate_of (contents.contents, k.octets); mode = k.mode })
opt-kept-of old found contents k new is bytes reads mode =
    let r = reads-ok opt_read_of opt_whole_at old (found, k) new reads in
    let there = subst (λ (o : Option KeptContents).
    opt_whole_at old.mode old.rest ≡ Some (opt_read_of (o, k), new.rest)) is r.found in
    let f = ((keep (option SEQUENCE contents-part)).exact old.mode).sound old.rest
    (Some contents.contents, k.octets) new.rest bytes there in
    subst (λ (m : Mode). CertForm m k.octets (certificate_of (contents.contents, k.octets)))
    (sym mode)
    (refl, subst (λ (o : List ℕ). ContentsForm old.mode o contents.contents) (sym f.2.1) f.2.0)
